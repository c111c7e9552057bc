-- The claims on the order of rows hold.
use mathlib.Core.List.{List, [], ◌∷◌}
use mathlib.Core.Logic.{inl, inr, ◌⊎◌}
use mathlib.Core.Path.{ap, refl, ◌≡◌}
use Prim.Native.Nat.{ℕ}
use Rattle.words.proofs.AtMost.{equal, lower, ◌≼◌}
use Rattle.words.proofs.Below.{cmp_eq, cmp_gt, cmp_is, cmp-lt, here, is_eq, is_gt, is_less, longer, short, there, ≺_under, ◌≺◌}
use Rattle.words.proofs.OrderTests.{le→, lt→, order_equal, order_higher, order_lower, same→, →le, →lt, →same}
use Rattle.words.specs.Claims.{DictionaryOrder, LiesBelow, OrderTests}
use Rattle.words.specs.Order.{cmp, order_of}

below→ : {a b : List ℕ} → a ≺ b → LiesBelow a b
below→ (short {y = y} {ys = ys}) = inl (y, ys, refl)
below→ (here {x = x} {y = y} {xs = xs} {ys = ys} h) =
    inr (record { front = []; x = x; y = y; xs = xs; ys = ys; of_a = refl; of_b = refl; lower = h })
below→ (there {x = z} {xs = xs} {ys = ys} h) = go (below→ h)
  where
    go : LiesBelow xs ys → LiesBelow (z ∷ xs) (z ∷ ys)
    go (inl (y, more, e)) = inl (y, more, ap (λ t. z ∷ t) e)
    go (inr l) =
        inr
        (record {
          front = z ∷ l.front;
          x = l.x;
          y = l.y;
          xs = l.xs;
          ys = l.ys;
          of_a = ap (λ t. z ∷ t) l.of_a;
          of_b = ap (λ t. z ∷ t) l.of_b;
          lower = l.lower;
        })

→below : {a b : List ℕ} → LiesBelow a b → a ≺ b
→below {a} {b} (inl (y, ys, e)) = rw e (longer a y ys)
→below {a} {b} (inr l) = rw (l.of_a, l.of_b) (≺_under l.front (here l.lower))

pub dictionary_order : DictionaryOrder
dictionary_order a b = (
  (λ e. below→ (cmp-lt a b (order_lower (cmp a b) e)), λ h. ap order_of (cmp_is (is_less (→below h)))),
  (λ e. cmp_eq a b (order_equal (cmp a b) e), λ e. ap order_of (cmp_is (is_eq e))),
  (λ e. below→ (cmp_gt a b (order_higher (cmp a b) e)), λ h. ap order_of (cmp_is (is_gt (→below h)))),
)

pub order_tests : OrderTests
order_tests a b = (
  (λ e. below→ (lt→ a b e), λ h. →lt a b (→below h)),
  (λ e. split (le→ a b e), λ h. →le a b (join h)),
  (same→ a b, →same a b),
)
  where
    split : a ≼ b → LiesBelow a b ⊎ (a ≡ b)
    split (equal e) = inr e
    split (lower h) = inl (below→ h)

    join : LiesBelow a b ⊎ (a ≡ b) → a ≼ b
    join (inl h) = lower (→below h)
    join (inr e) = equal e
