-- A necklace against the rotations of its reverse, one after the other: what each comparison tells of the bracelet.
use mathlib.Core.Bool.{false, true}
use mathlib.Core.List.{List, reverse}
use mathlib.Core.Logic.{inl, inr, ◌⊎◌}
use mathlib.Core.Path.{refl, subst, sym, ◌∙◌, ◌≡◌}
use Prim.Native.Nat.{ℕ, ◌+◌, ◌<◌, ◌≤◌}
use native.Mathlib.Omega.{arith}
use lib.ListN.{length, length-reverse}
use Rattle.words.proofs.AtMost.{lower, not_both, ◌≼◌}
use Rattle.words.proofs.Below.{cmp_eq, cmp_gt, cmp-lt, le_or}
use Rattle.words.proofs.Booleans.{never}
use Rattle.words.proofs.LeastRotation.{least_low, least_only}
use Rattle.words.proofs.OrderTests.{order_equal, order_higher, order_lower}
use Rattle.words.proofs.PowerOrder.{Necklace}
use Rattle.words.proofs.RotationAgain.{rotation_self, rotation_sym, rotation_trans}
use Rattle.words.proofs.Rotations.{is_necklace→}
use Rattle.words.specs.Order.{cmp, order_of}
use Rattle.words.specs.Reversal.{is_bracelet}
use Rattle.words.specs.Rotation.{IsRotation, is_necklace, rotation}
use Rattle.std.specs.declared.cmp.Ordering.{Ordering as Answer}
use Rattle.std.specs.declared.cmp.Ordering.TheVariants.{Equal, Greater, Less}
use Rattle.words.proofs.TurnedKey.{is_bracelet→, necklace_bracelet}

-- w is at or below the first j rotations of its reverse
pub record Passed (w : List ℕ) (j : ℕ) : Type 0 where
  pub inside : j ≤ length w
  pub low : (i : ℕ) → i < j → w ≼ rotation i (reverse w)

pub passed_none : (w : List ℕ) → Passed w 0
passed_none w = record { inside = omega arith; low = λ i h. absurd (omega arith) }

module _ {w : List ℕ} {j : ℕ} (p : Passed w j) where
  -- all are passed
  pub passed_all : 0 < length w → is_necklace w ≡ true → length w ≤ j → true ≡ is_bracelet w
  passed_all h s l = sym (necklace_bracelet w h (is_necklace→ w s) (λ v r. subst (λ u. w ≼ u) (sym r.is) (p.low r.by (omega (arith, r.inside, length-reverse w)))))

  -- the next one, by what its comparison answers
  module _ (h : j < length w) (r : Answer) (e : r ≡ order_of (cmp w (rotation j (reverse w)))) where
    next : IsRotation (reverse w) (rotation j (reverse w))
    next = record { by = j; inside = omega (arith, length-reverse w); is = refl }

    pub passed_more : r ≡ Less → Passed w (j + 1)
    passed_more q = record { inside = omega arith; low = λ i l. pick i (le_or j i) l }
      where
        pick : (i : ℕ) → (j ≤ i) ⊎ (i < j) → i < j + 1 → w ≼ rotation i (reverse w)
        pick i (inl a) l = let z : i ≡ j = omega arith in rw z (lower (cmp-lt w (rotation j (reverse w)) (order_lower _ (sym e ∙ q))))
        pick i (inr a) l = p.low i a

    -- a lower rotation
    pub passed_lower : r ≡ Greater → false ≡ is_bracelet w
    passed_lower q = sym (never (is_bracelet w) (λ t. not_both (cmp_gt w (rotation j (reverse w)) (order_higher _ (sym e ∙ q))) (is_bracelet→ w (omega arith) t (rotation j (reverse w)) (inr next))))

    -- the row itself: the reverse has the row's own rotations
    pub passed_equal : is_necklace w ≡ true → r ≡ Equal → true ≡ is_bracelet w
    passed_equal s q = sym (necklace_bracelet w (omega arith) k (λ v a. subst (λ u. u ≼ v) (sym (least_only w (omega arith) (rotation_self w (omega arith)) k)) (least_low w (omega arith) (rotation_trans (rotation_sym own) a))))
      where
        k : Necklace w
        k = is_necklace→ w s

        own : IsRotation (reverse w) w
        own = record { by = j; inside = omega (arith, length-reverse w); is = cmp_eq w (rotation j (reverse w)) (order_equal _ (sym e ∙ q)) }
