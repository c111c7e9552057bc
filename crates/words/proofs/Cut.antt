-- Levi's lemma: two cuts of one row.
use mathlib.Core.List.{List, [], append-nil, ◌++◌, ◌∷◌}
use mathlib.Core.Logic.{inl, inr, ◌⊎◌}
use mathlib.Core.Path.{ap, refl, sym, ◌∙◌, ◌≡◌}
use Prim.Native.Nat.{ℕ, ◌≤◌}
use native.Mathlib.Omega.{arith}
use lib.ListN.{length, length-append}

-- p is x and more, r; and y is r and q
pub record Cut (p x y q : List ℕ) : Type 0 where
  pub r : List ℕ
  pub left : p ≡ x ++ r
  pub right : y ≡ r ++ q

-- of x ++ y ≡ p ++ q: p is x and a part of y, or x is p and a part of q
pub levi : (x y p q : List ℕ) → x ++ y ≡ p ++ q → Cut p x y q ⊎ Cut x p q y
levi [] y p q e = inl (record { r = p; left = refl; right = e })
levi (c ∷ x) y [] q e = inr (record { r = c ∷ x; left = refl; right = sym e })
levi (c ∷ x) y (d ∷ p) q e = go (levi x y p q (cc))
  where
    cd : c ≡ d
    cd = cc

    go : Cut p x y q ⊎ Cut x p q y → Cut (d ∷ p) (c ∷ x) y q ⊎ Cut (c ∷ x) (d ∷ p) q y
    go (inl k) = inl (record { r = k.r; left = cc (cd, k.left); right = k.right })
    go (inr k) = inr (record { r = k.r; left = cc (cd, k.left); right = k.right })

-- the first cut is not behind the second
pub cut : (x y p q : List ℕ) → x ++ y ≡ p ++ q → length x ≤ length p → Cut p x y q
cut x y p q e l = go (levi x y p q e)
  where
    turned : (r : List ℕ) → x ≡ p ++ r → q ≡ r ++ y → Cut p x y q
    turned [] f g = record { r = []; left = sym (append-nil x ∙ f ∙ append-nil p); right = sym g }
    turned (c ∷ r) f g = absurd (omega (arith, simp length-append at (ap length f)))

    go : Cut p x y q ⊎ Cut x p q y → Cut p x y q
    go (inl k) = k
    go (inr k) = turned k.r k.left k.right
