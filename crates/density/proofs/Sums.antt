-- Rows compared by the sums of their beginnings, and floors.
use mathlib.Core.List.{List, [], ◌∷◌}
use mathlib.Core.Path.{refl, ◌≡◌}
use Prim.Native.Nat.{Ordering, suc, ℕ, ◌+◌, ◌/◌, ◌<◌, ◌≤◌}
use native.Mathlib.Nat.{div-mul-le_self, le-div_iff_mul-le, le_trans}
use native.Mathlib.Omega.{arith}
use lib.ListN.{length, take}
use Rattle.words.proofs.AtMost.{equal, lower, ≼_there, ◌≼◌}
use Rattle.words.proofs.Below.{Means, compare_means, here, is_eq, is_gt, is_less}
use Rattle.words.specs.Symbols.{sum}

-- where every beginning of r sums up to at most that of s, r is at or below s
pub by_sums : (r s : List ℕ) → length r ≡ length s → ((j : ℕ) → j ≤ length r → sum (take j r) ≤ sum (take j s)) → r ≼ s
unfolding sum
by_sums [] [] e h = equal refl
by_sums [] (y ∷ s) e h = absurd (omega arith)
by_sums (x ∷ r) [] e h = absurd (omega arith)
by_sums (x ∷ r) (y ∷ s) e h = go (by_sums r s (omega arith)) (compare_means x y)
  where
    go : (((j : ℕ) → j ≤ length r → sum (take j r) ≤ sum (take j s)) → r ≼ s) → {o : Ordering} → Means ◌<◌ x y o → (x ∷ r) ≼ (y ∷ s)
    go ih (is_less k) = lower (here k)
    go ih (is_eq p) = rw (← p) (≼_there x (ih (λ j k. omega (arith, h (suc j) (omega arith)))))
    go ih (is_gt k) = absurd (omega (arith, h 1 (omega arith)))

-- ---- floors

pub div_mono : {a b n : ℕ} → 0 < n → a ≤ b → a / n ≤ b / n
div_mono {a} {b} {n} p h = (le-div_iff_mul-le p).1 (le_trans (div-mul-le_self a n) h)

pub div_super : {n : ℕ} (a b : ℕ) → 0 < n → a / n + b / n ≤ (a + b) / n
div_super {n} a b p = (le-div_iff_mul-le p).1 (omega (arith, div-mul-le_self a n, div-mul-le_self b n))
