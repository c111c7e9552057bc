-- Sums over all rows of n symbols, by the first symbol and by the last; those of density d number `choose n d`.
use mathlib.Core.List.{List, map, ◌∷◌}
use mathlib.Core.Path.{ap₂, sym, ◌∙◌, ◌≡◌}
use Prim.Native.Nat.{suc, zero, ℕ, ◌+◌}
use native.Mathlib.Omega.{arith}
use Rattle.counting.proofs.Sums.{length-keep, total-append, total-map}
use Rattle.counting.specs.InnerSums.{flag, has_density, total}
use Rattle.density.proofs.RowCounts.{rows_number}
use Rattle.density.specs.Choose.{choose, rows_of}
use Rattle.density.specs.Density.{all_rows}
use Rattle.words.specs.InnerScan.{◌▹◌}

-- by the first symbol
pub total_rows : (f : List ℕ → ℕ) (n : ℕ) → total f (all_rows (suc n)) ≡ total (λ w. f (1 ∷ w)) (all_rows n) + total (λ w. f (0 ∷ w)) (all_rows n)
unfolding all_rows
total_rows f n =
    total-append f (map (λ w. 1 ∷ w) (all_rows n)) (map (λ w. 0 ∷ w) (all_rows n))
    ∙ ap₂ (λ (a b : ℕ). a + b) (total-map f (λ w. 1 ∷ w) (all_rows n)) (total-map f (λ w. 0 ∷ w) (all_rows n))

-- by the last symbol
pub total_rows_last : (f : List ℕ → ℕ) (n : ℕ) → total f (all_rows (suc n)) ≡ total (λ w. f (w ▹ 1)) (all_rows n) + total (λ w. f (w ▹ 0)) (all_rows n)
unfolding all_rows total
total_rows_last f zero = omega arith
total_rows_last f (suc n) =
    let a = total_rows f (suc n) in
    let b = total_rows_last (λ w. f (1 ∷ w)) n in
    let c = total_rows_last (λ w. f (0 ∷ w)) n in
    let d = total_rows (λ w. f (w ▹ 1)) n in
    let e = total_rows (λ w. f (w ▹ 0)) n in
    omega (arith, a, b, c, d, e)

pub density-count : (n d : ℕ) → total (λ w. flag (has_density d w)) (all_rows n) ≡ choose n d
unfolding rows_of
density-count n d = sym (length-keep (has_density d) (all_rows n)) ∙ rows_number n d
