-- Sums and densities: of rows put together, with one symbol more, less or changed, of zeros and of ones.
use mathlib.Core.List.{List, [], ◌++◌, ◌∷◌}
use mathlib.Core.Path.{ap, refl, sym, ◌∙◌, ◌≡◌}
use Prim.Native.Nat.{suc, zero, ℕ, ◌+◌, ◌-◌, ◌<◌, ◌≤◌}
use native.Mathlib.Numerals.{add-one}
use native.Mathlib.Omega.{arith}
use borrow.Author.Tests.{ne_eqb}
use lib.ListN.{get_or, length, take}
use lib.Seq.{take-suc}
use Rattle.density.specs.Density.{density}
use Rattle.words.proofs.AllButLast.{by_last}
use Rattle.words.specs.InnerScan.{◌▹◌}
use Rattle.words.specs.Symbols.{ones, sum, zeros}
use Rattle.std.specs.List.{count_by, sum as Std·sum}
use Rattle.std.specs.Prelude.{cond, nat_eq}
use Rattle.std.proofs.lemmas.List.Recursion.{is_count_by, is_sum_by}

pub sum-append : (a b : List ℕ) → sum (a ++ b) ≡ sum a + sum b
unfolding sum
sum-append [] b = omega arith
sum-append (x ∷ a) b = omega (arith, sum-append a b)

pub sum-snoc : (a : List ℕ) (b : ℕ) → sum (a ▹ b) ≡ sum a + b
unfolding sum
sum-snoc a b = omega (arith, sum-append a (b ∷ []))

-- the sum of all but the last symbol
pub front-sum : (a : List ℕ) → 0 < length a → sum (take (length a - 1) a) + get_or a (length a - 1) 0 ≡ sum a
front-sum a h = sym (sum-snoc (take (length a - 1) a) (get_or a (length a - 1) 0)) ∙ ap sum (by_last a h)

pub density-append : (a b : List ℕ) → density (a ++ b) ≡ density a + density b
unfolding density
density-append [] b = omega arith
density-append (zero ∷ a) b = density-append a b
density-append (suc zero ∷ a) b = omega (arith, density-append a b)
density-append (suc (suc x) ∷ a) b = density-append a b

-- no more holes than symbols
pub density_few : (x : List ℕ) → density x ≤ length x
unfolding density
density_few [] = omega arith
density_few (zero ∷ x) = omega (arith, density_few x)
density_few (suc zero ∷ x) = omega (arith, density_few x)
density_few (suc (suc a) ∷ x) = omega (arith, density_few x)

pub density-zeros : (k : ℕ) → density (zeros k) ≡ 0
unfolding density
density-zeros zero = refl
density-zeros (suc k) = density-zeros k

pub density-ones : (n : ℕ) → density (ones n) ≡ n
unfolding density
density-ones zero = refl
density-ones (suc n) = ap suc (density-ones n)

-- one symbol changed
pub density_one_more : (w y : List ℕ) → density (w ++ (1 ∷ y)) ≡ 1 + density (w ++ (0 ∷ y))
unfolding density
density_one_more [] y = omega arith
density_one_more (zero ∷ w) y = density_one_more w y
density_one_more (suc zero ∷ w) y = ap suc (density_one_more w y) ∙ omega arith
density_one_more (suc (suc x) ∷ w) y = density_one_more w y

pub density_last : (w : List ℕ) → density (w ++ (0 ∷ [])) ≡ density w
unfolding density
density_last [] = refl
density_last (zero ∷ w) = density_last w
density_last (suc zero ∷ w) = ap suc (density_last w)
density_last (suc (suc x) ∷ w) = density_last w

-- one symbol more: a 1 counts, any other does not
density_one : (x : ℕ) → x ≡ 1 → density (x ∷ []) ≡ 1
unfolding density
density_one x e = rw e

density_other : (x : ℕ) → (x ≡ 1 → ⊥) → density (x ∷ []) ≡ 0
unfolding density
density_other zero h = refl
density_other (suc zero) h = absurd (h refl)
density_other (suc (suc x)) h = refl

module _ (w : List ℕ) (i : ℕ) (h : i < length w) where
  longer_by : density (take (i + 1) w) ≡ density (take i w) + density (get_or w i 0 ∷ [])
  longer_by = rw (add-one, take-suc w i 0 h) (density-append (take i w) (get_or w i 0 ∷ []))

  pub density-take_one : get_or w i 0 ≡ 1 → density (take (i + 1) w) ≡ density (take i w) + 1
  density-take_one e = longer_by ∙ ap (λ x. density (take i w) + x) (density_one (get_or w i 0) e)

  pub density-take_other : (get_or w i 0 ≡ 1 → ⊥) → density (take (i + 1) w) ≡ density (take i w)
  density-take_other e = omega (arith, longer_by, density_other (get_or w i 0) e)

  pub sum-take : sum (take (i + 1) w) ≡ sum (take i w) + get_or w i 0
  unfolding sum
  sum-take = rw (add-one, take-suc w i 0 h) (omega (arith, sum-append (take i w) (get_or w i 0 ∷ [])))

-- as the library counts and sums
pub density_counted : (w : List ℕ) → density w ≡ count_by (λ x. nat_eq x 1) w
unfolding density
density_counted = is_count_by density (λ x. nat_eq x 1) refl step
  where
    step : (x : ℕ) (xs : List ℕ) → density (x ∷ xs) ≡ cond (nat_eq x 1) (1 + density xs) (density xs)
    step zero xs = refl
    step (suc zero) xs = omega arith
    step (suc (suc x)) xs = rw (ne_eqb (suc (suc x)) 1 (λ e. omega arith))

pub sum_std : (w : List ℕ) → sum w ≡ Std·sum w
unfolding sum
sum_std = is_sum_by sum (λ x. x) refl (λ x xs. refl)
