-- The rows of n symbols and density d number `choose n d`, and the necklaces of (n, d) are among them.
use mathlib.Core.Bool.{Bool, true≢false}
use mathlib.Core.List.{List, map, ◌∷◌}
use mathlib.Core.Path.{ap, ap₂, refl, sym, ◌∙◌, ◌≡◌}
use Prim.Native.Nat.{suc, zero, ℕ, ◌+◌, ◌<◌, ◌^◌, ◌≤◌}
use native.Mathlib.Nat.{two-pow-succ}
use native.Mathlib.Omega.{arith}
use lib.Dec.{eqb, eqb-suc-suc, eqb-suc-zero, eqb-zero-suc}
use lib.ListN.{length, length-append, length-map}
use lib.Pow.{pow_pos}
use Rattle.density.specs.Choose.{choose, rows_of}
use Rattle.density.specs.Density.{all_rows, density}
use Rattle.density.specs.Necklaces.{is_necklace_of, necklaces}
use Rattle.words.proofs.Falling.{keep_fewer, keep-none}
use Rattle.words.proofs.Lists.{keep_append, keep-keep, keep-map, keep_same}
use Rattle.words.specs.Rotation.{is_necklace}
use Rattle.words.specs.Tests.{keep}

-- ---- the ways to choose

-- past the end there is none
pub choose_past : (n d : ℕ) → n < d → choose n d ≡ 0
unfolding choose
choose_past n zero h = absurd (omega arith)
choose_past zero (suc d) h = refl
choose_past (suc n) (suc d) h = omega (arith, choose_past n d (omega arith), choose_past n (suc d) (omega arith))

pub choose_all : (n : ℕ) → choose n n ≡ 1
unfolding choose
choose_all zero = refl
choose_all (suc n) = omega (arith, choose_all n, choose_past n (suc n) (omega arith))

-- two neighbours in a row of the triangle
neighbours : (n d : ℕ) → choose n d + choose n (suc d) ≤ 2 ^ n
unfolding choose
neighbours zero zero = omega arith
neighbours zero (suc d) = omega arith
neighbours (suc n) zero = omega (arith, neighbours n zero, two-pow-succ n)
neighbours (suc n) (suc d) = omega (arith, neighbours n d, neighbours n (suc d), two-pow-succ n)

pub choose_most : (n d : ℕ) → choose n d ≤ 2 ^ n
choose_most n d = omega (arith, neighbours n d)

pub choose_under : (n d : ℕ) → 1 ≤ n → choose n d < 2 ^ n
unfolding choose
choose_under zero d h = absurd (omega arith)
choose_under (suc n) zero h = omega (arith, neighbours n zero, two-pow-succ n)
choose_under (suc n) (suc d) h = omega (arith, neighbours n d, two-pow-succ n, pow_pos n)

-- ---- the rows

-- by the first symbol
by_first : (p : List ℕ → Bool) (n : ℕ) → length (keep p (all_rows (suc n))) ≡ length (keep (λ w. p (1 ∷ w)) (all_rows n)) + length (keep (λ w. p (0 ∷ w)) (all_rows n))
unfolding all_rows
by_first p n =
    ap length (keep_append p (map (λ w. 1 ∷ w) (all_rows n)) (map (λ w. 0 ∷ w) (all_rows n)))
    ∙ length-append (keep p (map (λ w. 1 ∷ w) (all_rows n))) (keep p (map (λ w. 0 ∷ w) (all_rows n)))
    ∙ ap₂ (λ (a b : ℕ). a + b) (begun 1) (begun 0)
  where
    begun : (x : ℕ) → length (keep p (map (λ w. x ∷ w) (all_rows n))) ≡ length (keep (λ w. p (x ∷ w)) (all_rows n))
    begun x = ap length (keep-map p x (all_rows n)) ∙ length-map (keep (λ w. p (x ∷ w)) (all_rows n)) (λ w. x ∷ w)

pub rows_number : (n d : ℕ) → length (rows_of n d) ≡ choose n d
unfolding rows_of choose all_rows density keep
rows_number zero zero = refl
rows_number zero (suc d) = rw eqb-zero-suc
rows_number (suc n) zero =
    let none = ap length (keep-none (λ w. eqb (suc (density w)) 0) (all_rows n) (λ w m e. true≢false (sym e ∙ eqb-suc-zero (density w)))) in
    omega (arith, by_first (λ w. eqb (density w) 0) n, none, rows_number n zero)
rows_number (suc n) (suc d) =
    let less = ap length (keep_same (λ w. eqb (suc (density w)) (suc d)) (λ w. eqb (density w) d) (all_rows n) (λ w m. rw eqb-suc-suc)) in
    omega (arith, by_first (λ w. eqb (density w) (suc d)) n, less, rows_number n d, rows_number n (suc d))

-- ---- the rings

-- those that pass a test are at most as many
pub few_rings : (n d : ℕ) (p : List ℕ → Bool) → length (keep p (necklaces n d)) ≤ choose n d
unfolding necklaces rows_of is_necklace_of
few_rings n d p =
    let among = ap length (keep-keep (λ w. eqb (density w) d) is_necklace (all_rows n)) in
    omega (arith, keep_fewer p (necklaces n d), among, keep_fewer is_necklace (rows_of n d), rows_number n d)
