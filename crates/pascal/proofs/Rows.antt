-- The rows that the rule makes hold the ways to choose.
use mathlib.Core.List.{List, [], ◌++◌, ◌∷◌}
use mathlib.Core.Path.{ap, ap₂, refl, sym, ◌∙◌, ◌≡◌}
use Prim.Native.Nat.{suc, zero, ℕ, ◌*◌, ◌+◌, ◌/◌, ◌<◌, ◌≤◌}
use native.Mathlib.Nat.{mul-div_cancel}
use native.Mathlib.Omega.{arith}
use lib.ListN.{get_or-append, get_or, length}
use lib.Seq.{get_or-append-add}
use Rattle.density.proofs.RowCounts.{choose_all}
use Rattle.density.specs.Choose.{choose}
use Rattle.pascal.specs.Pascal.{entry_of, rows_from, sums, triangle}

-- k numbers of row n, from d on
unfoldable pub choices : ℕ → ℕ → ℕ → List ℕ
choices n d zero = []
choices n d (suc k) = choose n d ∷ choices n (suc d) k

abbrev pub row : ℕ → List ℕ
row n = choices n 0 (suc n)

length_choices : (n d k : ℕ) → length (choices n d k) ≡ k
unfolding choices
length_choices n d zero = refl
length_choices n d (suc k) = ap suc (length_choices n (suc d) k)

choices_at : (n d k i : ℕ) → i < k → get_or (choices n d k) i 0 ≡ choose n (d + i)
unfolding choices
choices_at n d zero i h = absurd (omega arith)
choices_at n d (suc k) zero h = ap (choose n) (omega arith)
choices_at n d (suc k) (suc i) h = choices_at n (suc d) k i (omega arith) ∙ ap (choose n) (omega arith)

-- the sums of neighbours in row n are numbers of row n + 1
sums_choices : (n d k : ℕ) → d + k ≡ n → sums (choices n d (suc k)) ≡ choices (suc n) (suc d) (suc k)
unfolding sums choices choose
sums_choices n d zero e =
    let same : n ≡ d = omega arith in
    ap {B = List ℕ} (λ x. x ∷ []) (sym (choose_all (suc n)) ∙ ap (λ x. choose (suc n) (suc x)) same)
sums_choices n d (suc k) e = ap {B = List ℕ} (λ t. (choose n d + choose n (suc d)) ∷ t) (sums_choices n (suc d) k (omega arith))

next_row : (n : ℕ) → 1 ∷ sums (row n) ≡ row (suc n)
unfolding choices choose
next_row n = ap {B = List ℕ} (λ t. 1 ∷ t) (sums_choices n 0 n (omega arith))

-- how far it is from the start of row n to that of row n + i
unfoldable skip : ℕ → ℕ → ℕ
skip n zero = 0
skip n (suc i) = suc n + skip (suc n) i

entry_from : (n m i k : ℕ) → i < m → k ≤ n + i → get_or (rows_from (row n) m) (skip n i + k) 0 ≡ choose (n + i) k
unfolding rows_from skip
entry_from n zero i k h l = absurd (omega arith)
entry_from n (suc m) zero k h l =
    ap (λ x. get_or (row n ++ rows_from (1 ∷ sums (row n)) m) x 0) (omega arith)
    ∙ get_or-append (row n) (rows_from (1 ∷ sums (row n)) m) 0 k (omega (arith, length_choices n 0 (suc n)))
    ∙ choices_at n 0 (suc n) k (omega arith)
    ∙ ap₂ choose (omega arith) (omega arith)
entry_from n (suc m) (suc i) k h l =
    ap (λ x. get_or (row n ++ rows_from (1 ∷ sums (row n)) m) x 0) (omega (arith, length_choices n 0 (suc n)))
    ∙ get_or-append-add (row n) (rows_from (1 ∷ sums (row n)) m) (skip (suc n) i + k) 0
    ∙ ap (λ r. get_or (rows_from r m) (skip (suc n) i + k) 0) (next_row n)
    ∙ entry_from (suc n) m i k (omega arith) (omega arith)
    ∙ ap (λ x. choose x k) (omega arith)

-- from row 0 on these are the triangle numbers
twice : (n i : ℕ) → skip n i * 2 ≡ i * (2 * n + i + 1)
unfolding skip
twice n zero = omega arith
twice n (suc i) = omega (arith, twice (suc n) i)

start : (n : ℕ) → n * (n + 1) / 2 ≡ skip 0 n
start n = ap (λ x. x / 2) (omega (arith, twice 0 n)) ∙ mul-div_cancel (skip 0 n) (omega arith)

pub entry_chosen : (m n d : ℕ) → n < m → d ≤ n → entry_of (triangle m) n d ≡ choose n d
unfolding entry_of triangle choices choose
entry_chosen m n d h l = ap (λ x. get_or (rows_from (1 ∷ []) m) (x + d) 0) (start n) ∙ entry_from 0 m n d h (omega arith) ∙ ap (λ x. choose x d) (omega arith)
