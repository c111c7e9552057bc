-- The symbols of the balanced row, one by one and in runs.
use mathlib.Core.List.{List}
use mathlib.Core.Logic.{⊎_elim}
use mathlib.Core.Path.{ap, refl, sym, ◌∙◌, ◌≡◌}
use Prim.Native.Nat.{suc, zero, ℕ, ◌*◌, ◌+◌, ◌-◌, ◌/◌, ◌<◌, ◌≤◌}
use native.Mathlib.Nat.{add-zero, div-eq_of_lt-le, div-mul-le_self, lt-div-mul-add, zero-add}
use native.Mathlib.Omega.{arith}
use lib.ListN.{get_or, replicate, take}
use lib.Seq.{get_or-take}
use Rattle.density.specs.InnerBalanced.{balanced, balanced_from}
use Rattle.words.proofs.Below.{le_or}

-- the symbol behind i others
unfoldable pub symbol : ℕ → ℕ → ℕ → ℕ
symbol n d i = suc i * d / n - i * d / n

-- it is 0 where i d + 1 .. i d + d pass no multiple of n
pub symbol_zero : (n d i k : ℕ) → k * n ≤ i * d → i * d + d < k * n + n → symbol n d i ≡ 0
unfolding symbol
symbol_zero n d i k a b =
    let q₀ : i * d / n ≡ k = div-eq_of_lt-le n a (omega arith) in
    let q₁ : suc i * d / n ≡ k = div-eq_of_lt-le n (omega arith) (omega arith) in
    omega arith

-- and 1 where they pass one
pub symbol_one : (n d i k : ℕ) → d ≤ n → i * d < k * n + n → k * n + n ≤ i * d + d → symbol n d i ≡ 1
unfolding symbol
symbol_one n d i k l a b =
    let q₀ : i * d / n ≡ k = div-eq_of_lt-le n (omega arith) (omega arith) in
    let q₁ : suc i * d / n ≡ suc k = div-eq_of_lt-le n (omega arith) (omega arith) in
    omega arith

-- it is what a count has more than the count before, at most 1
pub symbol_step : (n d i : ℕ) → 0 < n → d ≤ n → (symbol n d i + i * d / n ≡ suc i * d / n) × (symbol n d i ≤ 1)
unfolding symbol
symbol_step n d i z l =
    let a = div-mul-le_self (i * d) n in
    let b : i * d < i * d / n * n + n = lt-div-mul-add z in
    ⊎_elim
    (λ (h : i * d + d < i * d / n * n + n).
    let q : suc i * d / n ≡ i * d / n = div-eq_of_lt-le n (omega arith) (omega arith) in omega arith)
    (λ h.
    let q : suc i * d / n ≡ suc (i * d / n) = div-eq_of_lt-le n (omega arith) (omega arith) in omega arith)
    (le_or (suc (i * d + d)) (i * d / n * n + n))

-- the row holds these symbols
pub balanced_at : (n d k i j : ℕ) → j < k → get_or (balanced_from n d i k) j 0 ≡ symbol n d (i + j)
unfolding balanced_from symbol
balanced_at n d zero i j h = absurd (omega arith)
balanced_at n d (suc k) i zero h = simp add-zero
balanced_at n d (suc k) i (suc j) h = balanced_at n d k (suc i) j (omega arith) ∙ ap (symbol n d) (omega arith)

-- and so does an array that begins with it
pub symbol_in : (n d k : ℕ) (w : List ℕ) → take n w ≡ balanced n d → k < n → get_or w k 0 ≡ symbol n d k
symbol_in n d k w e h = sym (get_or-take n w k 0 h) ∙ ap (λ v. get_or v k 0) e ∙ balanced_at n d n 0 k h ∙ ap (symbol n d) (zero-add k)

-- where they are all v
pub balanced-run : (n d v k i : ℕ) → ((j : ℕ) → i ≤ j → j < i + k → symbol n d j ≡ v) → balanced_from n d i k ≡ replicate k v
unfolding balanced_from symbol
balanced-run n d v zero i h = refl
balanced-run n d v (suc k) i h = rw (h i (omega arith) (omega arith), balanced-run n d v k (suc i) (λ j a b. h j (omega arith) (omega arith)))

-- "top(n, 0) is n zeros and top(n, n) is n ones"
pub balanced-zeros : (n : ℕ) → 0 < n → balanced n 0 ≡ replicate n 0
balanced-zeros n p = balanced-run n 0 0 n 0 (λ j a b. symbol_zero n 0 j 0 (omega arith) (omega arith))

pub balanced-ones : (n : ℕ) → 0 < n → balanced n n ≡ replicate n 1
balanced-ones n p = balanced-run n n 1 n 0 (λ j a b. symbol_one n n j j (omega arith) (omega arith) (omega arith))
