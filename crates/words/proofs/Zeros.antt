-- Rows of zeros.
use mathlib.Core.List.{List, [], append-nil, ◌++◌, ◌∷◌}
use mathlib.Core.Path.{ap, refl, sym, ◌∙◌, ◌≡◌}
use Prim.Native.Nat.{suc, zero, ℕ, ◌+◌, ◌-◌, ◌<◌}
use native.Mathlib.Nat.{sub-zero}
use native.Mathlib.Numerals.{add-one}
use native.Mathlib.Omega.{arith}
use lib.ListN.{drop, get_or, length, length-replicate, replicate-append-replicate, take}
use lib.Seq.{take-suc}
use Rattle.words.specs.Symbols.{zeros}

pub zeros-length : (n : ℕ) → length (zeros n) ≡ n
zeros-length n = length-replicate {A = ℕ} n 0

pub zeros-append : (m n : ℕ) → zeros m ++ zeros n ≡ zeros (m + n)
zeros-append m n = replicate-append-replicate {A = ℕ} m n 0

-- a zero goes round zeros
pub zeros_round : (n : ℕ) (w : List ℕ) → 0 ∷ (zeros n ++ w) ≡ zeros n ++ (0 ∷ w)
zeros_round zero w = refl
zeros_round (suc n) w = ap {B = List ℕ} (λ v. 0 ∷ v) (zeros_round n w)

pub zeros_swap : (q z : ℕ) (t : List ℕ) → zeros q ++ (zeros z ++ t) ≡ zeros z ++ (zeros q ++ t)
zeros_swap zero z t = refl
zeros_swap (suc q) z t = ap {B = List ℕ} (λ w. 0 ∷ w) (zeros_swap q z t) ∙ zeros_round z (zeros q ++ t)

-- one more leading zero
pub zeros_more : (a : List ℕ) (z : ℕ) → z < length a → take z a ≡ zeros z → get_or a z 0 ≡ 0 → take (z + 1) a ≡ zeros (z + 1)
zeros_more a z h e k = rw (add-one, take-suc a z 0 h, e, k) (sym (zeros_round z []) ∙ ap {B = List ℕ} (λ w. 0 ∷ w) (append-nil (zeros z)))

-- some of them left out
pub drop-zeros : (k n : ℕ) → drop k (zeros n) ≡ zeros (n - k)
drop-zeros zero n = ap zeros (sym (sub-zero n))
drop-zeros (suc k) zero = let e : 0 - suc k ≡ 0 = omega arith in rw e
drop-zeros (suc k) (suc n) = let e : suc n - suc k ≡ n - k = omega arith in rw e (drop-zeros k n)

-- each of them, and what stands behind them
pub zero_at : (n m : ℕ) → get_or (zeros n) m 0 ≡ 0
zero_at zero m = refl
zero_at (suc n) zero = refl
zero_at (suc n) (suc m) = zero_at n m
