-- The balanced row of k n symbols and density k d is the k-th power of that of n symbols and density d.
use mathlib.Core.List.{◌++◌}
use mathlib.Core.Path.{ap, refl, ◌∙◌, ◌≡◌}
use Prim.Native.Nat.{suc, zero, ℕ, ◌*◌, ◌+◌, ◌/◌, ◌<◌}
use native.Mathlib.Nat.{mul-div-mul_left, mul_left_comm, zero-mul}
use native.Mathlib.Omega.{arith}
use Rattle.density.proofs.BalancedRow.{balanced-append, balanced-period}
use Rattle.density.specs.InnerBalanced.{balanced, balanced_from}
use Rattle.words.proofs.Power.{power}

-- the floors are the same
same_floor : (k n d i : ℕ) → 0 < k → i * (k * d) / (k * n) ≡ i * d / n
same_floor k n d i p = ap (λ x. x / (k * n)) (mul_left_comm i k d) ∙ mul-div-mul_left (i * d) n p

balanced_scale : (k n d : ℕ) → 0 < k → (m i : ℕ) → balanced_from (k * n) (k * d) i m ≡ balanced_from n d i m
unfolding balanced_from
balanced_scale k n d p zero i = refl
balanced_scale k n d p (suc m) i = rw (same_floor k n d (suc i) p, same_floor k n d i p, balanced_scale k n d p m (suc i))

balanced_power : (n d : ℕ) → 0 < n → (k i : ℕ) → balanced_from n d i (k * n) ≡ power k (balanced_from n d i n)
unfolding power balanced_from
balanced_power n d p zero i = ap (balanced_from n d i) (zero-mul n)
balanced_power n d p (suc k) i =
    let size : suc k * n ≡ n + k * n = omega arith in
    ap (balanced_from n d i) size ∙ balanced-append n d p n (k * n) i ∙ ap (λ r. balanced_from n d i n ++ r) (balanced-period n d p (k * n) i ∙ balanced_power n d p k i)

pub scaled : (k n d : ℕ) → 0 < k → 0 < n → balanced (k * n) (k * d) ≡ power k (balanced n d)
scaled k n d p q = balanced_scale k n d p (k * n) 0 ∙ balanced_power n d q k 0
