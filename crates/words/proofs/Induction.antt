-- Strong induction.
use Prim.Native.Nat.{suc, zero, ℕ, ◌<◌}
use native.Mathlib.Nat.{lt-suc_self, not-suc-le-zero}
use native.Mathlib.Omega.{arith}

unfoldable pub strong {ℓ} : (P : ℕ → Type ℓ) → ((n : ℕ) → ((m : ℕ) → m < n → P m) → P n) → (n : ℕ) → P n
strong P step n = go (suc n) n (lt-suc_self n)
  where
    go : (f m : ℕ) → m < f → P m
    go zero m h = absurd (not-suc-le-zero h)
    go (suc f) m h = step m (λ k l. go f k (omega arith))
