-- The balanced row: its sums, its parts, its rotations; it is a necklace.
use mathlib.Core.List.{◌++◌, ◌∷◌}
use mathlib.Core.Path.{ap, refl, sym, ◌∙◌, ◌≡◌}
use Prim.Native.Nat.{suc, zero, ℕ, ◌*◌, ◌+◌, ◌-◌, ◌/◌, ◌<◌, ◌≤◌}
use native.Mathlib.Nat.{add-mul, add-mul-div_right, add-zero, le_refl, le_trans, mul_comm, mul-div_cancel, suc-add, zero-add, zero-div, zero-mul}
use native.Mathlib.Omega.{arith}
use lib.ListN.{length, take}
use lib.Seq.{drop_at, take_all, take_at}
use Rattle.density.proofs.Binary.{Binary, binary_cons, empty}
use Rattle.density.proofs.Sums.{by_sums, div_mono, div_super}
use Rattle.density.specs.InnerBalanced.{balanced, balanced_from}
use Rattle.words.proofs.PowerOrder.{Necklace}
use Rattle.words.proofs.Rotations.{ByIndex, index→necklace}
use Rattle.words.specs.Rotation.{rotation}
use Rattle.words.specs.Symbols.{sum}

slide : (i j : ℕ) → i + suc j ≡ suc i + j
slide i j = omega arith

module _ (n d : ℕ) (p : 0 < n) where
  step_le : (i : ℕ) → i * d / n ≤ suc i * d / n
  step_le i = div_mono p (omega arith)

  shift : (m : ℕ) → (m + n) * d / n ≡ m * d / n + d
  shift m = ap (λ x. x / n) (omega arith) ∙ add-mul-div_right (m * d) d p

  -- the sum from place i on is a difference of floors
  pub balanced-sum : (k i j : ℕ) → j ≤ k → i * d / n + sum (take j (balanced_from n d i k)) ≡ (i + j) * d / n
  unfolding balanced_from sum
  balanced-sum k i zero h = simp add-zero
  balanced-sum zero i (suc j) h = absurd (omega arith)
  balanced-sum (suc k) i (suc j) h = rw (slide i j) (omega (arith, balanced-sum k (suc i) j (omega arith), step_le i))

  pub balanced-append : (k l i : ℕ) → balanced_from n d i (k + l) ≡ balanced_from n d i k ++ balanced_from n d (i + k) l
  unfolding balanced_from
  balanced-append zero l i = simp (zero-add, add-zero)
  balanced-append (suc k) l i = rw (suc-add k l, slide i k, balanced-append k l (suc i))

  pub balanced-period : (k i : ℕ) → balanced_from n d (i + n) k ≡ balanced_from n d i k
  unfolding balanced_from
  balanced-period zero i = refl
  balanced-period (suc k) i = rw (← suc-add i n, shift (suc i), shift i, balanced-period k (suc i)) (ap (λ h. h ∷ balanced_from n d (suc i) k) (omega arith))

  pub balanced-length : (k i : ℕ) → length (balanced_from n d i k) ≡ k
  unfolding balanced_from
  balanced-length zero i = refl
  balanced-length (suc k) i = ap suc (balanced-length k (suc i))

  -- the first j symbols sum up to floor(j d / n)
  pub prefix_sum : (j : ℕ) → j ≤ n → sum (take j (balanced n d)) ≡ j * d / n
  prefix_sum j h = simp (zero-mul, zero-div, zero-add) at (balanced-sum n 0 j h)

  pub balanced-total : sum (balanced n d) ≡ d
  balanced-total = ap sum (sym (take_all n (balanced n d) (omega (arith, balanced-length n 0)))) ∙ prefix_sum n (le_refl n) ∙ ap (λ x. x / n) (mul_comm n d) ∙ mul-div_cancel d p

  pub balanced_binary : d ≤ n → (k i : ℕ) → Binary (balanced_from n d i k)
  unfolding balanced_from
  balanced_binary l zero i = empty
  balanced_binary l (suc k) i = binary_cons (suc i * d / n - i * d / n) (omega (arith, up)) (balanced_binary l k (suc i))
    where
      up : suc i * d / n ≤ i * d / n + 1
      up = le_trans (div_mono {b = i * d + 1 * n} p (omega arith)) (rw (add-mul-div_right (i * d) 1 p) (le_refl (i * d / n + 1)))

  -- ---- rotations

  rotated : (i m : ℕ) → i + m ≡ n → rotation i (balanced n d) ≡ balanced_from n d i n
  unfolding rotation
  rotated i m e =
      let cut_at : balanced n d ≡ balanced_from n d 0 i ++ balanced_from n d i m = ap (balanced_from n d 0) (sym e) ∙ balanced-append i m 0 ∙ ap (λ x. balanced_from n d 0 i ++ balanced_from n d x m) (zero-add i) in
      let wrap : balanced_from n d 0 i ≡ balanced_from n d (i + m) i = sym (balanced-period i 0) ∙ ap (λ x. balanced_from n d x i) (zero-add n ∙ sym e) in
      let back : balanced_from n d i m ++ balanced_from n d (i + m) i ≡ balanced_from n d i n = sym (balanced-append m i i) ∙ ap (balanced_from n d i) (omega arith) in
      rw (cut_at, drop_at (balanced_from n d 0 i) (balanced_from n d i m) i (balanced-length i 0), take_at (balanced_from n d 0 i) (balanced_from n d i m) i (balanced-length i 0))
      (ap (λ x. balanced_from n d i m ++ x) wrap ∙ back)

  pub balanced-rotation : (i : ℕ) → i ≤ n → rotation i (balanced n d) ≡ balanced_from n d i n
  balanced-rotation i h = rotated i (n - i) (omega arith)

  -- it is a necklace
  pub balanced_necklace : Necklace (balanced n d)
  balanced_necklace = index→necklace (balanced n d) above
    where
      above : ByIndex (balanced n d)
      above i h =
          let l : i < n = rw balanced-length at h in
          rw (balanced-rotation i (omega arith))
          (by_sums (balanced n d) (balanced_from n d i n) (balanced-length n 0 ∙ sym (balanced-length n i)) (λ j k.
          let m : j ≤ n = rw balanced-length at k in
          let both : (i + j) * d / n ≡ (i * d + j * d) / n = ap (λ x. x / n) (add-mul i j d) in
          omega (arith, prefix_sum j m, balanced-sum n i j m, div_super (i * d) (j * d) p)))
