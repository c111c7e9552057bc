-- The comparison of g, which begins with z zeros and a 1, with the balanced row of m symbols and density e: the first 1 of that one by a product.
use mathlib.Core.Bool.{false, true}
use mathlib.Core.List.{List}
use mathlib.Core.Logic.{inl, inr, ◌⊎◌}
use mathlib.Core.Path.{ap, refl, sym, ◌∙◌, ◌≡◌}
use Prim.Native.Nat.{suc, zero, ℕ, ◌*◌, ◌+◌, ◌-◌, ◌/◌, ◌<◌, ◌≤◌}
use native.Mathlib.Nat.{div-eq_of_lt, mul-le-mul_left, mul-le-mul_right, zero-add}
use native.Mathlib.Omega.{arith}
use lib.ListN.{drop, get_or, get_or-replicate, length}
use lib.Seq.{get_or-take}
use Rattle.density.proofs.ErrorTerm.{Error, fit_higher, fit_long, fit_lower, fit_same, stays, steps}
use Rattle.density.specs.InnerBalanced.{balanced_from}
use Rattle.words.proofs.Below.{le_or}
use Rattle.words.specs.Order.{le}
use Rattle.words.specs.InnerScan.{Leading}

module _ (g : List ℕ) (m e z : ℕ) (q : Leading g z) (h : z < length g) (pos : 0 < m) (few : e ≤ m) where
  zero_at : (k : ℕ) → k < z → get_or g k 0 ≡ 0
  zero_at k l = sym (get_or-take z g k 0 l) ∙ ap (λ w. get_or w k 0) q.front ∙ get_or-replicate z k 0 0 l

  -- before its first 1 the error is the whole product
  error_at : (k : ℕ) → k * e < m → Error m e k (k * e)
  error_at k l = record { under = l; is = rw (div-eq_of_lt l) (omega arith) }

  at_zero : (k : ℕ) → suc k * e < m → suc k * e / m - k * e / m ≡ 0
  at_zero k l = (stays m e k (k * e) (error_at k (omega arith)) (omega arith)).0

  at_one : (k : ℕ) → k * e < m → m ≤ suc k * e → suc k * e / m - k * e / m ≡ 1
  at_one k l u = (steps m e k (k * e) (error_at k l) few (omega arith)).0

  within : (k : ℕ) → k * e < m → 0 < e → k < m
  within k l p = omega (arith, mul-le-mul_left k p)

  same_zeros : (k : ℕ) → k ≤ z → k ≤ m → k * e < m → le g (balanced_from m e 0 (m - 0)) ≡ le (drop k g) (balanced_from m e k (m - k))
  same_zeros zero l u p = refl
  same_zeros (suc k) l u p =
      same_zeros k (omega arith) (omega arith) (omega arith) ∙ fit_same g m e k (omega arith) (omega arith) (zero_at k (omega arith) ∙ sym (at_zero k p))

  climb : (j k : ℕ) → k + j ≡ z → m ≤ z * e → k * e < m → le (drop k g) (balanced_from m e k (m - k)) ≡ true
  climb zero k s u p = let same : k ≡ z = omega arith in absurd (omega (arith, ap (λ x. x * e) same))
  climb (suc j) k s u p = go (climb j (suc k) (omega arith) u) (le_or m (suc k * e))
    where
      some : 0 < e
      some = positive e u
        where
          positive : (e : ℕ) → m ≤ z * e → 0 < e
          positive zero u = absurd (omega arith)
          positive (suc e) u = omega arith

      go : (suc k * e < m → le (drop (suc k) g) (balanced_from m e (suc k) (m - suc k)) ≡ true) → (m ≤ suc k * e) ⊎ (suc k * e < m) → le (drop k g) (balanced_from m e k (m - k)) ≡ true
      go ih (inl t) = fit_lower g m e k (omega arith) (within k p some) (omega (arith, zero_at k (omega arith), at_one k p t))
      go ih (inr t) = fit_same g m e k (omega arith) (within k p some) (zero_at k (omega arith) ∙ sym (at_zero k t)) ∙ ih t

  pub product_yes : m ≤ z * e → le g (balanced_from m e 0 (m - 0)) ≡ true
  product_yes u = climb z 0 (zero-add z) u (omega arith)

  pub product_not : suc z * e < m → le g (balanced_from m e 0 (m - 0)) ≡ false
  product_not p = go (le_or m z)
    where
      go : (m ≤ z) ⊎ (z < m) → le g (balanced_from m e 0 (m - 0)) ≡ false
      go (inl u) = same_zeros m u (omega arith) (omega (arith, mul-le-mul_right e u)) ∙ fit_long g m e m (omega arith) (omega arith)
      go (inr l) = same_zeros z (omega arith) (omega arith) (omega arith) ∙ fit_higher g m e z h l (omega (arith, at_zero z p, q.then h))

  pub product_else : get_or g z 0 ≤ 1 → z * e < m → m ≤ suc z * e → Error m e (suc z) (suc z * e - m) × (le g (balanced_from m e 0 (m - 0)) ≡ le (drop (suc z) g) (balanced_from m e (suc z) (m - suc z)))
  product_else b p t =
      let l : z < m = within z p (some e t) in
      let r : z * e + e - m ≡ suc z * e - m = omega arith in
      (rw r at (steps m e z (z * e) (error_at z p) few (omega arith)).1, same_zeros z (omega arith) (omega arith) p ∙ fit_same g m e z h l (omega (arith, q.then h, at_one z p t)))
    where
      some : (e : ℕ) → m ≤ suc z * e → 0 < e
      some zero t = absurd (omega arith)
      some (suc e) t = omega arith
