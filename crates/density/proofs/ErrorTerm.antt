-- The comparison with the balanced row, place by place: its symbols from an error term.
use mathlib.Core.Bool.{false, true}
use mathlib.Core.List.{List, [], ◌∷◌}
use mathlib.Core.Path.{ap, sym, ◌∙◌, ◌≡◌}
use Prim.Native.Nat.{suc, ℕ, ◌*◌, ◌+◌, ◌-◌, ◌/◌, ◌<◌, ◌≤◌}
use native.Mathlib.Nat.{add_comm, add-mul-div_right, div-eq_of_lt, zero-add}
use native.Mathlib.Omega.{arith}
use lib.ListN.{drop, drop_of_length-le, get_or, length}
use lib.Seq.{drop-cons}
use Rattle.density.specs.InnerBalanced.{balanced_from}
use Rattle.words.proofs.AtMost.{≼-append}
use Rattle.words.proofs.Below.{compare_self}
use Rattle.words.proofs.OrderTests.{→le}
use Rattle.words.proofs.ScanSteps.{compare_gt, compare-lt}
use Rattle.words.specs.Order.{cmp, le}

-- ---- the symbols of the balanced row, from an error term

pub div_is : (x q r m : ℕ) → q * m + r ≡ x → r < m → x / m ≡ q
div_is x q r m e h = ap (λ t. t / m) (sym e ∙ add_comm (q * m) r) ∙ add-mul-div_right r q (omega arith) ∙ rw (div-eq_of_lt h) (zero-add q)

-- the error at place k: what is left of k e behind the floor
pub record Error (m e k r : ℕ) : Type 0 where
  pub under : r < m
  pub is : k * e / m * m + r ≡ k * e

module _ (m e k r : ℕ) (q : Error m e k r) where
  pub stays : r + e < m → (suc k * e / m - k * e / m ≡ 0) × Error m e (suc k) (r + e)
  stays h =
      let f : suc k * e / m ≡ k * e / m = div_is (suc k * e) (k * e / m) (r + e) m (omega (arith, q.is)) h in
      (omega arith, record { under = h; is = rw f (omega (arith, q.is)) })

  pub steps : e ≤ m → m ≤ r + e → (suc k * e / m - k * e / m ≡ 1) × Error m e (suc k) (r + e - m)
  steps l h =
      let low : r + e - m < m = omega (arith, q.under) in
      let f : suc k * e / m ≡ suc (k * e / m) = div_is (suc k * e) (suc (k * e / m)) (r + e - m) m (omega (arith, q.is)) low in
      (omega arith, record { under = low; is = rw f (omega (arith, q.is)) })

-- ---- the comparison, at place k of g

module _ (g : List ℕ) (m e k : ℕ) where
  pub fit_end : length g ≤ k → le (drop k g) (balanced_from m e k (m - k)) ≡ true
  fit_end h = rw (drop_of_length-le g {i = k} h) (→le [] (balanced_from m e k (m - k)) (≼-append [] (balanced_from m e k (m - k))))

  pub fit_long : k < length g → m ≤ k → le (drop k g) (balanced_from m e k (m - k)) ≡ false
  unfolding le cmp balanced_from
  fit_long h l =
      let ended : m - k ≡ 0 = omega arith in
      rw (ended, drop-cons g k 0 h)

  module _ (h : k < length g) (l : k < m) where
    cut_both : le (drop k g) (balanced_from m e k (m - k)) ≡ le (get_or g k 0 ∷ drop (suc k) g) ((suc k * e / m - k * e / m) ∷ balanced_from m e (suc k) (m - suc k))
    unfolding balanced_from
    cut_both =
        let one : m - k ≡ suc (m - suc k) = omega arith in
        rw (one, drop-cons g k 0 h)

    pub fit_lower : get_or g k 0 < suc k * e / m - k * e / m → le (drop k g) (balanced_from m e k (m - k)) ≡ true
    unfolding le cmp
    fit_lower q = rw (cut_both, compare-lt q)

    pub fit_higher : suc k * e / m - k * e / m < get_or g k 0 → le (drop k g) (balanced_from m e k (m - k)) ≡ false
    unfolding le cmp
    fit_higher q = rw (cut_both, compare_gt q)

    pub fit_same : get_or g k 0 ≡ suc k * e / m - k * e / m → le (drop k g) (balanced_from m e k (m - k)) ≡ le (drop (suc k) g) (balanced_from m e (suc k) (m - suc k))
    unfolding le cmp
    fit_same q = rw (cut_both, q, compare_self (suc k * e / m - k * e / m))
