-- A necklace of period p has p different rotations, and each row is a rotation of one necklace, its least rotation.
use mathlib.Core.Bool.{Bool, false, true}
use mathlib.Core.List.{List, Memᴰ}
use mathlib.Core.Logic.{inl, inr, ◌⊎◌}
use mathlib.Core.Path.{ap, refl, subst, sym, ◌∙◌, ◌≡◌}
use Prim.Native.Nat.{Ordering, ℕ, ◌*◌, ◌+◌, ◌-◌, ◌<◌, ◌≤◌}
use native.Mathlib.Nat.{mul-zero}
use native.Mathlib.Omega.{arith}
use lib.ListN.{length}
use borrow.Author.Tests.{eqb-false, eqb-true}
use Rattle.counting.proofs.Sums.{delta, below_upto, delta_differ, delta_same, length-upto, once, one_index, one_row, total_on, total-ones, total_same, total_scale, total_swap, total_zero}
use Rattle.counting.specs.InnerSums.{flag, total, upto, has_density}
use Rattle.density.proofs.Counts.{density-append}
use Rattle.density.proofs.Enumeration.{in_rows, out_rows, rows_falling}
use Rattle.density.proofs.Members.{Member, member→, necklaces_falling, →member}
use Rattle.density.proofs.TurnedRows.{binary_rotation, sum-rotation}
use Rattle.density.specs.Density.{all_rows, density}
use Rattle.density.specs.Necklaces.{necklaces}
use Rattle.words.proofs.Below.{Means, cmp_means, compare_means, is_eq, is_gt, is_less, le_or, ≺_irrefl, ◌≺◌}
use Rattle.words.proofs.Induction.{strong}
use Rattle.words.proofs.LeastRotation.{least_necklace, least_rotated, least_only, least_same}
use Rattle.words.proofs.Periods.{PeriodOf, period_of}
use Rattle.words.proofs.PowerOrder.{Necklace}
use Rattle.words.proofs.RotationAgain.{rotation_again, rotation_fixed, rotation_self, rotation_sym}
use Rattle.words.proofs.Rotations.{rotation-length}
use Rattle.words.specs.Rotation.{IsRotation, least_index, least_rotation, period, rotation}

pub least_density : (x : List ℕ) → density (least_rotation x) ≡ density x
unfolding least_rotation
least_density x = sum-rotation density density-append (least_index x) x

-- the least rotation of a row of n symbols and density d is a necklace of (n, d)
pub least_member : (n d : ℕ) (x : List ℕ) → 0 < n → Memᴰ x (all_rows n) → density x ≡ d → Member n d (least_rotation x)
unfolding least_rotation
least_member n d x p m e =
    let o = out_rows n x m in
    record {
      long = rotation-length (least_index x) x ∙ o.0;
      binary = binary_rotation (least_index x) x o.1;
      count = least_density x ∙ e;
      least = least_necklace x (omega (arith, o.0));
    }

-- ---- the rotations by less than the period

-- each rotation is one of them
shortened : (w : List ℕ) (p : ℕ) → 0 < p → rotation p w ≡ w → (i : ℕ) → i ≤ length w → (j : ℕ) × (j < p) × (rotation i w ≡ rotation j w)
shortened w p some e i = strong P step i
  where
    P : ℕ → Type 0
    P i = i ≤ length w → (j : ℕ) × (j < p) × (rotation i w ≡ rotation j w)

    step : (n : ℕ) → ((m : ℕ) → m < n → P m) → P n
    step n ih h = go (le_or p n)
      where
        go : (p ≤ n) ⊎ (n < p) → (j : ℕ) × (j < p) × (rotation n w ≡ rotation j w)
        go (inl l) =
            let size : n ≡ p + (n - p) = omega arith in
            let k = ih (n - p) (omega arith) (omega arith) in
            (k.0, k.1, ap (λ t. rotation t w) size ∙ sym (rotation_again w (n - p) p (omega arith)) ∙ ap (rotation (n - p)) e ∙ k.2)
        go (inr l) = (n, l, refl)

-- and they differ
apart : (w : List ℕ) → 0 < length w → (a b : ℕ) → a < b → b < period w → rotation a w ≡ rotation b w → ⊥
apart w some a b l h e =
    let q = period_of w some in
    let size : b ≡ a + (b - a) = omega arith in
    let again : rotation (b - a) (rotation a w) ≡ rotation a w = rotation_again w (b - a) a (omega (arith, q.high)) ∙ ap (λ t. rotation t w) (sym size) ∙ sym e in
    q.before (b - a) (omega arith) (omega arith) (rotation_fixed w (b - a) a (omega (arith, q.high)) (omega (arith, q.high)) again)

-- ---- the orbit of a necklace r: which of its rotations is x

module _ (r : List ℕ) (some : 0 < length r) (necklace : Necklace r) (x : List ℕ) (long : length x ≡ length r) where
  p : ℕ
  p = period r

  q : PeriodOf r (period r)
  q = period_of r some

  own : least_rotation r ≡ r
  own = sym (least_only r some (rotation_self r some) necklace)

  -- none, where its least rotation is another
  none_of : (r ≡ least_rotation x → ⊥) → (j : ℕ) → j < period r → delta (rotation j r) x ≡ 0
  none_of d j h = delta_differ (rotation j r) x (λ e. d (sym (least_same some (record { by = j; inside = omega (arith, q.high); is = sym e }) ∙ own)))

  -- exactly one, where it is its least rotation
  one_of : IsRotation r x → total (λ j. delta (rotation j r) x) (upto (period r)) ≡ 1
  one_of t = one_index (λ j. delta (rotation j r) x) (period r) k s.1 (rw (← at) (delta_same x)) other
    where
      s : (j : ℕ) × (j < period r) × (rotation t.by r ≡ rotation j r)
      s = shortened r (period r) q.low q.back t.by (omega (arith, t.inside))

      k : ℕ
      k = s.0

      at : x ≡ rotation k r
      at = t.is ∙ s.2

      other : (j : ℕ) → j < period r → (j ≡ k → ⊥) → delta (rotation j r) x ≡ 0
      other j h d = delta_differ (rotation j r) x (λ f. go (f ∙ at) (compare_means j k))
        where
          go : rotation j r ≡ rotation k r → {o : Ordering} → Means ◌<◌ j k o → ⊥
          go f (is_less l) = apart r some j k l s.1 f
          go f (is_eq l) = d l
          go f (is_gt l) = apart r some k j l h (sym f)

  pub orbit_sum : total (λ j. delta (rotation j r) x) (upto (period r)) ≡ delta r (least_rotation x)
  orbit_sum = go (cmp_means r (least_rotation x))
    where
      none : (r ≡ least_rotation x → ⊥) → total (λ j. delta (rotation j r) x) (upto (period r)) ≡ delta r (least_rotation x)
      none d = total_zero (λ j. delta (rotation j r) x) (upto (period r)) (λ j m. none_of d j (below_upto (period r) j m)) ∙ sym (delta_differ r (least_rotation x) d)

      go : {o : Ordering} → Means ◌≺◌ r (least_rotation x) o → total (λ j. delta (rotation j r) x) (upto (period r)) ≡ delta r (least_rotation x)
      go (is_less h) = none (λ e. ≺_irrefl (rw e at h))
      go (is_eq e) =
          one_of (subst (λ s. IsRotation s x) (sym e) (rotation_sym (least_rotated x (omega arith))))
          ∙ sym (ap (delta r) (sym e) ∙ delta_same r)
      go (is_gt h) = none (λ e. ≺_irrefl (rw e at h))

-- ---- the sum over the necklaces of (n, d)

module _ (n d : ℕ) (p : 0 < n) where
  -- the rows whose least rotation is the necklace r number its period
  pub orbit_size : (r : List ℕ) → Memᴰ r (necklaces n d) → total (λ x. delta r (least_rotation x)) (all_rows n) ≡ period r
  orbit_size r m =
      total_on (λ x. delta r (least_rotation x)) (λ x. total (λ j. delta (rotation j r) x) (upto (period r))) (all_rows n)
      (λ x i. sym (orbit_sum r (omega (arith, k.long)) k.least x ((out_rows n x i).0 ∙ sym k.long)))
      ∙ total_swap (λ x j. delta (rotation j r) x) (all_rows n) (upto (period r))
      ∙ total_same (λ j. total (λ x. delta (rotation j r) x) (all_rows n)) (λ j. 1) (upto (period r)) found
      ∙ total-ones (upto (period r)) ∙ length-upto (period r)
    where
      k : Member n d r
      k = member→ n d r m

      found : (j : ℕ) → total (λ x. delta (rotation j r) x) (all_rows n) ≡ 1
      found j =
          let long : length (rotation j r) ≡ n = rotation-length j r ∙ k.long in
          one_row (rotation j r) (rows_falling n) (rw long at (in_rows (binary_rotation j r k.binary)))

  -- each necklace r weighted by f and by its period: each row of density d weighted by f at its least rotation
  pub orbits : (f : List ℕ → ℕ) → total (λ r. f r * period r) (necklaces n d) ≡ total (λ x. flag (has_density d x) * f (least_rotation x)) (all_rows n)
  orbits f =
      total_on (λ r. f r * period r) (λ r. total (λ x. f r * delta r (least_rotation x)) (all_rows n)) (necklaces n d)
      (λ r m. ap (λ t. f r * t) (sym (orbit_size r m)) ∙ sym (total_scale (f r) (λ x. delta r (least_rotation x)) (all_rows n)))
      ∙ total_swap (λ r x. f r * delta r (least_rotation x)) (necklaces n d) (all_rows n)
      ∙ total_on (λ x. total (λ r. f r * delta r (least_rotation x)) (necklaces n d)) (λ x. flag (has_density d x) * f (least_rotation x)) (all_rows n) (λ x m. go x m (has_density d x) refl)
    where
      other : (x : List ℕ) → (density x ≡ d → ⊥) → (r : List ℕ) → Memᴰ r (necklaces n d) → f r * delta r (least_rotation x) ≡ 0
      other x h r m = rw (delta_differ r (least_rotation x) (λ e. h (sym (least_density x) ∙ ap density (sym e) ∙ (member→ n d r m).count))) (mul-zero (f r))

      go : (x : List ℕ) → Memᴰ x (all_rows n) → (b : Bool) → has_density d x ≡ b → total (λ r. f r * delta r (least_rotation x)) (necklaces n d) ≡ flag b * f (least_rotation x)
      go x m true e = once f (least_rotation x) (necklaces_falling n d) (→member (least_member n d x p m (eqb-true _ _ e))) ∙ omega arith
      go x m false e = total_zero (λ r. f r * delta r (least_rotation x)) (necklaces n d) (other x (eqb-false _ _ e)) ∙ omega arith
