-- The rows with a rotation whose power is at or below w: all rows but those above the highest prenecklace there.
use mathlib.Core.Bool.{Bool, false, true}
use mathlib.Core.List.{List, Memᴰ, [], append-nil, ◌++◌}
use mathlib.Core.Path.{ap, refl, subst, sym, ◌∙◌, ◌≡◌}
use Prim.Native.Nat.{Ordering, suc, zero, ℕ, ◌*◌, ◌+◌, ◌-◌, ◌/◌, ◌<◌, ◌≤◌}
use native.Mathlib.Nat.{mul-zero}
use native.Mathlib.Omega.{arith}
use lib.Dec.{is_le}
use lib.ListN.{drop, length, take, take-append-drop}
use lib.Seq.{length-take-le}
use Rattle.counting.proofs.Highest.{Candidate, Found, below_is, nowhere, there_is}
use Rattle.counting.proofs.Orbits.{least_member}
use Rattle.counting.proofs.Prenecklaces.{Passes, Prenecklace, failed, passed, passes_is}
use Rattle.counting.proofs.Recursion.{factor_fits, factor_pos}
use Rattle.counting.proofs.RowCounts.{density-count}
use Rattle.counting.proofs.Sums.{total-add, total_on, total_same, total_zero}
use Rattle.counting.specs.InnerBound.{Bound, at, highest_below, highest_up_to, none, only_if, or_else}
use Rattle.density.specs.Choose.{choose}
use Rattle.counting.specs.InnerRoots.{rows_above, rows_below}
use Rattle.counting.specs.InnerSums.{flag, total, has_density}
use Rattle.density.proofs.Binary.{Binary, binary_front, empty}
use Rattle.density.specs.Density.{all_rows, density}
use Rattle.words.proofs.AtMost.{equal, lower}
use Rattle.words.proofs.Below.{Means, cmp_means, is_eq, is_gt, is_less, ≺_trans, ◌≺◌}
use Rattle.words.proofs.FirstDifference.{ext, same_length}
use Rattle.words.proofs.OrderTests.{not_le, not_lt, →le, →lt}
use Rattle.words.proofs.Power.{power}
use Rattle.words.proofs.PowerOrder.{Necklace}
use Rattle.words.specs.Order.{cmp, le, lt}
use Rattle.words.specs.Rotation.{least_rotation}

-- a row below another, the same (then t says), or above it
abbrev pub judged : Ordering → Bool → Bool
judged Ordering.lt t = true
judged Ordering.eq t = t
judged Ordering.gt t = false

-- a necklace as long as v
pub record Row (v k : List ℕ) : Type 0 where
  pub long : length k ≡ length v
  pub binary : Binary k
  pub necklace : Necklace k

pub data Bounds (t : Bool) (v : List ℕ) : Bound → Type 0 where
  no_bound : ((k : List ℕ) → Row v k → judged (cmp k v) t ≡ false) → Bounds t v none
  bounded : {u : List ℕ} → length u ≡ length v → Binary u → Prenecklace u → ((k : List ℕ) → Row v k → judged (cmp k v) t ≡ le k u) → Bounds t v (at u)

-- v itself is no necklace, or not allowed
module _ (t : Bool) (v : List ℕ) (never : (k : List ℕ) → Row v k → k ≡ v → t ≡ false) where
  candidate : (k : List ℕ) → Row v k → k ≺ v → Candidate [] v k
  candidate k r h = record { long = r.long; binary = r.binary; necklace = r.necklace; less = h }

  from_below : {h : Bound} → Found [] v h → Bounds t v h
  from_below (nowhere f) = no_bound (λ k r. go k r (cmp_means k v))
    where
      go : (k : List ℕ) → Row v k → {o : Ordering} → Means ◌≺◌ k v o → judged o t ≡ false
      go k r (is_less h) = absurd (f k (candidate k r h))
      go k r (is_eq e) = never k r e
      go k r (is_gt h) = refl
  from_below (there_is {v = u} m) = bounded (ap length m.is ∙ m.long) (subst Binary (sym m.is) m.binary) m.pre (λ k r. go k r (cmp_means k v))
    where
      low : u ≺ v
      low = subst (λ s. s ≺ v) (sym m.is) m.less

      go : (k : List ℕ) → Row v k → {o : Ordering} → Means ◌≺◌ k v o → judged o t ≡ le k u
      go k r (is_less h) = sym (→le k u (m.most k (candidate k r h)))
      go k r (is_eq e) = never k r e ∙ sym (not_le k u (subst (λ s. u ≺ s) (sym e) low))
      go k r (is_gt h) = sym (not_le k u (≺_trans low h))

pub highest_is : (t : Bool) (v : List ℕ) → 0 < length v → Binary v → Bounds t v (highest_up_to t v)
unfolding highest_up_to le
highest_is false v p b = from_below false v (λ k r e. refl) (below_is [] v empty b)
highest_is true v p b = go (passes_is v p)
  where
    itself : (o : Ordering) → judged o true ≡ is_le o
    itself Ordering.lt = refl
    itself Ordering.eq = refl
    itself Ordering.gt = refl

    go : {s : Bool} → Passes v s → Bounds true v (or_else (only_if s v) (highest_below [] v))
    go (passed s) = bounded refl b s (λ k r. itself (cmp k v))
    go (failed f) = from_below true v (λ k r e. absurd (f [] (rw append-nil (rw e at r.necklace)))) (below_is [] v empty b)

-- a power against a row that begins with v
pub power_below : (j : ℕ) (k v w : List ℕ) → length k ≡ length v → le (power (suc j) k) (v ++ w) ≡ judged (cmp k v) (le (power (suc j) v) (v ++ w))
unfolding power
power_below j k v w l = go (cmp_means k v)
  where
    go : {o : Ordering} → Means ◌≺◌ k v o → le (power (suc j) k) (v ++ w) ≡ judged o (le (power (suc j) v) (v ++ w))
    go (is_less h) = →le (power (suc j) k) (v ++ w) (lower (ext (same_length h l) (power j k) w))
    go (is_eq e) = rw e
    go (is_gt h) = not_le (power (suc j) k) (v ++ w) (ext (same_length h (sym l)) w (power j k))

-- ---- at or below a row

at_most_or_above : (k u : List ℕ) → flag (le k u) + flag (lt u k) ≡ 1
at_most_or_above k u = go (cmp_means k u)
  where
    go : {o : Ordering} → Means ◌≺◌ k u o → flag (le k u) + flag (lt u k) ≡ 1
    go (is_less h) = rw (→le k u (lower h), not_lt u k (lower h))
    go (is_eq e) = rw (→le k u (equal e), not_lt u k (equal e))
    go (is_gt h) = rw (not_le k u h, →lt u k h)

below_count : (u : List ℕ) (e : ℕ) → total (λ x. flag (has_density e x) * flag (le (least_rotation x) u)) (all_rows (length u)) ≡ choose (length u) e - rows_above u e
unfolding rows_above
below_count u e =
    let low : List ℕ → ℕ = λ x. flag (has_density e x) * flag (le (least_rotation x) u) in
    let high : List ℕ → ℕ = λ x. flag (has_density e x) * flag (lt u (least_rotation x)) in
    let each : (x : List ℕ) → flag (has_density e x) ≡ low x + high x = λ x. omega (arith, ap (λ t. flag (has_density e x) * t) (at_most_or_above (least_rotation x) u)) in
    let all = total_same (λ x. flag (has_density e x)) (λ x. low x + high x) (all_rows (length u)) each in
    omega (arith, all, total-add low high (all_rows (length u)), density-count (length u) e)

-- the rows of m symbols and density e with a rotation at or below the bound
abbrev pub count_to : Bound → ℕ → ℕ → ℕ
count_to none m e = 0
count_to (at u) m e = choose m e - rows_above u e

-- ---- at or below w, as a power

judge : (q : ℕ) → 0 < q → (k v r w : List ℕ) → w ≡ v ++ r → length k ≡ length v → le (power q k) w ≡ judged (cmp k v) (le (power q v) w)
judge zero p k v r w e l = absurd (omega arith)
judge (suc j) p k v r w e l = rw e (power_below j k v r l)

module _ (n : ℕ) (w : List ℕ) (m e : ℕ) (some : 0 < n) (whole : m * (n / m) ≡ n) (long : length w ≡ n) (binary : Binary w) where
  abbrev q : ℕ
  q = n / m

  abbrev v : List ℕ
  v = take m w

  q_pos : 0 < q
  q_pos = factor_pos m (n / m) n some whole

  pub m_pos : 0 < m
  m_pos = factor_pos (n / m) m n some (omega arith)

  fits : m ≤ length w
  fits = omega (arith, factor_fits m (n / m) n some whole)

  pub v_long : length v ≡ m
  v_long = length-take-le m w fits

  w_cut : w ≡ v ++ drop m w
  w_cut = sym (take-append-drop m w)

  pub v_binary : Binary v
  v_binary = binary_front v (drop m w) (subst Binary w_cut binary)

  least_row : (x : List ℕ) → Memᴰ x (all_rows m) → Row v (least_rotation x)
  least_row x i =
      let r = least_member m (density x) x m_pos i refl in
      record { long = r.long ∙ sym v_long; binary = r.binary; necklace = r.least }

  -- the test on a power of a row's least rotation
  tested : (x : List ℕ) → Memᴰ x (all_rows m) → le (power q (least_rotation x)) w ≡ judged (cmp (least_rotation x) v) (le (power q v) w)
  tested x i = judge q q_pos (least_rotation x) v (drop m w) w w_cut (least_row x i).long

  counted : {h : Bound} → Bounds (le (power q v) w) v h → total (λ x. flag (has_density e x) * flag (le (power q (least_rotation x)) w)) (all_rows m) ≡ count_to h m e
  counted (no_bound f) =
      total_zero (λ x. flag (has_density e x) * flag (le (power q (least_rotation x)) w)) (all_rows m)
      (λ x i. ap (λ t. flag (has_density e x) * flag t) (tested x i ∙ f (least_rotation x) (least_row x i)) ∙ mul-zero (flag (has_density e x)))
  counted (bounded {u = u} l b s f) =
      let size : length u ≡ m = l ∙ v_long in
      total_on (λ x. flag (has_density e x) * flag (le (power q (least_rotation x)) w)) (λ x. flag (has_density e x) * flag (le (least_rotation x) u)) (all_rows m)
      (λ x i. ap (λ t. flag (has_density e x) * flag t) (tested x i ∙ f (least_rotation x) (least_row x i)))
      ∙ subst (λ t. total (λ x. flag (has_density e x) * flag (le (least_rotation x) u)) (all_rows t) ≡ choose t e - rows_above u e) size (below_count u e)

  -- those with a rotation whose power of n symbols is at or below w
  pub rows_below_lem : rows_below n w m e ≡ count_to (highest_up_to (le (power (n / m) (take m w)) w) (take m w)) m e
  unfolding rows_below
  rows_below_lem = counted (highest_is (le (power q v) w) v (omega (arith, v_long, m_pos)) v_binary)
