-- One step of the pass over a row, for loops.
use mathlib.Core.List.{List, [], ◌∷◌}
use mathlib.Core.Path.{ap, refl, subst, sym, ◌∙◌, ◌≡◌}
use Prim.Native.Nat.{Ordering, compare, suc, zero, ℕ, ◌+◌, ◌-◌, ◌<◌, ◌≤◌}
use native.Mathlib.Nat.{sub-zero}
use native.Mathlib.Numerals.{add-one}
use native.Mathlib.Omega.{arith}
use lib.ListN.{drop, drop_of_length-le, get_or, get_or-replicate, length, take}
use lib.Seq.{drop-cons, get_or-take, length-take-le, take-suc}
use Rattle.words.proofs.Below.{Means, compare_means, compare_self, is_eq, is_gt, is_less}
use Rattle.words.specs.InnerScan.{Leading, barred, coded, next, onward, scan, scan_from}

-- ---- three-way comparison of numbers

pub compare-lt : {x y : ℕ} → x < y → compare x y ≡ Ordering.lt
compare-lt {x} {y} h = go (compare_means x y)
  where
    go : {o : Ordering} → Means ◌<◌ x y o → o ≡ Ordering.lt
    go (is_less k) = refl
    go (is_eq e) = absurd (omega arith)
    go (is_gt k) = absurd (omega arith)

pub compare_gt : {x y : ℕ} → y < x → compare x y ≡ Ordering.gt
compare_gt {x} {y} h = go (compare_means x y)
  where
    go : {o : Ordering} → Means ◌<◌ x y o → o ≡ Ordering.gt
    go (is_less k) = absurd (omega arith)
    go (is_eq e) = absurd (omega arith)
    go (is_gt k) = refl

-- ---- the pass, at place i of a, with period p

pub scan_start : (a : List ℕ) → 0 < length a → scan a ≡ scan_from (take 1 a) 1 (drop 1 a)
unfolding scan
scan_start [] h = absurd (omega arith)
scan_start (b ∷ bs) h = refl

pub scan_end : (a : List ℕ) (p i : ℕ) → 0 < p → length a ≤ i → coded p ≡ scan_from (take i a) p (drop i a)
unfolding scan_from
scan_end a zero i h l = absurd (omega arith)
scan_end a (suc p) i h l = rw (drop_of_length-le a {i = i} l)

module _ (a : List ℕ) (p i : ℕ) (h : i < length a) (k : p ≤ i) (l : 0 < p) where
  pub next_at : next p (take i a) ≡ get_or a (i - p) 0
  unfolding next
  next_at = rw (length-take-le i a (omega arith)) (get_or-take i a (i - p) 0 (omega arith))

  -- the pass from place i, by how the two symbols compare
  step_at : scan_from (take i a) p (drop i a) ≡ onward (compare (get_or a i 0) (get_or a (i - p) 0)) (scan_from (take (suc i) a) p (drop (suc i) a)) (scan_from (take (suc i) a) (suc i) (drop (suc i) a))
  unfolding scan_from
  step_at = rw (drop-cons a i 0 h, take-suc a i 0 h, ← next_at, length-take-le i a (omega arith))

  pub scan_lower : get_or a i 0 < get_or a (i - p) 0 → scan_from (take i a) p (drop i a) ≡ barred
  scan_lower q = rw (step_at, compare-lt q)

  pub scan_same : get_or a i 0 ≡ get_or a (i - p) 0 → scan_from (take i a) p (drop i a) ≡ scan_from (take (suc i) a) p (drop (suc i) a)
  scan_same q = rw (step_at, q, compare_self (get_or a (i - p) 0))

  pub scan_higher : get_or a (i - p) 0 < get_or a i 0 → scan_from (take i a) p (drop i a) ≡ scan_from (take (suc i) a) (suc i) (drop (suc i) a)
  scan_higher q = rw (step_at, compare_gt q)

-- the same with the place j that is compared in the period's stead
module _ (a : List ℕ) (i j : ℕ) (h : i < length a) (k : j < i) where
  compared : i - (i - j) ≡ j
  compared = omega arith

  pub pass_lower : get_or a i 0 < get_or a j 0 → scan_from (take i a) (i - j) (drop i a) ≡ barred
  pass_lower q = scan_lower a (i - j) i h (omega arith) (omega arith) (rw compared q)

  pub pass_same : get_or a i 0 ≡ get_or a j 0 → scan_from (take i a) (i - j) (drop i a) ≡ scan_from (take (i + 1) a) (i + 1 - (j + 1)) (drop (i + 1) a)
  pass_same q =
      let p : i + 1 - (j + 1) ≡ i - j = omega arith in
      rw (p, add-one) (scan_same a (i - j) i h (omega arith) (omega arith) (rw compared q))

  pub pass_higher : get_or a j 0 < get_or a i 0 → scan_from (take i a) (i - j) (drop i a) ≡ scan_from (take (i + 1) a) (i + 1 - 0) (drop (i + 1) a)
  pass_higher q = rw (sub-zero, add-one) (scan_higher a (i - j) i h (omega arith) (omega arith) (rw compared q))

-- ---- the pass over the zeros at the front and the symbol behind them, which are a Lyndon word

module _ (a : List ℕ) (z : ℕ) (q : Leading a z) (h : z < length a) where
  at_front : (k : ℕ) → k < z → get_or a k 0 ≡ 0
  at_front k l = sym (get_or-take z a k 0 l) ∙ ap (λ w. get_or w k 0) q.front ∙ get_or-replicate z k 0 0 l

  over_zeros : (k : ℕ) → k < z → scan a ≡ scan_from (take (suc k) a) 1 (drop (suc k) a)
  over_zeros zero l = scan_start a (omega arith)
  over_zeros (suc k) l =
      over_zeros k (omega arith) ∙ scan_same a 1 (suc k) (omega arith) (omega arith) (omega arith) (at_front (suc k) l ∙ sym (at_front (suc k - 1) (omega arith)))

  over_one : (y : ℕ) → z ≡ y → scan a ≡ scan_from (take (suc y) a) (suc y) (drop (suc y) a)
  over_one zero e = scan_start a (omega arith)
  over_one (suc y) e =
      over_zeros y (omega arith) ∙ scan_higher a 1 (suc y) (omega arith) (omega arith) (omega arith) (omega (arith, at_front (suc y - 1) (omega arith), subst (λ k. 0 < get_or a k 0) e (q.then h)))

  pub over_first : scan a ≡ scan_from (take (z + 1) a) (z + 1 - 0) (drop (z + 1) a)
  over_first = rw (sub-zero, add-one) (over_one z (omega arith))
