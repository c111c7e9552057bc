-- The pass over a row and one symbol more.
use mathlib.Core.List.{List, [], append_assoc, append-nil, ◌++◌, ◌∷◌}
use mathlib.Core.Path.{ap, refl, sym, ◌∙◌, ◌≡◌}
use Prim.Native.Nat.{Ordering, compare, suc, zero, ℕ, ◌+◌, ◌<◌, ◌≤◌}
use native.Mathlib.Nat.{zero-add}
use native.Mathlib.Omega.{arith}
use lib.ListN.{get_or, length, take}
use lib.Seq.{length-take-le, take-suc}
use Rattle.words.proofs.Below.{compare_self}
use Rattle.words.proofs.ScanSteps.{compare_gt, compare-lt}
use Rattle.words.specs.InnerScan.{Scan, barred, coded, next, onward, periodic, scan, scan_from, ◌▹◌}

-- behind w, scanned, comes b
abbrev pub scan_more : Scan → List ℕ → ℕ → Scan
scan_more barred w b = barred
scan_more (periodic p) w b = onward (compare b (next p w)) (periodic p) (periodic (suc (length w)))

from_more : (bs a : List ℕ) (p b : ℕ) → scan_from a p (bs ▹ b) ≡ scan_more (scan_from a p bs) (a ++ bs) b
unfolding scan_from
from_more [] a p b = rw append-nil refl
from_more (c ∷ bs) a p b = go (from_more bs (a ▹ c) p b) (from_more bs (a ▹ c) (suc (length a)) b) (compare c (next p a))
  where
    regroup : (a ▹ c) ++ bs ≡ a ++ (c ∷ bs)
    regroup = append_assoc a (c ∷ []) bs

    go : scan_from (a ▹ c) p (bs ▹ b) ≡ scan_more (scan_from (a ▹ c) p bs) ((a ▹ c) ++ bs) b
        → scan_from (a ▹ c) (suc (length a)) (bs ▹ b) ≡ scan_more (scan_from (a ▹ c) (suc (length a)) bs) ((a ▹ c) ++ bs) b
        → (o : Ordering)
        → onward o (scan_from (a ▹ c) p (bs ▹ b)) (scan_from (a ▹ c) (suc (length a)) (bs ▹ b)) ≡ scan_more (onward o (scan_from (a ▹ c) p bs) (scan_from (a ▹ c) (suc (length a)) bs)) (a ++ (c ∷ bs)) b
    go same up Ordering.lt = refl
    go same up Ordering.eq = same ∙ ap (λ w. scan_more (scan_from (a ▹ c) p bs) w b) regroup
    go same up Ordering.gt = up ∙ ap (λ w. scan_more (scan_from (a ▹ c) (suc (length a)) bs) w b) regroup

pub scan_more_lem : (a : List ℕ) (b : ℕ) → 0 < length a → scan (a ▹ b) ≡ scan_more (scan a) a b
unfolding scan
scan_more_lem [] b h = absurd (omega arith)
scan_more_lem (c ∷ bs) b h = from_more bs (c ∷ []) 1 b

pub scan_one : (b : ℕ) → scan (b ∷ []) ≡ periodic 1
unfolding scan scan_from
scan_one b = refl

-- by the period of a, as a number
module _ (a : List ℕ) (p b : ℕ) (h : 0 < length a) (e : coded p ≡ scan a) where
  pub more_barred : p ≡ 0 → coded 0 ≡ scan (a ▹ b)
  more_barred f = sym (scan_more_lem a b h ∙ ap (λ o. scan_more o a b) (sym e) ∙ rw f)

  by_period : 0 < p → scan (a ▹ b) ≡ onward (compare b (next p a)) (periodic p) (periodic (suc (length a)))
  by_period k = go p refl
    where
      go : (q : ℕ) → p ≡ q → scan (a ▹ b) ≡ onward (compare b (next p a)) (periodic p) (periodic (suc (length a)))
      go zero f = absurd (omega arith)
      go (suc q) f = scan_more_lem a b h ∙ ap (λ o. scan_more o a b) (sym e) ∙ rw f

  pub more_lower : 0 < p → b < next p a → coded 0 ≡ scan (a ▹ b)
  more_lower k l = sym (by_period k ∙ rw (compare-lt l))

  pub more_same : 0 < p → b ≡ next p a → coded p ≡ scan (a ▹ b)
  more_same k f = sym (by_period k ∙ rw (f, compare_self (next p a)) (go p k))
    where
      go : (q : ℕ) → 0 < q → periodic q ≡ coded q
      go zero l = absurd (omega arith)
      go (suc q) l = refl

  pub more_higher : 0 < p → next p a < b → coded (suc (length a)) ≡ scan (a ▹ b)
  more_higher k l = sym (by_period k ∙ rw (compare_gt l))

-- what begins no necklace, no more so with symbols behind it
pub barred_on : (a : List ℕ) (i k : ℕ) → 0 < i → k + i ≤ length a → barred ≡ scan (take i a) → barred ≡ scan (take (k + i) a)
barred_on a i zero h l e = rw zero-add e
barred_on a i (suc k) h l e =
    let w = take (k + i) a in
    let size : length w ≡ k + i = length-take-le (k + i) a (omega arith) in
    let one : suc k + i ≡ suc (k + i) = omega arith in
    rw (one, take-suc a (k + i) 0 (omega arith)) (more_barred w 0 (get_or a (k + i) 0) (omega arith) (barred_on a i k h (omega arith) e) refl)
