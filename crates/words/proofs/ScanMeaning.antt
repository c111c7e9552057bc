-- One pass finds that a row begins no necklace, or its period.
use mathlib.Core.List.{List, [], append_assoc, append-nil, ◌++◌, ◌∷◌}
use mathlib.Core.Path.{subst, sym, ◌≡◌}
use Prim.Native.Nat.{Ordering, suc, zero, ℕ, ◌<◌}
use native.Mathlib.Omega.{arith}
use lib.ListN.{length, length-append}
use Rattle.words.proofs.Below.{Means, compare_means, is_eq, is_gt, is_less}
use Rattle.words.proofs.PowerOrder.{Necklace}
use Rattle.words.proofs.Prefixes.{Pre, falls, goes_on, leaves, pre_lyndon, pre_one}
use Rattle.words.specs.InnerScan.{Scan, barred, coded, next, onward, periodic, scan, scan_from, ◌▹◌}
use Rattle.words.proofs.Booleans.{clash}

-- what each answer means
pub data Scanned (a : List ℕ) : Scan → Type 0 where
  no_necklace : ((r : List ℕ) → Necklace (a ++ r) → ⊥) → Scanned a barred
  has_period : {p : ℕ} → Pre a p → Scanned a (periodic p)

-- behind a, of period p, comes b
module _ (a : List ℕ) (p : ℕ) (q : Pre a p) (b : ℕ) (bs : List ℕ) where
  lower_symbol : b < next p a → (r : List ℕ) → Necklace ((a ++ (b ∷ bs)) ++ r) → ⊥
  lower_symbol h r s = falls q b h (bs ++ r) (rw append_assoc at s)

  same_period : b ≡ next p a → Pre (a ▹ b) p
  same_period e = rw e (goes_on q)

  whole_period : next p a < b → Pre (a ▹ b) (suc (length a))
  whole_period h = subst (Pre (a ▹ b)) (omega (arith, length-append a (b ∷ []))) (pre_lyndon (leaves q b h))

  regroup : {o : Scan} → Scanned ((a ▹ b) ++ bs) o → Scanned (a ++ (b ∷ bs)) o
  regroup t = rw append_assoc at t

  one_symbol : {same up : Scan} → (Pre (a ▹ b) p → Scanned ((a ▹ b) ++ bs) same)
      → (Pre (a ▹ b) (suc (length a)) → Scanned ((a ▹ b) ++ bs) up)
      → {o : Ordering} → Means ◌<◌ b (next p a) o → Scanned (a ++ (b ∷ bs)) (onward o same up)
  one_symbol f g (is_less h) = no_necklace (lower_symbol h)
  one_symbol f g (is_eq e) = regroup (f (same_period e))
  one_symbol f g (is_gt h) = regroup (g (whole_period h))

pub scan_from_lem : (bs a : List ℕ) (p : ℕ) → Pre a p → Scanned (a ++ bs) (scan_from a p bs)
unfolding scan_from
scan_from_lem [] a p q = rw append-nil (has_period q)
scan_from_lem (b ∷ bs) a p q = one_symbol a p q b bs (scan_from_lem bs (a ▹ b) p) (scan_from_lem bs (a ▹ b) (suc (length a))) (compare_means b (next p a))

pub scan_is : (b : ℕ) (bs : List ℕ) → Scanned (b ∷ bs) (scan (b ∷ bs))
unfolding scan
scan_is b bs = scan_from_lem bs (b ∷ []) 1 (pre_one b)

-- the period as a number
pub pre_of : (b : List ℕ) (p : ℕ) → 0 < length b → 0 < p → coded p ≡ scan b → Pre b p
pre_of [] p h k e = absurd (omega arith)
pre_of (c ∷ b) zero h k e = absurd (omega arith)
pre_of (c ∷ b) (suc p) h k e = go (scan_is c b) (sym e)
  where
    go : {o : Scan} → Scanned (c ∷ b) o → o ≡ periodic (suc p) → Pre (c ∷ b) (suc p)
    go (no_necklace f) f' = clash (cc)
    go (has_period {p = q} r) f' = let z : q ≡ suc p = cc in subst (Pre (c ∷ b)) z r
