-- The pass that finds the period of a necklace, or that a row is none, and the class by what it finds.
use mathlib.Core.Bool.{Bool, cond, false, not, true, ◌&&◌}
use mathlib.Core.List.{List, [], append-nil, ◌∷◌}
use mathlib.Core.Path.{ap, refl, subst, sym, ◌∙◌, ◌≡◌}
use Prim.Native.Nat.{suc, zero, ℕ, ◌%◌, ◌*◌, ◌<◌}
use native.Mathlib.Omega.{arith}
use lib.Dec.{eqb}
use lib.ListN.{length, length-append}
use borrow.Author.Tests.{ne_eqb}
use Rattle.words.specs.Rotation.{necklace_period}
use Rattle.words.proofs.Booleans.{clash, never}
use Rattle.words.proofs.Lyndon.{lyndon_size}
use Rattle.words.proofs.OnePeriod.{one_period, pre_of_power, scan-nothing}
use Rattle.words.proofs.Periods.{lyndon_test, period_of}
use Rattle.words.proofs.Power.{power_length}
use Rattle.words.proofs.PowerOrder.{Necklace}
use Rattle.words.proofs.Prefixes.{Pre}
use Rattle.words.proofs.Repetition.{period-divides, whole_power}
use Rattle.words.proofs.Root.{root, root_of}
use Rattle.words.proofs.Rotations.{is_necklace→, →is_necklace}
use Rattle.words.proofs.ScanMeaning.{Scanned, has_period, no_necklace, scan_is}
use Rattle.words.specs.Rotation.{is_lyndon, is_necklace, period}
use Rattle.words.specs.InnerScan.{Scan, coded, periodic, scan}

-- ---- the number that is due

not_necklace : (w : List ℕ) → (Necklace w → ⊥) → 0 ≡ necklace_period w
unfolding necklace_period
not_necklace w h = rw (never (is_necklace w) (λ e. h (is_necklace→ w e)))

is_necklace_lem : (w : List ℕ) (p : ℕ) → Necklace w → period w ≡ p → p ≡ necklace_period w
unfolding necklace_period
is_necklace_lem w p s e = rw (→is_necklace w s) (sym e)

-- ---- by the number that one pass finds

-- the period of a necklace is the one that the pass finds
pre_period : {w : List ℕ} {p : ℕ} → Pre w p → Necklace w → period w ≡ p
pre_period {w} {p} q s =
    let some : 0 < length w = omega (arith, simp length-append at (ap length q.front), lyndon_size q.lyn) in
    let r = root w some s in
    let n : length w ≡ suc r.k * length r.u = ap length r.is ∙ power_length (suc r.k) r.u in
    let again : Pre w (length r.u) = pre_of_power r.lyn (suc r.k) w [] (sym r.is ∙ sym (append-nil w)) (omega arith) in
    root_of w r ∙ one_period again q

pub pass_barred : (w : List ℕ) → 0 < length w → coded 0 ≡ scan w → 0 ≡ necklace_period w
pass_barred [] h e = absurd (omega arith)
pass_barred (b ∷ bs) h e = not_necklace (b ∷ bs) (λ s. (scan-nothing b bs).0 (sym e) [] (subst Necklace (sym (append-nil (b ∷ bs))) s))

-- a period that the pass finds
found : (w : List ℕ) (p : ℕ) → 0 < length w → (p ≡ 0 → ⊥) → coded p ≡ scan w → Pre w p
found [] p h k e = absurd (omega arith)
found (b ∷ bs) zero h k e = absurd (k refl)
found (b ∷ bs) (suc p) h k e = go (rw (← e) at (scan_is b bs)) refl
  where
    go : {o : Scan} → Scanned (b ∷ bs) o → o ≡ periodic (suc p) → Pre (b ∷ bs) (suc p)
    go (no_necklace f) q = clash (cc)
    go (has_period {p = r} q) e = let z : r ≡ suc p = cc in rw z at q

module _ (w : List ℕ) (p : ℕ) (h : 0 < length w) (k : p ≡ 0 → ⊥) (e : coded p ≡ scan w) where
  pre : Pre w p
  pre = found w p h k e

  pub pass_whole : length w % p ≡ 0 → p ≡ necklace_period w
  pass_whole d = let s = whole_power pre d in is_necklace_lem w p s (pre_period pre s)

  pub pass_within : (length w % p ≡ 0 → ⊥) → 0 ≡ necklace_period w
  pass_within n = not_necklace w (λ s. n (period-divides pre s))

-- ---- the class by that number

module _ (w : List ℕ) (h : 0 < length w) (p : ℕ) (e : p ≡ necklace_period w) where
  pub class_necklace : not (eqb p 0) ≡ is_necklace w
  unfolding necklace_period
  class_necklace = rw e (go (is_necklace w))
    where
      go : (t : Bool) → not (eqb (cond t (period w) 0) 0) ≡ t
      go true = rw (ne_eqb (period w) 0 (λ z. omega (arith, (period_of w h).low)))
      go false = refl

  pub class_lyndon : eqb p (length w) ≡ is_lyndon w
  unfolding necklace_period
  class_lyndon = rw (e, lyndon_test w h) (go (is_necklace w))
    where
      go : (t : Bool) → eqb (cond t (period w) 0) (length w) ≡ (t && eqb (period w) (length w))
      go true = refl
      go false = ne_eqb 0 (length w) (λ z. omega arith)
