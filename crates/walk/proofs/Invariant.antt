-- The records that a step meets on its way (good), and those that it takes and hands back (fit).
use mathlib.Core.Bool.{and-eq-true_iff, true, ◌&&◌}
use mathlib.Core.List.{[], ◌∷◌}
use mathlib.Core.Path.{◌≡◌}
use Prim.Native.Nat.{suc, ℕ, ◌-◌, ◌<◌, ◌≤◌}
use native.Mathlib.Omega.{arith}
use lib.Dec.{leb}
use lib.ListN.{get_or, length, length-replicate, length-set, set, take}
use lib.Seq.{drop-set-lt, get_or-take, take-set-lt}
use borrow.Author.Tests.{le-leb, leb-true}
use Rattle.density.proofs.Binary.{Binary, binary_at, binary_set, binary_test, test_binary, within_binary}
use Rattle.density.specs.Necklaces.{begins, is_necklace_of}
use Rattle.walk.specs.InnerCourse.{Sound}
use Rattle.density.proofs.PaddedRows.{padded→, zeros_padded, →padded}
use Rattle.density.specs.Rows.{is_padded}
use Rattle.refusal.specs.declared.Refusal.{Refusal}
use Rattle.std.specs.Prelude.{Err, Ok, Result}
use Rattle.walk.specs.Fit.{fit, fit_at, fit_rows, fit_sizes}
use Rattle.walk.specs.Moves.{Rules, ended, moved, row_of}
use Rattle.walk.specs.Step.{answered, keeps}
use Rattle.walk.specs.declared.Answer.{Answer}
use Rattle.walk.specs.declared.Answer.TheVariants.{None, Ring}
use Rattle.walk.specs.declared.Standing.{Standing}
use Rattle.walk.specs.declared.Standing.TheVariants.{Down, Given, Up}
use Rattle.walk.specs.declared.Walk.{Walk}
use Rattle.words.proofs.Booleans.{→and}
use Rattle.words.proofs.Alphabet.{within_replicate, within_take}
use Rattle.words.proofs.HighestSymbol.{zeros_clean}
use Rattle.words.specs.Symbols.{zeros}

-- ---- what every record on the way has

-- it doesn't matter where the walk stands
pub sound_at : {R : Rules} {w : Walk} → Sound R w → (at : Standing) → Sound R (moved w w.row at)
sound_at s at = record { some = s.some; most = s.most; dense = s.dense; kinds = s.kinds; long = s.long; binary = s.binary; clean = s.clean; keeps = s.keeps }

pub sound_set : {R : Rules} {w : Walk} → Sound R w → (q b : ℕ) → q < w.n → Binary (b ∷ []) → Sound R (moved w (set w.row q b) w.at)
sound_set {w = w} s q b h c = record {
  some = s.some;
  most = s.most;
  dense = s.dense;
  kinds = s.kinds;
  long = rw length-set s.long;
  binary = rw (take-set-lt w.n w.row q b h) (binary_set s.binary q b c);
  clean = rw (drop-set-lt w.n w.row q b h) s.clean;
  keeps = s.keeps;
}

pub sound_ended : {R : Rules} {w : Walk} → Sound R w → Sound R (ended w)
sound_ended {w = w} s = record {
  some = s.some;
  most = s.most;
  dense = s.dense;
  kinds = s.kinds;
  long = rw length-replicate s.long;
  binary = within_binary _ (within_take w.n (zeros (length w.row)) (within_replicate (length w.row) 0 (omega arith)));
  clean = zeros_clean w.n (length w.row);
  keeps = s.keeps;
}

-- an answer keeps the row, zeros, or the row that was kept
pub sound_answered : {R : Rules} {w : Walk} → Sound R w → (a : Result Answer Refusal) → Sound R (answered a w)
sound_answered {w = w} s a = record { some = s.some; most = s.most; dense = s.dense; kinds = s.kinds; long = s.long; binary = s.binary; clean = s.clean; keeps = go a }
  where
    go : (a : Result Answer Refusal) → is_padded w.n (keeps a w) ≡ true
    go (Ok Ring) = →padded w.n w.row (binary_test s.binary) s.clean
    go (Ok None) = zeros_padded w.n (length w.kept)
    go (Err r) = s.keeps

-- ---- fit

pub record Fit (R : Rules) (w : Walk) : Type 0 where
  pub test : fit R w ≡ true
  pub long : length w.row ≡ R.most

pub sound_fit : {R : Rules} {w : Walk} → Sound R w → fit_at R w.at w ≡ true → Fit R w
unfolding fit fit_sizes
sound_fit {R} {w} s e = record {
  test =
      →and (→and (le-leb _ _ s.some) (→and (le-leb _ _ s.most) (→and (le-leb _ _ s.dense) s.kinds)))
      (→and (→and (→padded w.n w.row (binary_test s.binary) s.clean) s.keeps) e);
  long = s.long;
}

pub fit_sound : {R : Rules} {w : Walk} → Fit R w → Sound R w
unfolding fit fit_sizes
fit_sound {R} {w} f =
    let a = (and-eq-true_iff (fit_sizes R w) (fit_rows w && fit_at R w.at w)).0 f.test in
    let b = (and-eq-true_iff (fit_rows w) (fit_at R w.at w)).0 a.1 in
    let r = (and-eq-true_iff (is_padded w.n w.row) (is_padded w.n w.kept)).0 b.0 in
    let c = padded→ w.n w.row r.0 in
    let s = (and-eq-true_iff (leb 1 w.n) (leb w.n R.most && (leb w.d w.n && R.known w.kind))).0 a.0 in
    let t = (and-eq-true_iff (leb w.n R.most) (leb w.d w.n && R.known w.kind)).0 s.1 in
    let u = (and-eq-true_iff (leb w.d w.n) (R.known w.kind)).0 t.1 in
    record {
      some = leb-true _ _ s.0;
      most = leb-true _ _ t.0;
      dense = leb-true _ _ u.0;
      kinds = u.1;
      long = f.long;
      binary = test_binary 1 _ (omega arith) c.0;
      clean = c.1;
      keeps = r.1;
    }

pub fit_at_lem : {R : Rules} {w : Walk} → Fit R w → fit_at R w.at w ≡ true
unfolding fit
fit_at_lem {R} {w} f =
    let a = (and-eq-true_iff (fit_sizes R w) (fit_rows w && fit_at R w.at w)).0 f.test in
    ((and-eq-true_iff (fit_rows w) (fit_at R w.at w)).0 a.1).1

-- the ended walk is fit
pub ended_fit : {R : Rules} (w : Walk) → Sound R w → Fit R (answered (Ok None) (ended w))
unfolding fit_at
ended_fit w s = sound_fit (sound_answered (sound_ended s) (Ok None)) (→and (zeros_clean 0 (length w.row)) (zeros_clean 0 (length w.kept)))

-- where a trial is due, a good record is fit
pub down_fit : (R : Rules) (w : Walk) (q : ℕ) → q < w.n → fit_at R (Down (suc q)) w ≡ true
unfolding fit_at
down_fit R w q h = →and (le-leb 1 (suc q) (omega arith)) (le-leb (suc q) w.n h)

pub up_fit : (R : Rules) (w : Walk) (i : ℕ) → 1 ≤ i → i < w.n → begins w.n w.d (take i w.row) ≡ true → fit_at R (Up (suc i)) w ≡ true
unfolding fit_at
up_fit R w i l h e =
    let m : suc i - 1 ≡ i = omega arith in
    →and (le-leb 2 (suc i) (omega arith)) (→and (le-leb (suc i) w.n h) (rw m e))

pub given_fit : (R : Rules) (w : Walk) → is_necklace_of w.d (row_of w) ≡ true → R.of_kind w.kind (row_of w) ≡ true → fit_at R Given w ≡ true
unfolding fit_at
given_fit R w e f = →and e f

-- a symbol of a good row
pub symbol : {R : Rules} {w : Walk} → Sound R w → (q : ℕ) → q < w.n → get_or w.row q 0 ≤ 1
symbol {w = w} s q h = rw (get_or-take w.n w.row q 0 h) at (binary_at s.binary q)
