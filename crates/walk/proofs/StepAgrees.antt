-- One step of a fit walk is the book's step on what it stands for.
use mathlib.Core.Bool.{and-eq-true_iff, false, true, ◌&&◌}
use mathlib.Core.List.{List, [], ◌∷◌}
use mathlib.Core.Logic.{inl, inr, ◌⊎◌}
use mathlib.Core.Path.{ap, refl, ◌∙◌, ◌≡◌}
use Prim.Native.Nat.{suc, zero, ℕ, ◌-◌}
use native.Mathlib.Nat.{zero-add}
use native.Mathlib.Omega.{arith}
use lib.Dec.{leb}
use lib.ListN.{take}
use lib.Seq.{length-take-le}
use borrow.Author.Tests.{le-ltb, leb-true, lt-ltb}
use Rattle.density.proofs.Branching.{up_some}
use Rattle.density.specs.Necklaces.{begins, is_necklace_of}
use Rattle.listing.proofs.Strikes.{Closed, all_closed, coming, line, lines_closed, strike_closed}
use Rattle.listing.specs.Listing.{Line, Listing, Said, entry, listing_step, over, strike, told}
use Rattle.refusal.specs.declared.Refusal.TheVariants.{Ended as HasEnded}
use Rattle.walk.proofs.Fuel.{enough_some, moves_enough}
use Rattle.walk.proofs.Invariant.{Fit, fit_at_lem, fit_sound}
use Rattle.walk.proofs.MovesKeep.{keeping}
use Rattle.walk.proofs.Simulation.{Ran, given, run_as_listed, run_ended, said_as, spent, told_as}
use Rattle.walk.specs.InnerCourse.{Good, GoodAt, Sound, size}
use Rattle.walk.specs.Fit.{fit_at}
use Rattle.walk.specs.Moves.{Rules, row_of}
use Rattle.walk.specs.Step.{enough, run, step_numbers, step_of, stepped, told_by}
use Rattle.walk.specs.ToCome.{first_at, lines_at, rows_at, stands}
use Rattle.std.specs.Prelude.{Err}
use Rattle.walk.specs.declared.Standing.{Standing}
use Rattle.walk.specs.declared.Standing.TheVariants.{Down, Ended, Given, Limit, Up}
use Rattle.walk.specs.declared.Stepped.{Stepped}
use Rattle.walk.specs.declared.Walk.{Walk}

first_closed : (k : ℕ) (l : List (List ℕ)) → (l ≡ [] → ⊥) → Closed (first_at k l)
first_closed k [] h = absurd (h refl)
first_closed k (r ∷ rs) h = line (lines_closed true r rs)

-- rings and then none are to come
pub stands_closed : (R : Rules) (w : Walk) → Good R w → Closed (stands R w)
unfolding stands lines_at rows_at
stands_closed R w g = strike_closed (R.of_kind w.kind) (go w.at g.placed)
  where
    s : Sound R w
    s = g.sound

    go : (s : Standing) → GoodAt s w → Closed (lines_at s w.n w.d w.row)
    go Limit h = all_closed w.n w.d (row_of w)
    go (Down p) h = lines_closed false _ _
    go (Up zero) h = absurd h
    go (Up (suc i)) h = first_closed (w.n - i) _ (up_some w.n w.d (take i w.row) (w.n - i) (omega (arith, length-take-le i w.row (omega (arith, h.1, s.most, s.long)), h.1)) h.2)
    go Given h = lines_closed true _ _
    go Ended h = absurd h

-- ---- a fit walk has ended, or is good

pub fit-placed : (R : Rules) (w : Walk) (s : Standing) → fit_at R s w ≡ true → (s ≡ Ended) ⊎ GoodAt s w
unfolding fit_at
fit-placed R w Limit e = inr tt
fit-placed R w (Down p) e = inr (leb-true p w.n ((and-eq-true_iff (leb 1 p) (leb p w.n)).0 e).1)
fit-placed R w (Up zero) e = absurd (omega (arith, leb-true 2 0 ((and-eq-true_iff (leb 2 0) (leb 0 w.n && begins w.n w.d (take (0 - 1) w.row))).0 e).0))
fit-placed R w (Up (suc i)) e =
    let a = (and-eq-true_iff (leb 2 (suc i)) (leb (suc i) w.n && begins w.n w.d (take (suc i - 1) w.row))).0 e in
    let b = (and-eq-true_iff (leb (suc i) w.n) (begins w.n w.d (take (suc i - 1) w.row))).0 a.1 in
    let m : suc i - 1 ≡ i = omega arith in
    inr (omega (arith, leb-true 2 (suc i) a.0), omega (arith, leb-true (suc i) w.n b.0), rw m at b.1)
fit-placed R w Given e = inr ((and-eq-true_iff (is_necklace_of w.d (row_of w)) (R.of_kind w.kind (row_of w))).0 e).0
fit-placed R w Ended e = inl refl

-- ---- the step

pub record Agrees (R : Rules) (w : Walk) (a : ℕ) (r : Stepped) : Type 0 where
  pub tells : told_by (step_numbers r) ≡ (listing_step (stands R w) a).tells
  pub left : stands R r.walk ≡ (listing_step (stands R w) a).left
  pub fits : Fit R r.walk

pub ended_stands : (R : Rules) (w : Walk) → w.at ≡ Ended → stands R w ≡ over
unfolding stands lines_at strike
ended_stands R w e = rw e

module _ (R : Rules) (w : Walk) (a : ℕ) where
  told_same : {s s' : Said} {t t' : ℕ} → s ≡ s' → t ≡ t' → told s t ≡ told s' t'
  told_same p q = cc

  as_listed : {s : Line} {o : ℕ} {rest : Listing} (r : Stepped) → stands R w ≡ entry s o rest → Ran R (Good R) (Fit R) (stands R) size a 0 s o rest r → Agrees R w a r
  unfolding listing_step
  as_listed {s} {o} r e (spent l p q f g) = record {
    tells = rw (e, lt-ltb a o l) (told_as r.answer r.walk r.place r.trials ∙ told_same (ap (λ t. said_as t r.walk) p) (q ∙ zero-add a));
    left = rw (e, lt-ltb a o l) g;
    fits = f;
  }
  as_listed {s} {o} r e (given l p q f g) = record {
    tells = rw (e, le-ltb a o l) (told_as r.answer r.walk r.place r.trials ∙ told_same p (q ∙ zero-add o));
    left = rw (e, le-ltb a o l) g;
    fits = f;
  }

  pub fit_step : Fit R w → step_of R w a ≡ run R (enough w.n) a 0 w
  unfolding step_of
  fit_step f = rw f.test

  -- an ended walk: 20, no trial, no change
  ended_agrees : Fit R w → w.at ≡ Ended → Agrees R w a (stepped w (Err HasEnded) 0)
  unfolding listing_step
  ended_agrees f e = record { tells = rw over_now; left = rw over_now; fits = f }
    where
      over_now : stands R w ≡ over
      over_now = ended_stands R w e

  pub ended_step : Fit R w → w.at ≡ Ended → step_of R w a ≡ stepped w (Err HasEnded) 0
  ended_step f e = fit_step f ∙ run_ended R w (enough w.n) a 0 (enough_some w.n) e

  -- any other: the first of what is to come, or spent
  pub good_step : Fit R w → Good R w → {s : Line} {o : ℕ} {rest : Listing} → stands R w ≡ entry s o rest → Ran R (Good R) (Fit R) (stands R) size a 0 s o rest (step_of R w a)
  good_step f g {s} {o} {rest} e =
      rw (fit_step f) (run_as_listed R (Good R) (Fit R) (stands R) size (keeping R) (enough w.n) a 0 w s o rest (moves_enough g) g e)

  pub step_agrees : Fit R w → Agrees R w a (step_of R w a)
  step_agrees f = go (fit-placed R w w.at (fit_at_lem f))
    where
      go : (w.at ≡ Ended) ⊎ GoodAt w.at w → Agrees R w a (step_of R w a)
      go (inl e) = rw (ended_step f e) (ended_agrees f e)
      go (inr p) =
          let g : Good R w = record { sound = fit_sound f; placed = p } in
          let b = coming (stands_closed R w g) in
          as_listed (step_of R w a) b.is (good_step f g b.is)
