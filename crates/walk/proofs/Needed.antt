-- The trials that the moves of a good walk still need are those owed to the first of what it stands for.
use mathlib.Core.Path.{ap, refl, sym, ◌∙◌, ◌≡◌}
use Prim.Native.Nat.{suc, zero, ℕ, ◌<◌}
use native.Mathlib.Omega.{arith}
use Rattle.listing.proofs.RingsNamed.{refused≢line}
use Rattle.listing.proofs.Strikes.{Closed, last, line}
use Rattle.listing.specs.Listing.{Listing, raise}
use Rattle.listing.specs.Totals.{owed}
use Rattle.refusal.specs.declared.Refusal.TheVariants.{Spent}
use Rattle.walk.proofs.Fuel.{enough_some, moves_enough}
use Rattle.walk.proofs.Invariant.{Fit}
use Rattle.walk.proofs.MovesKeep.{keeping}
use Rattle.walk.proofs.Simulation.{Keeps, keeps_answer, keeps_free, keeps_trial, said_as}
use Rattle.walk.proofs.StepAgrees.{stands_closed}
use Rattle.walk.specs.InnerCourse.{Good, size}
use Rattle.walk.specs.Moves.{Move, Rules, move_at, trial}
use Rattle.walk.specs.Step.{after, answered, enough, needed_by, needed_in, run, trials_needed}
use Rattle.walk.specs.ToCome.{stands}
use Rattle.std.specs.Prelude.{Err}
use Rattle.walk.specs.declared.Standing.TheVariants.{Ended}
use Rattle.walk.specs.declared.Walk.{Walk}

owed_raised : {l : Listing} → Closed l → owed (raise 1 l) ≡ suc (owed l)
owed_raised last = omega arith
owed_raised (line c) = omega arith

module _ (R : Rules) where
  abbrev Kept : Walk → Move → Type 0
  Kept w m = Keeps R (Good R) (Fit R) (stands R) size w m

  abbrev NeededOf : ℕ → Type 0
  NeededOf f = (w : Walk) → size w < f → Good R w → needed_in R f w ≡ owed (stands R w)

  needed_in_lem : (f : ℕ) → NeededOf f
  unfolding needed_in
  needed_in_lem zero w h g = absurd (omega arith)
  needed_in_lem (suc f) w h g = go (keeping R w g) (needed_in_lem f)
    where
      go : {m : Move} → Kept w m → NeededOf f → needed_by m (needed_in R f) ≡ owed (stands R w)
      go (keeps_free {v = v} gv q l) ih = ih v (omega arith) gv ∙ ap owed (sym q)
      go (keeps_trial {v = v} gv fw q l) ih = ap suc (ih v (omega arith) gv) ∙ sym (ap owed q ∙ owed_raised (stands_closed R v gv))
      go (keeps_answer fv p q) ih = sym (ap owed q)

  pub needed_owed : (w : Walk) → Good R w → trials_needed R w ≡ owed (stands R w)
  unfolding trials_needed
  needed_owed w g = needed_in_lem (enough w.n) w (moves_enough g) g

  -- an ended walk needs none
  pub needed_ended : (w : Walk) → w.at ≡ Ended → trials_needed R w ≡ 0
  unfolding trials_needed needed_in move_at
  needed_ended w e = go (enough w.n) (enough_some w.n)
    where
      go : (f : ℕ) → 0 < f → needed_in R f w ≡ 0
      go zero h = absurd (omega arith)
      go (suc f) h = rw e

  -- ---- where a run is spent, a trial is due

  abbrev DueAt : Walk → Type 0
  DueAt v = (u : Walk) × (move_at R v.at v ≡ trial u)

  abbrev DueIn : ℕ → Type 0
  DueIn f = (k t : ℕ) (w : Walk) → size w < f → Good R w → (run R f k t w).answer ≡ Err Spent → DueAt (run R f k t w).walk

  pub spent_due : (f : ℕ) → DueIn f
  unfolding run
  spent_due zero k t w h g = absurd (omega arith)
  spent_due (suc f) k t w h g = go k refl (keeping R w g) (spent_due f)
    where
      go : (k : ℕ) {m : Move} → move_at R w.at w ≡ m → Kept w m → DueIn f → (after m k t w (run R f)).answer ≡ Err Spent → DueAt (after m k t w (run R f)).walk
      go k q (keeps_free {v = v} gv p l) ih e = ih k t v (omega arith) gv e
      go zero q (keeps_trial {v = v} gv fw p l) ih e = (v, q)
      go (suc k) q (keeps_trial {v = v} gv fw p l) ih e = ih k (suc t) v (omega arith) gv e
      go k q (keeps_answer {v = v} fv p r) ih e = absurd (refused≢line (sym (ap (λ a. said_as a (answered a v)) e) ∙ p))
