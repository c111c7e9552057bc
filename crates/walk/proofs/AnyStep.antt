-- A step of any record, by cases: unfit, ended, spent, answered.
use mathlib.Core.Bool.{Bool, false, true}
use mathlib.Core.Logic.{inl, inr, ◌⊎◌}
use mathlib.Core.Path.{ap, refl, subst, sym, ◌∙◌, ◌≡◌}
use Prim.Native.Nat.{ℕ, ◌<◌, ◌≤◌}
use native.Mathlib.Nat.{zero-add}
use native.Mathlib.Omega.{arith}
use lib.ListN.{length}
use Rattle.listing.proofs.RingsNamed.{refused≢line}
use Rattle.listing.proofs.Strikes.{Coming, coming}
use Rattle.listing.specs.Listing.{Line, says}
use Rattle.listing.specs.Totals.{owed}
use Rattle.refusal.proofs.Numbers.{some_number}
use Rattle.refusal.specs.declared.Refusal.{Refusal}
use Rattle.std.specs.Prelude.{Err, Ok, Result}
use Rattle.walk.proofs.Fuel.{moves_enough}
use Rattle.walk.proofs.Invariant.{Fit, fit_at_lem, fit_sound}
use Rattle.walk.proofs.Needed.{needed_owed, spent_due}
use Rattle.walk.proofs.Simulation.{Ran, given, said_as, spent}
use Rattle.walk.proofs.StepAgrees.{ended_step, fit-placed, fit_step, good_step, stands_closed}
use Rattle.walk.specs.InnerCourse.{Good, GoodAt, size}
use Rattle.walk.specs.Fit.{fit}
use Rattle.walk.specs.Moves.{Rules, move_at, trial}
use Rattle.walk.specs.Step.{answer_numbers, enough, step_fit, step_numbers, step_of, trials_needed}
use Rattle.walk.specs.ToCome.{stands}
use Rattle.walk.specs.declared.Answer.{Answer}
use Rattle.walk.specs.declared.Answer.TheVariants.{None, Ring}
use Rattle.walk.specs.declared.Standing.TheVariants.{Ended}
use Rattle.walk.specs.declared.Stepped.{Stepped}
use Rattle.walk.specs.declared.Walk.{Walk}

-- fit, and something is to come
pub record Unended (R : Rules) (w : Walk) : Type 0 where
  pub fits : fit R w ≡ true
  pub going : w.at ≡ Ended → ⊥

-- what a step may come to, by its number
pub data StepCase (R : Rules) (w : Walk) (a : ℕ) (r : Stepped) : Type 0 where
  unfit_case : (step_numbers r).number ≡ 22 → fit R w ≡ false → r.walk ≡ w → (step_numbers r).trials ≡ 0 → StepCase R w a r
  ended_case : (step_numbers r).number ≡ 20 → fit R w ≡ true → w.at ≡ Ended → r.walk ≡ w → (step_numbers r).trials ≡ 0 → StepCase R w a r
  spent_case : (step_numbers r).number ≡ 21 → Unended R w → a < trials_needed R w → (step_numbers r).trials ≡ a → (u : Walk) → move_at R r.walk.at r.walk ≡ trial u → StepCase R w a r
  given_case : (step_numbers r).number ≡ 0 → Unended R w → trials_needed R w ≤ a → (step_numbers r).trials ≡ trials_needed R w → StepCase R w a r

same_trials : (t : Result Answer Refusal) (v : Walk) (p k : ℕ) → (answer_numbers t v p k).trials ≡ k
same_trials (Ok Ring) v p k = refl
same_trials (Ok None) v p k = refl
same_trials (Err r) v p k = refl

-- an answer that says a ring or none has no number
no_number : (t : Result Answer Refusal) (v : Walk) (p k : ℕ) {s : Line} → said_as t v ≡ says s → (answer_numbers t v p k).number ≡ 0
no_number (Ok Ring) v p k q = refl
no_number (Ok None) v p k q = refl
no_number (Err r) v p k q = let n = some_number r in absurd (refused≢line (rw n.1 at q))

module _ (R : Rules) (w : Walk) (a : ℕ) (long : length w.row ≡ R.most) where
  good_case : (f : Fit R w) (g : Good R w) → StepCase R w a (step_of R w a)
  good_case f g = go (good_step R w a f g b.is)
    where
      r : Stepped
      r = step_of R w a

      made : (step_numbers r).trials ≡ r.trials
      made = same_trials r.answer r.walk r.place r.trials

      b : Coming (stands R w)
      b = coming (stands_closed R w g)

      needs : trials_needed R w ≡ b.owed
      needs = needed_owed R w g ∙ ap owed b.is

      under : Unended R w
      under = record { fits = f.test; going = λ e. subst (λ s. GoodAt s w) e g.placed }

      go : Ran R (Good R) (Fit R) (stands R) size a 0 b.first b.owed b.rest (step_of R w a) → StepCase R w a (step_of R w a)
      go (spent l p q fits left) =
          let due = spent_due R (enough w.n) a 0 w (moves_enough g) g (sym (ap (λ r. r.answer) (fit_step R w a f)) ∙ p) in
          spent_case (ap (λ t. (answer_numbers t r.walk r.place r.trials).number) p) under (omega (arith, needs)) (made ∙ q ∙ zero-add a) due.0 (ap (λ r. move_at R r.walk.at r.walk) (fit_step R w a f) ∙ due.1)
      go (given l p q fits left) =
          given_case (no_number r.answer r.walk r.place r.trials p) under (omega (arith, needs)) (made ∙ q ∙ zero-add b.owed ∙ sym needs)

  pub step_case : StepCase R w a (step_of R w a)
  unfolding step_of
  step_case = go (fit R w) refl
    where
      placed : (f : Fit R w) → (w.at ≡ Ended) ⊎ GoodAt w.at w → StepCase R w a (step_of R w a)
      placed f (inl e) =
          let s = ended_step R w a f e in
          ended_case (ap (λ r. (step_numbers r).number) s) f.test e (ap (λ r. r.walk) s) (ap (λ r. (step_numbers r).trials) s)
      placed f (inr p) = good_case f (record { sound = fit_sound f; placed = p })

      go : (b : Bool) → fit R w ≡ b → StepCase R w a (step_of R w a)
      go false e =
          let s = ap (λ t. step_fit R t w a) e in
          unfit_case (ap (λ r. (step_numbers r).number) s) e (ap (λ r. r.walk) s) (ap (λ r. (step_numbers r).trials) s)
      go true e = let f : Fit R w = record { test = e; long = long } in placed f (fit-placed R w w.at (fit_at_lem f))
