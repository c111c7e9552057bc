-- A step that is allowed no trial tells whether the record is fit.
use mathlib.Core.Bool.{Bool, false, true}
use mathlib.Core.Path.{ap, refl, sym, ◌∙◌, ◌≡◌}
use native.Mathlib.Omega.{arith}
use Rattle.refusal.proofs.Claims.{numbers_tell}
use Rattle.refusal.specs.Refusals.{place_of}
use Rattle.refusal.specs.declared.Refusal.{Refusal}
use Rattle.refusal.specs.declared.Refusal.TheVariants.{Unfit}
use Rattle.std.specs.Prelude.{Err, Ok, Result}
use Rattle.walk.proofs.RecordClaims.{refused_tells, unfit_exactly}
use Rattle.walk.specs.Claims.{Record}
use Rattle.walk.specs.Fit.{fit}
use Rattle.walk.specs.Moves.{rules}
use Rattle.walk.specs.Step.{answer_numbers, step_due, step_numbers}
use Rattle.walk.specs.declared.Answer.{Answer}
use Rattle.walk.specs.declared.Answer.TheVariants.{None, Ring}
use Rattle.walk.specs.declared.Stepped.{Stepped}
use Rattle.walk.specs.declared.Walk.{Walk}

module _ (w : Walk) (long : Record w) (r : Stepped) (e : step_numbers r ≡ step_due rules w 0) where
  number_is : (a : Result Answer Refusal) → r.answer ≡ a → (step_due rules w 0).number ≡ (answer_numbers a r.walk r.place r.trials).number
  number_is a f = sym (ap (λ s. s.number) e) ∙ ap (λ a. (answer_numbers a r.walk r.place r.trials).number) f

  -- no 22
  fits : ((step_due rules w 0).number ≡ 22 → ⊥) → true ≡ fit rules w
  fits f = go (fit rules w) refl
    where
      go : (b : Bool) → fit rules w ≡ b → true ≡ fit rules w
      go true h = sym h
      go false h = absurd (f ((unfit_exactly w 0 long).1 h))

  pub ok_told : (a : Answer) → r.answer ≡ Ok a → true ≡ fit rules w
  ok_told a f = fits (λ n. no_number a (sym (number_is (Ok a) f) ∙ n))
    where
      no_number : (a : Answer) → (answer_numbers (Ok a) r.walk r.place r.trials).number ≡ 22 → ⊥
      no_number Ring n = omega arith
      no_number None n = omega arith

  pub unfit_told : r.answer ≡ Err Unfit → false ≡ fit rules w
  unfit_told f = sym ((unfit_exactly w 0 long).0 (number_is (Err Unfit) f))

  pub refused_told : (q : Refusal) → (q ≡ Unfit → ⊥) → r.answer ≡ Err q → true ≡ fit rules w
  refused_told q d f = fits (λ n. d (numbers_tell q Unfit (sym (number_is (Err q) f) ∙ n) place))
    where
      place : place_of q ≡ 0
      place = sym (ap (λ a. (answer_numbers a r.walk r.place r.trials).place) f) ∙ ap (λ s. s.place) e ∙ (refused_tells w 0).0
