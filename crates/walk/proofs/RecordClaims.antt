-- The claims on a step of any record hold.
use mathlib.Core.Bool.{false, true, true≢false}
use mathlib.Core.List.{[]}
use mathlib.Core.Logic.{inl, inr, ◌↔◌, ◌⊎◌}
use mathlib.Core.Path.{ap, refl, sym, ◌∙◌, ◌≡◌}
use Prim.Native.Nat.{◌<◌, ◌≤◌}
use native.Mathlib.Omega.{arith}
use Rattle.listing.specs.Totals.{owed}
use Rattle.walk.proofs.AnyStep.{StepCase, ended_case, given_case, spent_case, step_case, unfit_case}
use Rattle.walk.proofs.Invariant.{Fit, fit_at_lem, fit_sound}
use Rattle.walk.proofs.KeptRow.{Returns, none_of, refusal_of, ring_of, step_returns}
use Rattle.walk.proofs.Needed.{needed_ended, needed_owed}
use Rattle.walk.proofs.StepAgrees.{ended_stands, fit-placed, step_agrees}
use Rattle.walk.proofs.StepLists.{step_sizes}
use Rattle.walk.specs.Claims.{AnsweredExactly, EndedExactly, NeededOwed, RefusedSteps, RefusedTells, SpentExactly, StandsAfter, StandsBy, StepAsBook, TrialDue, UnfitExactly}
use Rattle.walk.specs.InnerCourse.{GoodAt}
use Rattle.walk.specs.Fit.{fit}
use Rattle.walk.specs.Moves.{move_at, rules, trial}
use Rattle.walk.specs.Step.{step_numbers, trials_needed}
use Rattle.walk.specs.ToCome.{stands}
use Rattle.walk.specs.declared.Standing.TheVariants.{Ended}
use Rattle.walk.specs.declared.Stepped.{Stepped}
use Rattle.walk.specs.declared.Walk.{Walk}
use Rattle.words.proofs.Zeros.{zero_at}

pub refused_steps : RefusedSteps
refused_steps w a long = go (step_case rules w a long)
  where
    go : {r : Stepped} → StepCase rules w a r → let s = step_numbers r in 0 < s.number
        → (((s.number ≡ 22) ⊎ (s.number ≡ 20)) × (r.walk ≡ w) × (s.trials ≡ 0)) ⊎ ((s.number ≡ 21) × (s.trials ≡ a))
    go (unfit_case k f same t) h = inl (inl k, same, t)
    go (ended_case k f e same t) h = inl (inr k, same, t)
    go (spent_case k u l t v d) h = inr (k, t)
    go (given_case k u l t) h = absurd (omega arith)

pub refused_tells : RefusedTells
refused_tells w a = go (step_returns rules w a)
  where
    go : {r : Stepped} → Returns w r → let s = step_numbers r in (s.place ≡ 0) × (0 < s.number → (s.row ≡ []) × (s.leaves ≡ 0))
    go (ring_of row t) = (refl, λ h. absurd (omega arith))
    go (none_of k t) = (refl, λ h. absurd (omega arith))
    go (refusal_of x p row at t) = (p, λ h. (refl, refl))

pub stands_after : StandsAfter
stands_after w a =
    let s = step_sizes rules w (step_returns rules w a) in
    (go (step_returns rules w a), s.0, s.1, s.2)
  where
    go : {r : Stepped} → Returns w r → StandsBy r.answer r.walk
    go (ring_of row t) = refl
    go (none_of k t) = (refl, zero_at k)
    go (refusal_of x p row at t) = tt

pub unfit_exactly : UnfitExactly
unfit_exactly w a long = go (step_case rules w a long)
  where
    go : {r : Stepped} → StepCase rules w a r → ((step_numbers r).number ≡ 22) ↔ (fit rules w ≡ false)
    go (unfit_case k f same t) = (λ n. f, λ h. k)
    go (ended_case k f e same t) = (λ n. absurd (omega arith), λ h. absurd (true≢false (sym f ∙ h)))
    go (spent_case k u l t v d) = (λ n. absurd (omega arith), λ h. absurd (true≢false (sym u.fits ∙ h)))
    go (given_case k u l t) = (λ n. absurd (omega arith), λ h. absurd (true≢false (sym u.fits ∙ h)))

pub ended_exactly : EndedExactly
ended_exactly w a long = go (step_case rules w a long)
  where
    go : {r : Stepped} → StepCase rules w a r → ((step_numbers r).number ≡ 20) ↔ ((fit rules w ≡ true) × (w.at ≡ Ended))
    go (unfit_case k f same t) = (λ n. absurd (omega arith), λ h. absurd (true≢false (sym h.0 ∙ f)))
    go (ended_case k f e same t) = (λ n. (f, e), λ h. k)
    go (spent_case k u l t v d) = (λ n. absurd (omega arith), λ h. absurd (u.going h.1))
    go (given_case k u l t) = (λ n. absurd (omega arith), λ h. absurd (u.going h.1))

pub spent_exactly : SpentExactly
spent_exactly w a long = go (step_case rules w a long)
  where
    go : {r : Stepped} → StepCase rules w a r → ((step_numbers r).number ≡ 21) ↔ ((fit rules w ≡ true) × (w.at ≡ Ended → ⊥) × (a < trials_needed rules w))
    go (unfit_case k f same t) = (λ n. absurd (omega arith), λ h. absurd (true≢false (sym h.0 ∙ f)))
    go (ended_case k f e same t) = (λ n. absurd (omega arith), λ h. absurd (h.1 e))
    go (spent_case k u l t v d) = (λ n. (u.fits, u.going, l), λ h. k)
    go (given_case k u l t) = (λ n. absurd (omega arith), λ h. absurd (omega (arith, h.2)))

pub trial_due : TrialDue
trial_due w a long = go (step_case rules w a long)
  where
    go : {r : Stepped} → StepCase rules w a r → (step_numbers r).number ≡ 21 → (u : Walk) × (move_at rules r.walk.at r.walk ≡ trial u)
    go (unfit_case k f same t) n = absurd (omega arith)
    go (ended_case k f e same t) n = absurd (omega arith)
    go (spent_case k u l t v d) n = (v, d)
    go (given_case k u l t) n = absurd (omega arith)

pub answered_exactly : AnsweredExactly
answered_exactly w a long = go (step_case rules w a long)
  where
    go : {r : Stepped} → StepCase rules w a r → let s = step_numbers r in
        ((s.number ≡ 0) ↔ ((fit rules w ≡ true) × (w.at ≡ Ended → ⊥) × (trials_needed rules w ≤ a))) × (s.number ≡ 0 → s.trials ≡ trials_needed rules w)
    go (unfit_case k f same t) = ((λ n. absurd (omega arith), λ h. absurd (true≢false (sym h.0 ∙ f))), λ n. absurd (omega arith))
    go (ended_case k f e same t) = ((λ n. absurd (omega arith), λ h. absurd (h.1 e)), λ n. absurd (omega arith))
    go (spent_case k u l t v d) = ((λ n. absurd (omega arith), λ h. absurd (omega (arith, h.2))), λ n. absurd (omega arith))
    go (given_case k u l t) = ((λ n. (u.fits, u.going, l), λ h. k), λ n. t)

pub step_as_book : StepAsBook
step_as_book w a long e = let s = step_agrees rules w a (record { test = e; long = long }) in (s.tells, s.left, s.fits.test)

pub needed_is_owed : NeededOwed
needed_is_owed w long e = go (fit-placed rules w w.at (fit_at_lem f))
  where
    f : Fit rules w
    f = record { test = e; long = long }

    go : (w.at ≡ Ended) ⊎ GoodAt w.at w → trials_needed rules w ≡ owed (stands rules w)
    go (inl z) = needed_ended rules w z ∙ sym (ap owed (ended_stands rules w z))
    go (inr p) = needed_owed rules w (record { sound = fit_sound f; placed = p })
