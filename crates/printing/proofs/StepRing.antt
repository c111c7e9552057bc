-- A ring that a step gives is a necklace, of as many symbols as a row may have.
use mathlib.Core.Bool.{Bool, false, true}
use mathlib.Core.Path.{refl, sym, ◌∙◌, ◌≡◌}
use lib.ListN.{length}
use Rattle.printing.specs.Left.{highest64}
use Rattle.printing.specs.InnerNextLine.{GivenRing}
use Rattle.refusal.specs.Verdicts.{most_stations}
use Rattle.refusal.specs.declared.Refusal.{Refusal}
use Rattle.refusal.specs.declared.Refusal.TheVariants.{Unfit}
use Rattle.walk.proofs.FitCases.{is_necklace_lem}
use Rattle.walk.proofs.GivenRing.{ring_member}
use Rattle.walk.proofs.Invariant.{Fit, fit_sound}
use Rattle.walk.proofs.StepAgrees.{step_agrees}
use Rattle.walk.specs.Fit.{fit}
use Rattle.walk.specs.Moves.{row_of, rules}
use Rattle.walk.specs.Step.{step_of}
use Rattle.walk.specs.declared.Answer.{Answer}
use Rattle.walk.specs.declared.Answer.TheVariants.{Ring}
use Rattle.std.specs.Prelude.{Err, Ok, Result}
use Rattle.walk.specs.declared.Stepped.{Stepped}
use Rattle.walk.specs.declared.Walk.{Walk}
use Rattle.words.proofs.Booleans.{clash}

refused≢ring : {r : Refusal} → let refused : Result Answer Refusal = Err r in refused ≡ Ok Ring → ⊥
refused≢ring e = clash (cc)

-- an unfit walk is refused
unfit_step : (w : Walk) → fit rules w ≡ false → (step_of rules w highest64).answer ≡ Err Unfit
unfolding step_of
unfit_step w e = rw e

pub ring_given : (w : Walk) (r : Stepped) → r ≡ step_of rules w highest64 → length w.row ≡ most_stations → r.answer ≡ Ok Ring → GivenRing r.walk
ring_given w r e l f = go (fit rules w) refl
  where
    go : (b : Bool) → fit rules w ≡ b → GivenRing r.walk
    go true t =
        let g : Fit rules w = record { test = t; long = l } in
        let v : Fit rules r.walk = rw e (step_agrees rules w highest64 g).fits in
        let s = fit_sound v in
        record { some = s.some; most = s.most; necklace = is_necklace_lem r.walk.d (row_of r.walk) (rw e (ring_member rules w highest64 (rw e at f) (rw e at v))) }
    go false t = absurd (refused≢ring (sym (unfit_step w t) ∙ (rw e at f)))
