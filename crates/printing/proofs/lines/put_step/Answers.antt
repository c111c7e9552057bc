-- `printing::lines::put_step` meets its contract: a ring that a step gives is a necklace of its drawer.
use mathlib.Core.Path.{ap, sym, ◌∙◌, ◌≡◌}
use Prim.Native.Nat.{ℕ}
use lib.ListN.{length}
use Rattle.printing.proofs.StepRing.{ring_given}
use Rattle.printing.specs.Left.{highest64}
use Rattle.printing.specs.InnerNextLine.{answer_next, step_next, walk_next}
use Rattle.refusal.specs.Verdicts.{most_stations}
use Rattle.refusal.specs.declared.Refusal.{Refusal}
use Rattle.std.specs.Prelude.{Ok, Result}
use Rattle.walk.specs.Moves.{rules}
use Rattle.walk.specs.Step.{step_of}
use Rattle.walk.specs.declared.Answer.{Answer}
use Rattle.walk.specs.declared.Stepped.{Stepped}
use Rattle.walk.specs.declared.Walk.{Walk}
use Rattle.printing.proofs.lines.put_step.Goals as goal

-- the next line, by the answer of a step
next_so : (w : Walk) (k : ℕ) (r : Stepped) (a : Result Answer Refusal) → r ≡ step_of rules w highest64 → r.answer ≡ a → walk_next w k ≡ answer_next a k r.walk r.trials
next_so w k r a e f = ap (λ t. step_next t k) (sym e) ∙ ap (λ t. answer_next t k r.walk r.trials) f

pub put_ring-requires : goal.put_ring-requires
put_ring-requires c =
    let w = c.args.state.walk in
    let l : length w.row ≡ most_stations = search rules in
    (ring_given w _ c.step-stepped.ensures.answer l (let m = c.in-Ok-Ring in m.is ∙ ap Ok (rw m.is at m.field-0-is)), c.requires)
