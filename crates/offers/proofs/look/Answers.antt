-- `offers::look` meets its contract: by the answer of the step.
use mathlib.Core.Path.{ap, sym, ◌∙◌}
use Rattle.offers.proofs.Looking.{looked_as}
use Rattle.offers.specs.Offers.{offer_of}
use Rattle.offers.proofs.look.Goals as goal

pub returns-in-Ok-clause-answer : goal.returns-in-Ok-clause-answer
returns-in-Ok-clause-answer c =
    let a = c.args in
    looked_as a.walk a.allowance c.step-stepped.ensures.answer (ap (λ x. offer_of x a.allowance c.step-stepped.result.walk) (sym c.in-Ok.is))

pub returns-in-Err-clause-answer : goal.returns-in-Err-clause-answer
returns-in-Err-clause-answer c =
    let a = c.args in
    looked_as a.walk a.allowance c.step-stepped.ensures.answer (c.refused-offer.ensures ∙ ap (λ x. offer_of x a.allowance c.step-stepped.result.walk) (sym c.in-Err.is))
