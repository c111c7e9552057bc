-- `lyndon_below::rows::power_at_most` meets its contract.
use mathlib.Core.Path.{◌∙◌}
use Rattle.lyndon_below.proofs.PowerTest.{shifted_at_most}
use Rattle.lyndon_below.proofs.rows.power_at_most.Goals as goal

pub returns : goal.returns
returns c =
    c.is_le.ensures ∙ shifted_at_most c.args.w.now c.args.m c.requires.0 c.requires.1 c.compare.ensures.order
