-- `pascal::ways` meets its contract: it looks the library's own table up.
use mathlib.Core.Path.{ap, ◌∙◌}
use Rattle.pascal.proofs.LookUp.{looked_up}
use Rattle.pascal.specs.Answers.{ways_verdict}
use Rattle.pascal.specs.Pascal.{entry_of}
use Rattle.refusal.specs.Outcomes.{decide}
use Rattle.pascal.proofs.ways.Goals as goal

pub returns : goal.returns
returns c =
    let a = c.args in
    c.ways_in.ensures ∙ ap (λ t. decide (ways_verdict a.top a.bottom) (entry_of t a.top a.bottom)) c.triangle-table.ensures ∙ looked_up a.top a.bottom
