-- `drawer_input::parse::limit_at` meets its contract: a limit, and a line feed behind it.
use mathlib.Core.Path.{sym, ◌∙◌}
use Rattle.drawer_input.proofs.ValueLines.{ended, no_end, no_limit}
use Rattle.drawer_input.proofs.parse.limit_at.Goals as goal
use Rattle.drawer_input.proofs.parse.limit_at.Goals.{then-size-eq0-via-then-size-eq0, then-size-eq0-via-else-size-eq0+then-not-stands_at}

pub returns-then-size-eq0 : goal.returns-then-size-eq0
returns-then-size-eq0 c =
    let e = c.run_at-size.ensures.run in
    elim c.then-size-eq0.branch [ then-size-eq0-via-then-size-eq0 w ↦ no_limit _ _ _ _ _ _ e w.if-size-eq0.true | then-size-eq0-via-else-size-eq0+then-not-stands_at w ↦ no_end _ _ _ _ _ _ e w.if-size-eq0.false (sym w.stands_at.ensures ∙ w.if-not-stands_at.true) ]

pub returns : goal.returns
returns c =
    ended _ _ _ _ _ _ c.run_at-size.ensures.run c.if-size-eq0.false (sym c.stands_at.ensures ∙ c.if-not-stands_at.false)
