-- `density::drawers::check_drawer` meets its contract: each return has passed the tests before it.
use mathlib.Core.Bool.{true}
use mathlib.Core.Path.{sym, ◌∙◌, ◌≡◌}
use borrow.Author.Tests.{le-leb, lt-leb}
use Rattle.density.specs.Drawers.{drawer_verdict}
use Rattle.refusal.specs.Verdicts.{are_stations}
use Rattle.density.proofs.drawers.check_drawer.Goals as goal
use Rattle.density.proofs.drawers.check_drawer.Goals.{Else-not-are_stations}

-- refusal 1 is passed
sized : (c : Else-not-are_stations) → are_stations c.args.n ≡ true
sized c = sym c.are_stations.ensures ∙ c.if-not-are_stations.false

pub returns-then-not-are_stations : goal.returns-then-not-are_stations
unfolding drawer_verdict
returns-then-not-are_stations c = rw (sym c.are_stations.ensures ∙ c.if-not-are_stations.true)

pub returns-then-n-d : goal.returns-then-n-d
unfolding drawer_verdict
returns-then-n-d c = rw (sized c.before, lt-leb _ _ c.if-n-d.true)

pub returns-then-not-is_kind : goal.returns-then-not-is_kind
unfolding drawer_verdict
returns-then-not-is_kind c =
    rw (sized c.before.before.before, le-leb _ _ c.if-n-d.false, sym c.is_kind.ensures ∙ c.if-not-is_kind.true)

pub returns : goal.returns
unfolding drawer_verdict
returns c =
    rw (sized c.before.before.before, le-leb _ _ c.if-n-d.false, sym c.is_kind.ensures ∙ c.if-not-is_kind.false)
