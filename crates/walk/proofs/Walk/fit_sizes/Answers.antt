-- `walk::Walk::fit_sizes` meets its contract.
use mathlib.Core.Bool.{◌&&◌}
use mathlib.Core.Path.{sym, ◌∙◌, ◌≡◌}
use lib.Dec.{leb}
use Rattle.refusal.specs.Verdicts.{are_stations}
use Rattle.walk.proofs.FitCases.{by_stations}
use Rattle.words.proofs.Booleans.{and_no, and_yes}
use Rattle.walk.proofs.Walk.fit_sizes.Goals as goal
use Rattle.walk.proofs.Walk.fit_sizes.Goals.{Joined-are_stations, else-are_stations, then-are_stations}

-- n and d
sized : (c : Joined-are_stations) → c.if-are_stations.sized ≡ (are_stations c.args.self.n && leb c.args.self.d c.args.self.n)
sized c =
    let e = c.are_stations.ensures in
    elim c.if-are_stations.branch [ then-are_stations q ↦ and_yes (sym e ∙ q.if-are_stations.true) q.sized-is | else-are_stations q ↦ and_no _ (sym e ∙ q.if-are_stations.false) (q.sized-is ∙ e) ]

-- and the kind
pub returns-then-sized : goal.returns-then-sized
returns-then-sized c =
    and_yes (sym (sized (goal.at.returns-then-sized c).Joined-are_stations) ∙ c.if-sized.true) c.is_kind.ensures ∙ by_stations c.args.self

pub returns-else-sized : goal.returns-else-sized
returns-else-sized c =
    let e = sized (goal.at.returns-else-sized c).Joined-are_stations in
    and_no _ (sym e ∙ c.if-sized.false) e ∙ by_stations c.args.self
