-- `ranking::counted` meets its contract.
use Rattle.ranking.proofs.Verdicts.{kept_kind, no_kind}
use Rattle.ranking.proofs.counted.Goals as goal

pub returns-then-kind-le2 : goal.returns-then-kind-le2
returns-then-kind-le2 c = kept_kind _ c.if-kind-le2.true

pub returns-else-kind-le2 : goal.returns-else-kind-le2
returns-else-kind-le2 c = no_kind _ c.if-kind-le2.false
