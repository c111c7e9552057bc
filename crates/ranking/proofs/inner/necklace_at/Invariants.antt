-- `ranking::inner::necklace_at` meets its contract.
use Rattle.ranking.proofs.SymbolSteps.{Fixed}
use Rattle.ranking.proofs.inner.necklace_at.Given as goal

abbrev pub invariant-loop-i : goal.invariant-loop-i
invariant-loop-i l = Fixed l.n l.d l.kind l.seat l.row l.i
