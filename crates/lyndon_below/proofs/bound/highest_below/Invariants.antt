-- `lyndon_below::bound::highest_below` meets its contract.
use Rattle.lyndon_below.proofs.BoundSteps.{Search}
use Rattle.lyndon_below.proofs.bound.highest_below.Given as goal

abbrev pub invariant-loop-p : goal.invariant-loop-p
invariant-loop-p l = Search l.v l.row l.p
