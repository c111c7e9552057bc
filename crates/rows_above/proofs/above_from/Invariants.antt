-- `rows_above::above_from` meets its contract.
use Prim.Native.Nat.{◌+◌}
use Rattle.rows_above.proofs.Reading.{Read}
use Rattle.rows_above.proofs.above_from.Given as goal

abbrev pub invariant-loop-ones : goal.invariant-loop-ones
invariant-loop-ones l = Read l.v l.e l.sum l.ones l.zeros l.s

abbrev pub decreases-loop-ones : goal.decreases-loop-ones
decreases-loop-ones l = l.ones + l.zeros
