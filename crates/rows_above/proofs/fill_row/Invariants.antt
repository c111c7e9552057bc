-- `rows_above::fill_row` meets its contract.
use Prim.Native.Nat.{◌+◌, ◌-◌}
use Rattle.rows_above.proofs.RowSteps.{Row}
use Rattle.rows_above.proofs.fill_row.Given as goal

abbrev pub invariant-loop-ones : goal.invariant-loop-ones
invariant-loop-ones l = Row l.v l.g l.zeros l.t l.ones l.passed

abbrev pub decreases-loop-ones : goal.decreases-loop-ones
decreases-loop-ones l = l.g + l.zeros + 1 - (l.ones + l.passed)
