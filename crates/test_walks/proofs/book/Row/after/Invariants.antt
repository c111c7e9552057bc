-- `test_walks::book::Row::after`: each line below is lower, and is owed at most 28.
use Rattle.std.proofs.Common.{◌≤◌, ◌+◌, ◌*◌}
use Rattle.test_walks.proofs.book.Row.after.Given as goal

abbrev pub invariant-loop-below : goal.invariant-loop-below
invariant-loop-below l = (l.last.number ≤ l.self.number) × (l.owed + 28 * l.last.number ≤ 28 * l.self.number)

abbrev pub decreases-loop-below : goal.decreases-loop-below
decreases-loop-below l = l.last.number
