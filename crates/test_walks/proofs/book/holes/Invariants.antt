use Rattle.std.proofs.Common.{◌≤◌}
use Rattle.test_walks.proofs.book.holes.Given as goal

abbrev pub invariant-loop-i : goal.invariant-loop-i
invariant-loop-i l = l.count ≤ l.i
