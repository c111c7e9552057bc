use Rattle.std.proofs.Common.{◌≤◌}
use Rattle.pascal_test.proofs.grid.compare.Given as goal

abbrev pub invariant-loop-i : goal.invariant-loop-i
invariant-loop-i l = l.agreed ≤ l.i
