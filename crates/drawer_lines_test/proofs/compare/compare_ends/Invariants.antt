-- `drawer_lines_test::compare::compare_ends` counts at most what was compared.
use Rattle.std.proofs.Common.{◌+◌, ◌≤◌}
use Rattle.drawer_lines_test.proofs.compare.compare_ends.Given as goal

abbrev pub invariant-loop-n : goal.invariant-loop-n
invariant-loop-n l = (l.compared + l.n ≤ 18446744073709551615) × (l.agreed ≤ l.compared)

abbrev pub decreases-loop-n : goal.decreases-loop-n
decreases-loop-n l = l.n
