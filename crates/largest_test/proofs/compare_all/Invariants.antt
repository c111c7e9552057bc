-- `largest_test::compare_all`: each length adds at most 65 to both counts.
use Rattle.std.proofs.Common.{◌≤◌, ◌+◌, ◌*◌}
use Rattle.largest_test.proofs.compare_all.Given as goal

abbrev pub invariant-loop-d : goal.invariant-loop-d
invariant-loop-d l = (l.compared ≤ 66 * l.n + l.d) × (l.agreed ≤ l.compared)

abbrev pub invariant-loop-n : goal.invariant-loop-n
invariant-loop-n l = (l.compared ≤ 66 * l.n) × (l.agreed ≤ l.compared)
