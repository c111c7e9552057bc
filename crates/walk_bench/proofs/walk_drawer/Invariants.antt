-- `walk_bench::walk_drawer`: the trials left only fall.
use Rattle.std.proofs.Common.{◌≤◌}
use Rattle.walk_bench.proofs.walk_drawer.Given as goal

abbrev pub invariant-loop-rings : goal.invariant-loop-rings
invariant-loop-rings l = l.left ≤ 1000000000000
