use Rattle.std.proofs.Common.{◌≤◌}
use Rattle.pitches_test.proofs.all_lists.compare_lists.Given as goal

abbrev pub invariant-loop-index : goal.invariant-loop-index
invariant-loop-index l = l.agreed ≤ l.index
