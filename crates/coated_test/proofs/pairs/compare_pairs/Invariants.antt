use Rattle.std.proofs.Common.{◌≤◌}
use Rattle.coated_test.proofs.pairs.compare_pairs.Given as goal

abbrev pub invariant-loop-pair : goal.invariant-loop-pair
invariant-loop-pair l = (l.agreed ≤ l.pair) × (l.below ≤ l.pair)
