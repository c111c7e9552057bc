use Rattle.std.proofs.Common.{◌-◌, ◌*◌}
use Rattle.walk_test.proofs.compare_limits.Given as goal

abbrev pub decreases-loop-limit : goal.decreases-loop-limit
decreases-loop-limit l = 2 * l.shelf.half - l.limit
