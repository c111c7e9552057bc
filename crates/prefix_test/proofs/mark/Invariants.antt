use Rattle.std.proofs.Common.{◌<◌}
use Rattle.prefix_test.proofs.mark.Given as goal

abbrev pub invariant-loop-rest : goal.invariant-loop-rest
invariant-loop-rest l = l.rest < 2048

abbrev pub decreases-loop-rest : goal.decreases-loop-rest
decreases-loop-rest l = l.rest
