use Rattle.std.proofs.Common.{◌<◌}
use Rattle.test_walks.proofs.remainder.Given as goal

abbrev pub invariant-loop-digit : goal.invariant-loop-digit
invariant-loop-digit l = l.rest < 10007
