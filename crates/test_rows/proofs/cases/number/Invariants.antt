use Rattle.std.proofs.Common.{◌<◌}
use Rattle.test_rows.proofs.cases.number.Given as goal

abbrev pub invariant-loop-digit : goal.invariant-loop-digit
invariant-loop-digit l = l.value < 1000
