-- `largest_test::agrees`: the product grows by at most 64 with each symbol.
use Rattle.std.proofs.Common.{◌≤◌, ◌*◌}
use Rattle.largest_test.proofs.agrees.Given as goal

abbrev pub invariant-loop-x : goal.invariant-loop-x
invariant-loop-x l = l.product ≤ 64 * l.x-index
