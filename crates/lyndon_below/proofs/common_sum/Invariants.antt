-- `lyndon_below::common_sum` meets its contract.
use mathlib.Core.Path.{◌≡◌}
use Rattle.counting.specs.InnerSums.{total, upto}
use Rattle.lyndon_below.specs.InnerTables.{named}
use Rattle.lyndon_below.proofs.common_sum.Given as goal

abbrev pub invariant-loop-j : goal.invariant-loop-j
invariant-loop-j l = l.sum ≡ total (named l.t l.n l.d) (upto l.j)
