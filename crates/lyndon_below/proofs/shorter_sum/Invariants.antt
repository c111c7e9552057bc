-- `lyndon_below::shorter_sum` meets its contract.
use mathlib.Core.Path.{◌≡◌}
use Prim.Native.Nat.{◌-◌}
use Rattle.counting.specs.InnerSums.{total, upto}
use Rattle.lyndon_below.specs.InnerTables.{taken}
use Rattle.lyndon_below.proofs.shorter_sum.Given as goal

abbrev pub invariant-loop-j : goal.invariant-loop-j
invariant-loop-j l = l.sum ≡ total (taken l.t l.m l.e) (upto (l.j - 1))
