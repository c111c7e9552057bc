-- `coated::inner::nearest_turn` meets its contract: the laws of Tried, at each place of the code.
use Prim.Native.Nat.{◌+◌}
use Rattle.coated.proofs.Tried.{Tried}
use Rattle.coated.proofs.inner.nearest_turn.Given as goal

-- no turn by less than k, nor the one up by k, takes the row to the other
abbrev pub invariant-loop-k : goal.invariant-loop-k
invariant-loop-k l = Tried l.row l.other (l.k + l.k)
