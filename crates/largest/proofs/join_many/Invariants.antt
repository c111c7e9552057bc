-- `largest::join_many` meets its contract: before block k the row stands as far as p, with ones behind.
use mathlib.Core.List.{List}
use Prim.Native.Nat.{ℕ, ◌≤◌}
use Rattle.largest.proofs.FilledRow.{Filled}
use Rattle.largest.proofs.ManyBlocks.{ManyAt}
use Rattle.largest.proofs.join_many.Given as goal

pub record Inv (n d z : ℕ) (row : List ℕ) (p k : ℕ) : Type 0 where
  pub upto : k ≤ z
  pub place : ManyAt n z p k
  pub room : p ≤ n
  pub filled : Filled n d 1 p row

abbrev pub invariant-loop-k : goal.invariant-loop-k
invariant-loop-k l = Inv l.n l.d l.z l.row l.p l.k
