-- `largest::join_few` meets its contract: before block k the row stands as far as p, with zeros behind.
use mathlib.Core.List.{List}
use Prim.Native.Nat.{ℕ, ◌≤◌}
use Rattle.largest.proofs.FewBlocks.{FewAt}
use Rattle.largest.proofs.FilledRow.{Filled}
use Rattle.largest.proofs.join_few.Given as goal

pub record Inv (n d : ℕ) (row : List ℕ) (p k : ℕ) : Type 0 where
  pub upto : k ≤ d
  pub place : FewAt n d p k
  pub room : p ≤ n
  pub filled : Filled n d 0 p row

abbrev pub invariant-loop-k : goal.invariant-loop-k
invariant-loop-k l = Inv l.n l.d l.row l.p l.k
