-- `bracelet::inner::is_bracelet` meets its contract: the laws of Against, at each place of the code.
use mathlib.Core.List.{List, reverse, ◌++◌}
use mathlib.Core.Path.{◌≡◌}
use Prim.Native.Nat.{ℕ, ◌+◌, ◌≤◌}
use lib.ListN.{length}
use Rattle.bracelet.proofs.Against.{Passed}
use Rattle.bracelet.proofs.inner.is_bracelet.Given as goal

-- the reverse stands in the array two times, and the row is at or below the first j rotations of it
pub record Inv (row back : List ℕ) (n j : ℕ) : Type 0 where
  pub whole : n ≡ length row
  pub rest : List ℕ
  pub twice : back ≡ reverse row ++ (reverse row ++ rest)
  pub room : n + n ≤ length back
  pub passed : Passed row j

abbrev pub invariant-loop-j : goal.invariant-loop-j
invariant-loop-j l = Inv l.row l.back l.n l.j
