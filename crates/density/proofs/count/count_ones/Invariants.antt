-- `density::count::count_ones` meets its contract: the ones so far are the density of what was passed.
use mathlib.Core.List.{List}
use mathlib.Core.Path.{◌≡◌}
use Prim.Native.Nat.{ℕ, ◌≤◌}
use lib.ListN.{take}
use Rattle.density.specs.Density.{density}
use Rattle.density.proofs.count.count_ones.Given as goal

pub record Inv (w : List ℕ) (ones i : ℕ) : Type 0 where
  pub few : ones ≤ i
  pub passed : ones ≡ density (take i w)

abbrev pub invariant-loop-i : goal.invariant-loop-i
invariant-loop-i l = Inv l.row l.ones l.i
