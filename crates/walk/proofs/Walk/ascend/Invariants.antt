-- `walk::Walk::ascend` meets its contract: each turn of the loop is a trial on the way of the step.
use mathlib.Core.List.{List}
use Prim.Native.Nat.{ℕ, ◌-◌}
use lib.ListN.{take}
use Rattle.prefix.specs.InnerCarried.{Knows}
use Rattle.prefix.specs.declared.carried.Known.{Known}
use Rattle.walk.proofs.Resuming.{Comes}
use Rattle.walk.specs.Moves.{moved}
use Rattle.walk.specs.declared.Standing.TheVariants.{Up}
use Rattle.walk.specs.declared.Walk.{Walk}
use Rattle.walk.proofs.Walk.ascend.Given as goal

pub record Inv (w : Walk) (allowed : ℕ) (row : List ℕ) (p left : ℕ) (known : Known) : Type 0 where
  pub comes : Comes w allowed (moved w row (Up p)) left
  pub knows : Knows (take (p - 1) row) known

abbrev pub invariant-loop-p : goal.invariant-loop-p
invariant-loop-p l = Inv l.self l.allowed l.row l.p l.left l.known
