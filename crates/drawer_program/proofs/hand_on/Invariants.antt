-- `drawer_program::hand_on` meets its contract: each piece takes from what is left to print, and leaves less.
use mathlib.Core.List.{List}
use mathlib.Core.Path.{◌≡◌}
use Prim.Native.Nat.{ℕ}
use lib.ListN.{length}
use Rattle.printing.specs.Left.{left}
use Rattle.printing.specs.Pieces.{HandedOut}
use Rattle.printing.specs.declared.Printing.{Printing}
use Rattle.drawer_program.proofs.hand_on.Given as goal

-- what was handed on so far, and the buffer's length
pub record Going (s t : Printing) (out : List ℕ) : Type 0 where
  pub room : length out ≡ 4096
  pub bytes : List ℕ
  pub pieces : HandedOut s bytes t

abbrev pub invariant-loop-out : goal.invariant-loop-out
invariant-loop-out l = Going l.initial.state l.state l.out

abbrev pub decreases-loop-out : goal.decreases-loop-out
decreases-loop-out l = length (left l.state)
