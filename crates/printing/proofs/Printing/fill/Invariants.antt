-- `printing::Printing::fill` meets its contract: what is used and what is left are what was left. Each line is some bytes, so the room falls.
use Prim.Native.Nat.{◌-◌}
use lib.ListN.{length}
use Rattle.printing.proofs.Growing.{Grown}
use Rattle.printing.proofs.Printing.fill.Given as goal

abbrev pub invariant-loop-out : goal.invariant-loop-out
invariant-loop-out l = Grown l.initial.state l.initial.out l.out l.state l.used

abbrev pub decreases-loop-out : goal.decreases-loop-out
decreases-loop-out l = length l.initial.out - l.used
