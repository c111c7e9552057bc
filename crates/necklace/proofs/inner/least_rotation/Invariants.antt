-- `necklace::inner::least_rotation` meets its contract: the laws of Steps, at each place of the code.
use mathlib.Core.Path.{◌≡◌}
use Prim.Native.Nat.{◌-◌}
use lib.ListN.{length}
use Rattle.necklace.proofs.Steps.{NextPart, Rotations}
use Rattle.necklace.proofs.inner.least_rotation.Given as goal

abbrev pub invariant-loop-i : goal.invariant-loop-i
invariant-loop-i l = (l.n ≡ length l.row) × (l.b ≡ l.initial.b) × (l.j ≡ l.initial.j) × NextPart l.row l.b l.j l.i l.from l.beside l.part

abbrev pub invariant-rotations : goal.invariant-rotations
invariant-rotations l = (l.n ≡ length l.row) × Rotations l.row l.b l.j

abbrev pub decreases-loop-i : goal.decreases-loop-i
decreases-loop-i l = l.n - l.i

abbrev pub decreases-rotations : goal.decreases-rotations
decreases-rotations l = l.n - l.j
