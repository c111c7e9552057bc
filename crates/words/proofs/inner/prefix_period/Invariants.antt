-- `words::inner::prefix_period` meets its contract. The invariant: the pass over all of a is the pass from place i, with period i - j.
use mathlib.Core.Path.{◌≡◌}
use Prim.Native.Nat.{◌-◌, ◌<◌, ◌≤◌}
use lib.ListN.{drop, length, take}
use Rattle.words.specs.InnerScan.{scan, scan_from}
use Rattle.words.proofs.inner.prefix_period.Given as goal

abbrev pub invariant-loop-i : goal.invariant-loop-i
invariant-loop-i l = (l.j < l.i) × (l.i ≤ length l.a) × (scan l.a ≡ scan_from (take l.i l.a) (l.i - l.j) (drop l.i l.a))
