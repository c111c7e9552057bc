-- `rows_above::count_above` meets its contract.
use mathlib.Core.Path.{◌≡◌}
use Prim.Native.Nat.{◌-◌}
use lib.ListN.{length}
use Rattle.rows_above.specs.InnerTables.{Filled, table_size}
use Rattle.rows_above.proofs.count_above.Given as goal

abbrev pub invariant-loop-g : goal.invariant-loop-g
invariant-loop-g l = (length l.t ≡ table_size) × Filled l.v l.t l.g (length l.v - l.e)
