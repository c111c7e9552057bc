-- `rows_above::count_above` meets its contract.
use Prim.Native.Nat.{◌-◌}
use lib.ListN.{length, length-set}
use Rattle.rows_above.proofs.Filling.{first_row}
use Rattle.rows_above.proofs.count_above.Goals as goal

pub loop-g-init : goal.loop-g-init
loop-g-init c =
    (simp length-set c.clear.ensures.long, first_row c.args.v.now _ _ (length c.args.v.now - c.args.e) c.clear.ensures)
