-- `rows_above::add` meets its contract.
use Prim.Native.Nat.{◌+◌}
use lib.ListN.{get_or}
use Rattle.rows_above.proofs.Storing.{Storing}
use Rattle.rows_above.proofs.add.Given as goal

abbrev pub invariant-loop-j : goal.invariant-loop-j
invariant-loop-j l =
    Storing l.initial.t l.t l.to (λ i. get_or l.initial.t (l.to + i) 0 + get_or l.initial.t (l.from + i) 0) l.j
