-- `test_walks::book::Shelf::new`: half of the rows of up to 14 stations are 1 to 8192.
use Rattle.std.proofs.Common.{◌<◌, ◌≤◌, ◌-◌, ◌^◌, arith}
use Rattle.std.proofs.Math.Pow.{pow_mono}
use Rattle.std.proofs.lemmas.Nat.{pow_pos}
use Rattle.test_walks.proofs.book.Shelf.new.Goals as goal
use Rattle.test_walks.proofs.book.Shelf.new.Goals.{then-drawer-eq0, else-drawer-eq0}

pub invariant_of-result-clause-half_of_all : goal.invariant_of-result-clause-half_of_all
invariant_of-result-clause-half_of_all c =
    elim c.if-drawer-eq0.branch [
      | then-drawer-eq0 w ↦ omega arith
      | else-drawer-eq0 w ↦
          let low : 0 < 2 ^ (c.args.drawer.n - 1) = pow_pos (c.args.drawer.n - 1) in
          let high : 2 ^ (c.args.drawer.n - 1) ≤ 2 ^ 13 = pow_mono {i = c.args.drawer.n - 1} {j = 13} (omega arith) in omega arith
    ]
