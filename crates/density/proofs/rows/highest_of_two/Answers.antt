-- `density::rows::highest_of_two` meets its contract.
use native.Mathlib.Omega.{arith}
use Rattle.words.proofs.HighestSymbol.{two_end, two_next}
use Rattle.density.proofs.rows.highest_of_two.Goals as goal

pub loop-i-preserved : goal.loop-i-preserved
loop-i-preserved c =
    let l = c.loop-i in
    rw (c.max-most.ensures, c.max.ensures) (two_next c.args.s.now c.args.t.now l.i l.most (omega arith) (omega arith) l.invariant)

pub returns : goal.returns
returns c =
    let l = c.loop-i in
    two_end c.args.s.now c.args.t.now l.i l.most (omega arith) (omega arith) l.invariant
