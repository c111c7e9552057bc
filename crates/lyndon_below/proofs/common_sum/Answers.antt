-- `lyndon_below::common_sum` meets its contract.
use Prim.Native.Nat.{◌+◌}
use native.Mathlib.Omega.{arith}
use Rattle.counting.specs.InnerSums.{total, upto}
use Rattle.counting.proofs.Sums.{upto_le, upto_next}
use Rattle.lyndon_below.specs.InnerTables.{named}
use borrow.Author.Rules.{rules}
use Rattle.lyndon_below.proofs.common_sum.Goals as goal

pub loop-j-init : goal.loop-j-init
unfolding total upto
loop-j-init c = search rules

pub overflow_add-sum : goal.overflow_add-sum
overflow_add-sum c =
    let f = named c.args.t.now c.args.n c.args.d in
    let next = upto_next f c.loop-j.j in
    let within = upto_le f (c.loop-j.j + 1) c.args.n (omega arith) in
    record { fits = omega (arith, c.loop-j.invariant, c.entry-sum.ensures, c.requires.1, next, within) }

pub loop-j-preserved : goal.loop-j-preserved
loop-j-preserved c =
    omega (arith, c.loop-j.invariant, c.entry-sum.ensures, upto_next (named c.args.t.now c.args.n c.args.d) c.loop-j.j)
