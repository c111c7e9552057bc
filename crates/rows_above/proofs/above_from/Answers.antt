-- `rows_above::above_from` meets its contract.
use native.Mathlib.Omega.{arith}
use Rattle.rows_above.proofs.Reading.{block_fits, read_end, read_last, read_one, read_start, read_zero}
use Rattle.rows_above.proofs.above_from.Goals as goal
use Rattle.rows_above.proofs.above_from.Goals.{else-v-s-eq0, then-v-s-eq0+else-zeros-eq0}

pub loop-ones-init : goal.loop-ones-init
loop-ones-init c = read_start c.args.v.now c.requires.1 c.args.e c.requires.0

pub overflow_mul-sum-then-v-s-eq0 : goal.overflow_mul-sum-then-v-s-eq0
overflow_mul-sum-then-v-s-eq0 c =
    record { fits = omega (arith, block_fits c.args.v.now c.requires.1 c.args.e c.args.t.now c.requires.2 c.loop-ones.sum c.loop-ones.ones c.loop-ones.zeros c.loop-ones.s c.loop-ones.invariant (omega arith) c.if-v-s-eq0.true) }

pub overflow_add-sum-then-v-s-eq0-2 : goal.overflow_add-sum-then-v-s-eq0-2
overflow_add-sum-then-v-s-eq0-2 c =
    record { fits = omega (arith, block_fits c.args.v.now c.requires.1 c.args.e c.args.t.now c.requires.2 c.loop-ones.sum c.loop-ones.ones c.loop-ones.zeros c.loop-ones.s c.loop-ones.invariant (omega arith) c.if-v-s-eq0.true) }

pub returns-then-zeros-eq0 : goal.returns-then-zeros-eq0
returns-then-zeros-eq0 c =
    read_last c.args.v.now c.requires.1 c.args.e c.args.t.now c.requires.2 c.loop-ones.sum c.loop-ones.ones c.loop-ones.zeros c.loop-ones.s c.loop-ones.invariant (omega arith) c.if-v-s-eq0.true c.if-zeros-eq0.true

pub loop-ones-preserved : goal.loop-ones-preserved
loop-ones-preserved c =
    elim c.if-v-s-eq0.branch [ then-v-s-eq0+else-zeros-eq0 w ↦ rw (w.sum-is, w.ones-is, w.zeros-is) (read_zero c.args.v.now c.requires.1 c.args.e c.args.t.now c.requires.2 c.loop-ones.sum c.loop-ones.ones c.loop-ones.zeros c.loop-ones.s c.loop-ones.invariant (omega arith) w.if-v-s-eq0.true w.if-zeros-eq0.false) | else-v-s-eq0 w ↦ rw (w.sum-is, w.ones-is, w.zeros-is) (read_one c.args.v.now c.requires.1 c.args.e c.args.t.now c.requires.2 c.loop-ones.sum c.loop-ones.ones c.loop-ones.zeros c.loop-ones.s c.loop-ones.invariant (omega arith) (omega arith)) ]

pub returns : goal.returns
returns c =
    read_end c.args.v.now c.requires.1 c.args.e c.loop-ones.sum c.loop-ones.ones c.loop-ones.zeros c.loop-ones.s c.loop-ones.invariant c.loop-ones-test.false
