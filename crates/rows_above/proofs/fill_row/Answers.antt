-- `rows_above::fill_row` meets its contract.
use mathlib.Core.Logic.{inl, inr}
use Prim.Native.Nat.{ℕ, ◌*◌, ◌+◌, ◌-◌, ◌<◌, ◌≤◌}
use native.Mathlib.Nat.{mul-le-mul_right}
use native.Mathlib.Omega.{arith}
use Rattle.rows_above.proofs.RowSteps.{row_full, row_one, row_start, row_zero, sums-fit}
use Rattle.rows_above.proofs.fill_row.Goals as goal

-- the entries that are added lie before the row
before_row : (g ones passed zeros : ℕ) → ones < g → zeros ≤ 64 → (g - 1 - ones) * 65 + (zeros + 1 - passed) ≤ g * 65 + passed
before_row g ones passed zeros h s = let p : g - 1 - ones + 1 ≤ g = omega arith in omega (arith, mul-le-mul_right 65 p)

pub loop-ones-init : goal.loop-ones-init
loop-ones-init c =
    row_start c.args.v.now c.args.g c.args.zeros c.requires.2 c.requires.0 c.requires.1 c.args.t.now _ c.requires.4 c.clear.ensures

pub add-requires : goal.add-requires
add-requires c = (
  c.loop-ones.invariant.long,
  omega (arith, c.requires.1, c.requires.2.few),
  before_row c.args.g c.loop-ones.ones c.loop-ones.passed c.args.zeros (omega arith) (omega (arith, c.requires.1, c.requires.2.few)),
  sums-fit c.args.v.now c.args.g c.args.zeros c.requires.2 c.requires.0 c.requires.1 c.loop-ones.t c.loop-ones.ones c.loop-ones.passed c.loop-ones.invariant c.loop-ones-test.true c.if-passed-zeros.true
      (c.args.g - 1 - c.loop-ones.ones) (omega arith) c.if-v-ones-eq0.true,
)

pub loop-ones-preserved-then-v-ones-eq0 : goal.loop-ones-preserved-then-v-ones-eq0
loop-ones-preserved-then-v-ones-eq0 c =
    row_zero c.args.v.now c.args.g c.args.zeros c.requires.2 c.requires.0 c.requires.1 c.loop-ones.t c.loop-ones.ones c.loop-ones.passed c.loop-ones.invariant c.loop-ones-test.true c.if-passed-zeros.true
    (c.args.g - 1 - c.loop-ones.ones) (omega arith) c.if-v-ones-eq0.true _ c.add.ensures

pub loop-ones-preserved : goal.loop-ones-preserved
loop-ones-preserved c =
    row_one c.args.v.now c.args.g c.args.zeros c.requires.2 c.requires.0 c.requires.1 c.loop-ones.t c.loop-ones.ones c.loop-ones.passed c.loop-ones.invariant c.loop-ones-test.true c.if-passed-zeros.true (omega (arith, c.if-v-ones-eq0.false))

pub returns-else-passed-zeros : goal.returns-else-passed-zeros
returns-else-passed-zeros c =
    (c.loop-ones.invariant.long, row_full c.args.v.now c.args.g c.args.zeros c.requires.2 c.requires.0 c.requires.1 c.loop-ones.t c.loop-ones.ones c.loop-ones.passed c.loop-ones.invariant (inr (c.if-passed-zeros.false)))

pub returns-after-loop-ones : goal.returns-after-loop-ones
returns-after-loop-ones c =
    (c.loop-ones.invariant.long, row_full c.args.v.now c.args.g c.args.zeros c.requires.2 c.requires.0 c.requires.1 c.loop-ones.t c.loop-ones.ones c.loop-ones.passed c.loop-ones.invariant (inl c.loop-ones-test.false))
