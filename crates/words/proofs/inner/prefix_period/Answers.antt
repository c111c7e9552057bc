-- `words::inner::prefix_period` meets its contract. The invariant: the pass over all of a is the pass from place i, with period i - j.
use mathlib.Core.Path.{sym, ◌∙◌, ◌≡◌}
use Prim.Native.Nat.{◌-◌}
use lib.ListN.{length}
use native.Mathlib.Omega.{arith}
use Rattle.words.proofs.ScanSteps.{over_first, pass_higher, pass_lower, pass_same, scan_end, scan_start}
use Rattle.words.proofs.inner.prefix_period.Goals as goal
use Rattle.words.proofs.inner.prefix_period.Goals.{then-z-a, else-z-a, then-a-i, else-a-i+else-a-i-2}

pub loop-i-init : goal.loop-i-init
loop-i-init c =
    let a = c.args.a.now in
    elim c.if-z-a.branch [
      | then-z-a w ↦ (omega arith, omega arith, rw w.start-is (over_first a c.args.z c.requires.1 w.if-z-a.true))
      | else-z-a w ↦ (omega arith, omega arith, rw w.start-is (scan_start a (omega arith)))
    ]

pub returns-then-a-i-2 : goal.returns-then-a-i-2
returns-then-a-i-2 c =
    (sym (c.loop-i.invariant.2 ∙ pass_lower c.args.a.now c.loop-i.i c.loop-i.j (omega arith) (omega arith) c.if-a-i-2.true), omega arith)

pub loop-i-preserved : goal.loop-i-preserved
loop-i-preserved c =
    let a = c.args.a.now in
    let i = c.loop-i.i in
    let j = c.loop-i.j in
    elim c.if-a-i.branch [
      | then-a-i w ↦ (omega arith, omega arith, rw w.j-is (c.loop-i.invariant.2 ∙ pass_same a i j (omega arith) (omega arith) w.if-a-i.true))
      | else-a-i+else-a-i-2 w ↦ (omega arith, omega arith, rw w.j-is (c.loop-i.invariant.2 ∙ pass_higher a i j (omega arith) (omega arith) (omega arith)))
    ]

pub returns : goal.returns
returns c =
    let end : c.loop-i.i ≡ length c.args.a.now = omega arith in
    (scan_end c.args.a.now (length c.args.a.now - c.loop-i.j) (length c.args.a.now) (omega arith) (omega arith) ∙ sym (rw end at c.loop-i.invariant.2), omega arith)
