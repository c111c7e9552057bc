-- `coated::inner::nearest_turn` meets its contract: the laws of Tried, at each place of the code.
use mathlib.Core.Path.{ap, refl, sym, ◌∙◌}
use Prim.Native.Nat.{◌+◌}
use native.Mathlib.Omega.{arith}
use Rattle.coated.proofs.Signed.{down_fits, down_is, up_is}
use Rattle.coated.proofs.Tried.{found_down, found_none, found_up, tried_down, tried_none, tried_past, tried_up}
use Rattle.std.specs.Prelude.{Some}
use Rattle.coated.proofs.inner.nearest_turn.Goals as goal
use Rattle.coated.proofs.inner.nearest_turn.Goals.{else-up-n-via-then-up-n+else-is_rotation-2, else-up-n-via-else-up-n}

pub loop-k-init : goal.loop-k-init
loop-k-init c = tried_none _ _

pub overflow_sub-result : goal.overflow_sub-result
overflow_sub-result c = down_fits c.loop-k.k (omega (arith, c.loop-k-test.true, c.requires))

pub returns-then-is_rotation : goal.returns-then-is_rotation
returns-then-is_rotation c =
    ap Some (down_is c.loop-k.k (omega (arith, c.loop-k-test.true, c.requires)))
    ∙ found_down c.loop-k.invariant c.loop-k.k (omega (arith, c.loop-k-test.true)) refl
    (sym c.is_rotation.ensures ∙ c.if-is_rotation.true)

pub returns-then-is_rotation-2 : goal.returns-then-is_rotation-2
returns-then-is_rotation-2 c =
    ap Some (up_is (c.loop-k.k + 1) (omega (arith, c.if-up-n.true, c.requires)))
    ∙ found_up (tried_down c.loop-k.invariant c.loop-k.k refl (sym c.is_rotation.ensures ∙ c.if-is_rotation.false)) (c.loop-k.k + 1)
    (omega (arith, c.if-up-n.true, c.loop-k-test.true)) (omega arith)
    (sym c.is_rotation-then-up-n.ensures ∙ c.if-is_rotation-2.true)

pub loop-k-preserved : goal.loop-k-preserved
loop-k-preserved c =
    let k = c.loop-k.k in
    let down = tried_down c.loop-k.invariant c.loop-k.k refl (sym c.is_rotation.ensures ∙ c.if-is_rotation.false) in
    elim c.else-up-n.branch [
      | else-up-n-via-then-up-n+else-is_rotation-2 w ↦ tried_up down (k + 1) (omega arith) (sym w.is_rotation-then-up-n.ensures ∙ w.if-is_rotation-2.false)
      | else-up-n-via-else-up-n w ↦ tried_past down (k + 1) (omega arith) (omega (arith, c.loop-k-test.true)) (omega (arith, w.if-up-n.false, c.loop-k-test.true))
    ]

pub returns : goal.returns
returns c = found_none c.loop-k.invariant (omega (arith, c.loop-k-test.false))
