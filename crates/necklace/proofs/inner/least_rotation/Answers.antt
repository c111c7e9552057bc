-- `necklace::inner::least_rotation` meets its contract: the laws of Steps, at each place of the code.
use mathlib.Core.Logic.{inl, inr}
use mathlib.Core.Path.{refl, sym}
use native.Mathlib.Omega.{arith}
use Rattle.necklace.proofs.Steps.{by_all, by_equal, by_higher, by_lower, no_more, start, tails}
use Rattle.necklace.proofs.inner.least_rotation.Goals as goal
use Rattle.necklace.proofs.inner.least_rotation.Goals.{else-i-n, then-i-n}

pub rotations-init : goal.rotations-init
rotations-init c = (refl, start _ c.requires)

pub loop-i-init : goal.loop-i-init
loop-i-init c = (refl, refl, refl, tails c.rotations.invariant.1 c.rotations-test.true)

-- the part is higher, or lower, or equal
pub rotations-preserved-in-Greater : goal.rotations-preserved-in-Greater
rotations-preserved-in-Greater c =
    (refl, by_higher c.loop-i.invariant.3 _ c.compare-compared.ensures.order c.in-Greater.is)

pub rotations-preserved : goal.rotations-preserved
rotations-preserved c =
    (refl, by_lower c.loop-i.invariant.3 _ c.compare-compared.ensures.order c.in-Less.is)

pub loop-i-preserved-then-i-n-2 : goal.loop-i-preserved-then-i-n-2
loop-i-preserved-then-i-n-2 c =
    let l = c.loop-i in
    (refl, l.invariant.1, l.invariant.2, by_equal l.invariant.3 _ c.compare-compared.ensures.order c.in-Equal.is _ _ (elim c.if-i-n.branch [ then-i-n q ↦ inl (q.if-i-n.true, q.beside-is) | else-i-n q ↦ inr (q.if-i-n.false, q.beside-is) ]) (inl (c.if-i-n-2.true, refl)))

pub loop-i-preserved : goal.loop-i-preserved
loop-i-preserved c =
    let l = c.loop-i in
    (refl, l.invariant.1, l.invariant.2, by_equal l.invariant.3 _ c.compare-compared.ensures.order c.in-Equal.is _ _ (elim c.if-i-n.branch [ then-i-n q ↦ inl (q.if-i-n.true, q.beside-is) | else-i-n q ↦ inr (q.if-i-n.false, q.beside-is) ]) (inr (c.if-i-n-2.false, refl)))

-- the least rotation comes again
pub returns-in-rotations : goal.returns-in-rotations
returns-in-rotations c = let k = by_all c.loop-i.invariant.3 c.loop-i-test.false in (sym k.0, sym k.1)

-- all rotations are seen
pub returns : goal.returns
returns c = let k = no_more c.rotations.invariant.1 c.rotations-test.false in (sym k.0, sym k.1)

pub loop-i-smaller-then-i-n-2 : goal.loop-i-smaller-then-i-n-2
loop-i-smaller-then-i-n-2 c = omega (arith, c.loop-i.invariant.3.on c.loop-i-test.true)

pub loop-i-smaller : goal.loop-i-smaller
loop-i-smaller c = omega (arith, c.loop-i.invariant.3.on c.loop-i-test.true)
