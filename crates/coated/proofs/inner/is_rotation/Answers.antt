-- `coated::inner::is_rotation` meets its contract: the laws of Parts, at each return.
use mathlib.Core.Path.{refl, sym}
use native.Mathlib.Omega.{arith}
use lib.Seq.{length-take-le}
use Rattle.coated.proofs.Parts.{front_differs, rest_decides}
use Rattle.coated.proofs.inner.is_rotation.Goals as goal

pub slice_bounds-compare-end-2 : goal.slice_bounds-compare-end-2
slice_bounds-compare-end-2 c = sym (length-take-le _ _ (omega (arith, c.requires)))

pub returns-then-front-ne0 : goal.returns-then-front-ne0
returns-then-front-ne0 c =
    front_differs c.args.row.now c.args.other.now c.args.j _ c.requires.0 c.requires.1 refl _
    c.compare-front.ensures.place c.if-front-ne0.true

pub slice_bounds-compare-end-3 : goal.slice_bounds-compare-end-3
slice_bounds-compare-end-3 c =
    sym (length-take-le _ _ (omega (arith, c.requires)))

pub returns : goal.returns
returns c =
    rest_decides c.args.row.now c.args.other.now c.args.j _ c.requires.0 c.requires.1 refl _ _
    c.compare-front.ensures.place
    c.if-front-ne0.false c.compare-rest.ensures.place
