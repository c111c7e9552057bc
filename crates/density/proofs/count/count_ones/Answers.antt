-- `density::count::count_ones` meets its contract: the ones so far are the density of what was passed.
use mathlib.Core.Path.{ap, refl, ◌∙◌}
use native.Mathlib.Omega.{arith}
use lib.Seq.{take_all}
use borrow.Author.Rules.{rules}
use Rattle.density.proofs.Counts.{density-take_one, density-take_other}
use Rattle.density.specs.Density.{density}
use Rattle.density.proofs.count.count_ones.Goals as goal
use Rattle.density.proofs.count.count_ones.Goals.{else-row-i-eq1, then-row-i-eq1}

pub loop-i-init : goal.loop-i-init
unfolding density
loop-i-init c = record { few = search rules; passed = refl }

pub loop-i-preserved : goal.loop-i-preserved
loop-i-preserved c =
    let l = c.loop-i in
    let w = c.args.row.now in
    elim c.if-row-i-eq1.branch [ then-row-i-eq1 q ↦ record { few = omega arith; passed = omega (arith, density-take_one w l.i (omega arith) q.if-row-i-eq1.true) } | else-row-i-eq1 q ↦ record { few = omega arith; passed = omega (arith, density-take_other w l.i (omega arith) q.if-row-i-eq1.false) } ]

pub returns : goal.returns
returns c =
    let l = c.loop-i in
    let w = c.args.row.now in
    (l.invariant.passed ∙ ap density (take_all l.i w (omega arith)), omega arith)
