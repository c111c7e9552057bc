-- `prefix::carried::Known::is_of_kind` meets its contract.
use mathlib.Core.Path.{sym, ◌∙◌}
use Rattle.density.proofs.KindTests.{of_kind_else, of_kind_one, of_kind_three, of_kind_two}
use Rattle.words.proofs.OnePass.{class_lyndon}
use Rattle.prefix.proofs.carried.Known.is_of_kind.Goals as goal

pub returns-then-kind-eq1 : goal.returns-then-kind-eq1
returns-then-kind-eq1 c = sym (of_kind_one c.args.kind c.args.a.now c.if-kind-eq1.true)

pub returns-then-kind-eq2 : goal.returns-then-kind-eq2
returns-then-kind-eq2 c =
    let w = c.args.a.now in
    class_lyndon w c.requires.0 _ c.scanned_period.ensures ∙ sym (of_kind_two c.args.kind w c.if-kind-eq2.true)

pub returns-then-kind-eq3 : goal.returns-then-kind-eq3
returns-then-kind-eq3 c =
    c.is_bracelet.ensures ∙ sym (of_kind_three c.args.kind c.args.a.now c.if-kind-eq3.true)

pub returns : goal.returns
returns c =
    sym (of_kind_else c.args.kind c.args.a.now c.if-kind-eq1.false c.if-kind-eq2.false c.if-kind-eq3.false)
