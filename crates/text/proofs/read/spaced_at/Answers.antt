-- `text::read::spaced_at` meets its contract: a number, and a space behind it.
use mathlib.Core.Bool.{true}
use mathlib.Core.List.{[], ◌∷◌}
use mathlib.Core.Path.{sym, ◌∙◌, ◌≡◌}
use native.Mathlib.Omega.{arith}
use lib.ListN.{drop}
use Rattle.text.proofs.Runs.{prefix_inside}
use Rattle.text.proofs.Numerals.{no_number, no_space, with_space}
use Rattle.text.specs.Parts.{space}
use Rattle.words.specs.Tests.{is_prefix}
use Rattle.text.proofs.read.spaced_at.Goals as goal
use Rattle.text.proofs.read.spaced_at.Goals.{Else-not-stands_at}

pub returns-in_err-numeral : goal.returns-in_err-numeral
returns-in_err-numeral c = c.from_residual.ensures ∙ no_number _ _ (sym c.in_err-numeral.was ∙ c.numeral_at.ensures)

pub returns-then-not-stands_at : goal.returns-then-not-stands_at
returns-then-not-stands_at c =
    no_space _ _ _ _ (sym c.in_ok-numeral.was ∙ c.numeral_at.ensures) (sym c.stands_at.ensures ∙ c.if-not-stands_at.true)

stands : (c : Else-not-stands_at) → is_prefix (space ∷ []) (drop c.in_ok-numeral.numeral.next c.args.text.now) ≡ true
stands c = sym c.stands_at.ensures ∙ c.if-not-stands_at.false

pub overflow_add-result : goal.overflow_add-result
overflow_add-result c = omega (arith, prefix_inside space c.args.text.now c.in_ok-numeral.numeral.next (stands (goal.at.overflow_add-result c).Else-not-stands_at))

pub returns : goal.returns
returns c = with_space _ _ _ _ (sym c.in_ok-numeral.was ∙ c.numeral_at.ensures) (stands (goal.at.returns c).Else-not-stands_at)
