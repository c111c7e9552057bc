-- `text::read::numeral_at` meets its contract, by how many digits stand at the place.
use native.Mathlib.Omega.{arith}
use borrow.Author.Tests.{ltb-false}
use Rattle.text.proofs.Numerals.{leading_zero, many_digits, no_digit, one_digit, three_digits, two_digits}
use Rattle.text.proofs.read.numeral_at.Goals as goal
use Rattle.text.proofs.read.numeral_at.Goals.{then-count-eq0-via-then-count-eq0, then-count-eq0-via-else-count-eq0+then-count-gt3}

pub returns-then-count-eq0 : goal.returns-then-count-eq0
returns-then-count-eq0 c =
    let r = c.run_at-count.ensures.run in
    elim c.then-count-eq0.branch [ then-count-eq0-via-then-count-eq0 w ↦ no_digit _ _ _ r w.if-count-eq0.true | then-count-eq0-via-else-count-eq0+then-count-gt3 w ↦ many_digits _ _ _ r w.if-count-gt3.true ]

pub returns-then-count-eq1 : goal.returns-then-count-eq1
returns-then-count-eq1 c = one_digit _ _ _ c.run_at-count.ensures.run c.if-count-eq1.true _ c.digit-first.ensures.0

pub returns-then-text-at-eq48 : goal.returns-then-text-at-eq48
returns-then-text-at-eq48 c = leading_zero _ _ _ c.run_at-count.ensures.run (omega (arith, ltb-false)) (omega (arith, ltb-false)) c.if-text-at-eq48.true

pub returns-then-count-eq2 : goal.returns-then-count-eq2
returns-then-count-eq2 c =
    two_digits _ _ _ c.run_at-count.ensures.run c.if-count-eq2.true c.if-text-at-eq48.false _ _ c.digit-first.ensures.0 c.digit.ensures.0

pub returns : goal.returns
returns c =
    three_digits _ _ _ c.run_at-count.ensures.run (omega (arith, ltb-false)) c.if-text-at-eq48.false _ _ _ c.digit-first.ensures.0 c.digit.ensures.0 c.digit-2.ensures.0
