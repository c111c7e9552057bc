-- `text::read::belongs` meets its contract, sort by sort.
use borrow.Author.Tests.{eq-eqb, ne_eqb}
use Rattle.text.specs.Parts.{belongs}
use Rattle.text.proofs.read.belongs.Goals as goal

pub returns-in-Digits : goal.returns-in-Digits
unfolding belongs
returns-in-Digits c = rw c.in-Digits.is c.is_ascii_digit.ensures.value

pub returns-then-byte-ne32 : goal.returns-then-byte-ne32
unfolding belongs
returns-then-byte-ne32 c = rw (c.in-Unspaced.is, ne_eqb _ _ c.if-byte-ne32.true)

pub returns-else-byte-ne32 : goal.returns-else-byte-ne32
unfolding belongs
returns-else-byte-ne32 c = rw (c.in-Unspaced.is, eq-eqb _ _ c.if-byte-ne32.false)
