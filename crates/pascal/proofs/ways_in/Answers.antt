-- `pascal::ways_in` meets its contract: the index lies within the table, and each return has passed the tests before it.
use native.Mathlib.Omega.{arith}
use borrow.Author.Tests.{le-leb, lt-leb}
use Rattle.pascal.specs.Answers.{ways_verdict}
use Rattle.pascal.specs.Pascal.{entry_of, last_row}
use Rattle.pascal.proofs.ways_in.Goals as goal

pub returns-then-top-gt-LAST_ROW : goal.returns-then-top-gt-LAST_ROW
unfolding ways_verdict
returns-then-top-gt-LAST_ROW c = rw (lt-leb c.args.top last_row (omega arith))

pub returns-then-top-bottom : goal.returns-then-top-bottom
unfolding ways_verdict
returns-then-top-bottom c = rw (le-leb c.args.top last_row (omega arith), lt-leb _ _ c.if-top-bottom.true)

pub returns : goal.returns
unfolding ways_verdict entry_of
returns c = rw (le-leb c.args.top last_row (omega arith), le-leb _ _ c.if-top-bottom.false)
