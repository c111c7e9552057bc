-- `lengths::ceiling` meets its contract: nothing is refused within the table.
use borrow.Author.Rules.{rules}
use Rattle.lengths.proofs.ceiling.Goals as goal

pub unwrap-requires : goal.unwrap-requires
unwrap-requires c = let w = rw c.requires at c.ways.ensures in rw w (search rules)

pub returns : goal.returns
returns c = let w = rw c.requires at c.ways.ensures in cc
