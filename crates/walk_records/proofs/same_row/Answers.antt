-- `walk_records::same_row` meets its contract: two rows are the same where they differ at no place.
use Rattle.walk_records.proofs.SameWalks.{row_same}
use Rattle.walk_records.proofs.same_row.Goals as goal

pub returns : goal.returns
returns c = row_same _ _ _ c.compare.ensures.place
