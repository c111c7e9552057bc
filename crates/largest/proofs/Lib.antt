-- the balanced row by blocks: the rule for few holes and the rule for many
pub mod RowSymbols
pub mod FewBlocks
pub mod ManyBlocks
-- what the code holds while it writes a row
pub mod FilledRow
-- the verdicts
pub mod TopVerdicts
-- what is claimed in specs/
pub mod Claims
