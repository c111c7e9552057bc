-- the rank of a row, from the table of Lyndon words
pub mod RankSums
-- the ring at a seat, symbol by symbol
pub mod SymbolSteps
-- kinds that are counted, and the verdicts
pub mod Verdicts
-- what is claimed in specs/
pub mod Claims
