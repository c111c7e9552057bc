-- how many stations a row may have
pub mod Stations
-- numbers
pub mod Numbers
-- what the verdicts of the operations mean
pub mod Conditions
-- an outcome and its verdict
pub mod Outcomes
-- every number, and lent buffers
pub mod Claims
