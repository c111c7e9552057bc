-- sums over blocks, step by step
pub mod BlockSteps
-- the table: entries stored one by one, how it is filled and read
pub mod Storing
pub mod Filling
pub mod RowSteps
pub mod Reading
