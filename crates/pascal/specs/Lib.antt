-- The ways to choose stations, as a table.
pub mod Pascal
pub mod Answers
pub mod Claims
