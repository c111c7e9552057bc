-- Seat numbers.
pub mod Answers
pub mod InnerRanks
pub mod Claims
