-- Pitch lists.
pub mod Pitches
pub mod Answers
pub mod Claims
