-- The length of a drawer.
pub mod Answers
