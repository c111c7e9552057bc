-- the rotation of a row by its tail and its head
pub mod Parts
-- the least rotation so far, and the first repeat of it
pub mod Seen
pub mod Steps
-- the verdicts and what they give
pub mod Answers
-- what is claimed in specs/
pub mod Claims
