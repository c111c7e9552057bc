-- The starred specimens, and what the operations answer.
pub mod Starred
pub mod Answered
