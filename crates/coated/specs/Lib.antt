-- Rings with a coated face: how one row fits another, the answers, and what is claimed of them.
pub mod Fitting
pub mod Answers
pub mod Claims
