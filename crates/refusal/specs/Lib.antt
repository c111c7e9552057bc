-- The refusals of document 01, and how an operation picks the first that applies.
pub mod Refusals
pub mod Verdicts
pub mod Outcomes
pub mod Conditions
pub mod Claims
