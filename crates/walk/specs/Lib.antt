-- The walk, move by move, and what is claimed of it.
pub mod Moves
pub mod Fit
pub mod ToCome
pub mod Step
pub mod Opening
pub mod InnerCourse
pub mod Claims
