-- The top ring.
pub mod Top
pub mod Claims
