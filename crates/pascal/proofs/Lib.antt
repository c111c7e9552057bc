-- the rows of the triangle
pub mod Rows
-- the look-up
pub mod LookUp
-- what is claimed in specs/
pub mod Claims
