-- sums, and sums over all rows
pub mod Sums
pub mod RowCounts
-- the orbits of necklaces under rotation
pub mod Orbits
-- prenecklaces, and the rows all of whose rotations are above one
pub mod Prenecklaces
pub mod Reading
pub mod Above
pub mod Returns
-- the number of those rows, by blocks
pub mod Paths
pub mod BlockSums
pub mod BlockCount
-- necklaces as powers of Lyndon words
pub mod Roots
pub mod LyndonSums
pub mod Recursion
-- the highest row at or below w that begins a necklace
pub mod Highest
pub mod RowsBelow
-- the rank of a row
pub mod Ranks
-- no number exceeds a binomial coefficient
pub mod Ceilings
