-- rows of zeros and ones, the enumeration of them, and of the necklaces of (n, d)
pub mod Counts
pub mod Binary
pub mod Enumeration
pub mod Members
pub mod RowCounts
-- the largest necklace of (n, d): prefix sums, the balanced row, the lowest rotation of a row
pub mod Sums
pub mod BalancedRow
pub mod LowRotation
pub mod Largest
pub mod Scaled
-- a row compared with the balanced row, place by place
pub mod ErrorTerm
pub mod FirstOne
-- what begins a necklace of (n, d), and what rules a beginning out
pub mod Begun
pub mod RuledOut
-- neighbours among the necklaces of (n, d)
pub mod Neighbours
-- the necklaces of (n, d) below a row: what one question tells of them, how they end, those that are wanted
pub mod RowsBelow
pub mod Branching
pub mod LastSymbol
pub mod Wanted
-- the rank of a row, and the ring of a rank
pub mod RankedRings
-- the verdicts on a drawer and a limit
pub mod DrawerVerdicts
-- a row in an array
pub mod PaddedRows
-- tests of the kind and of membership
pub mod KindTests
-- what is claimed in specs/
pub mod Claims
pub mod TurnedRows
