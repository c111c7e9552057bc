-- lists without a 0, blocks of rows, sums of lists, lists of rows, the two round trips, where the holes lie, and the refusals in their order
pub mod Positive
pub mod Blocks
pub mod Sums
pub mod Listing
pub mod RoundTrip
pub mod HolesAt
pub mod Refused
-- what is claimed in specs/
pub mod Claims
