-- The drawer's book, and what it names and takes in all.
pub mod Listing
pub mod Totals
pub mod Places
pub mod Claims
