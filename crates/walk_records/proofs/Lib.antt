-- the test of two walk records is equality
pub mod SameWalks
