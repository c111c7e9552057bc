-- what a look hands back, by the answer of its step
pub mod Looking
-- the test of two offers is equality
pub mod SameOffers
-- what a take comes to, by the answer of its step
pub mod TakeCases
-- what is claimed in specs/
pub mod Claims
