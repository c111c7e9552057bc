-- looks and takes among calls
pub mod OfferCalls
-- walks that an opening and steps have brought about
pub mod StoodWalks
-- what is claimed in specs/
pub mod Claims
