-- prices and striking out
pub mod Prices
pub mod Strikes
-- what each line is, and the rings that a book names
pub mod ListingMeaning
pub mod RingsNamed
-- after some steps: what the next says, and what each ring took in all
pub mod ListingLeft
pub mod Totalled
pub mod PlacesNamed
-- the ceilings of the trials: of a line, and of all lines
pub mod TrialBounds
pub mod AllTrials
-- what is claimed in specs/
pub mod Claims
