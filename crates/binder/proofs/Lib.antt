-- what tells that a record is fit, what stands under a name after a put, and what a fetch gives
pub mod FitTold
pub mod UnderName
pub mod LastPut
-- what is claimed in specs/
pub mod Claims
