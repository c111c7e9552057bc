-- what may follow a Lyndon word
pub mod Fits
-- the search over the places behind a prefix
pub mod Search
pub mod SearchSteps
-- one more 1, which needs no search
pub mod OneMoreOne
