-- a rotation against a row, by its parts
pub mod Parts
-- signed turns, as integers and as numbers of the code; the search for the nearest, and the way back
pub mod Signed
pub mod SignedTurns
pub mod Remainders
pub mod Tried
pub mod TurnsBack
-- the four answers
pub mod FitLaws
pub mod FitFacts
-- what each answer gives
pub mod FitAnswers
-- what is claimed in specs/
pub mod TurnClaims
pub mod Claims
