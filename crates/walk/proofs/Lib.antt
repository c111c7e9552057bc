-- what each move does to what a walk stands for, and how many may come
pub mod MoveLines
pub mod BelowLines
-- good and fit records, each move kept, a run as the listing has it
pub mod Invariant
pub mod Simulation
pub mod MovesKeep
pub mod Fuel
pub mod StepAgrees
pub mod Needed
pub mod AnyStep
-- the row kept, and the places
pub mod KeptRow
-- lists of steps, one after the other
pub mod StepLists
-- what the functions compute, step by step
pub mod FitCases
pub mod MoveByMove
pub mod Resuming
pub mod MoveCases
pub mod StepLoop
pub mod Tried
-- demand 3, and what follows from it
pub mod Demand
pub mod Places
pub mod GivenRing
-- what is claimed in specs/
pub mod FitFacts
pub mod RecordClaims
pub mod OpeningClaims
