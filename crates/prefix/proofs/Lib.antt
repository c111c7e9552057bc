-- the refusals in their order
pub mod AskCases
-- what is carried from question to question
pub mod CarriedLaws
-- what is claimed in specs/
pub mod Claims
