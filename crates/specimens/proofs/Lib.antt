pub mod Holds
pub mod AnswersKept
