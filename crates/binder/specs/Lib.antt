-- A binder, what is put and fetched under its names, and what is claimed of it.
pub mod Names
pub mod InnerAnswers
pub mod Puts
pub mod Claims
