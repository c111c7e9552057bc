-- The prefix question, and what its inner functions rely on.
pub mod Question
pub mod InnerCarried
pub mod Claims
