-- Mixed calls, and what is claimed of them.
pub mod Calls
pub mod Claims
