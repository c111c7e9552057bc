-- Walk records told in numbers and compared, and what is claimed of that.
pub mod SameWalks
pub mod Claims
