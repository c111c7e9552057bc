-- what is claimed in specs/
pub mod Claims
