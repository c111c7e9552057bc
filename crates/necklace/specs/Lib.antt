-- Key and class of a row, as document 01 has them.
pub mod Key
pub mod Class
pub mod Claims
