-- Bytes as one number.
pub mod Number
