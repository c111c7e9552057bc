-- What the program has read of its input, and what it has handed on of its text.
pub mod Read
pub mod HandedOn
pub mod Claims
