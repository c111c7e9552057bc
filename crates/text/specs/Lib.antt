-- Pieces of text: what is read at a place, numbers and symbols as they are written, and a lent buffer.
pub mod Ascii
pub mod Parts
pub mod Decimals
pub mod Symbols
pub mod Buffers
pub mod Claims
