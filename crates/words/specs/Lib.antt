-- Rows as lists of numbers, over any alphabet.
pub mod Order
pub mod Tests
pub mod Falling
pub mod Rotation
pub mod Reversal
pub mod Symbols
pub mod Difference
pub mod Pairs
pub mod Buffers
pub mod InnerScan
pub mod Claims
