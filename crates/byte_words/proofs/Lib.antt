-- equal numbers, and the first byte where two differ
pub mod FirstUnequal
