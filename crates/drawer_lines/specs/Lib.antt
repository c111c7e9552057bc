-- The drawer program's lines.
pub mod Lines
pub mod Claims
