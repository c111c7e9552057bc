-- The drawer program's input.
pub mod Input
pub mod Claims
