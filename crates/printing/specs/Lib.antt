-- The drawer program's printed text; what is left of it while it is handed out in pieces.
pub mod Text
pub mod Left
pub mod Pieces
pub mod InnerNextLine
pub mod Claims
