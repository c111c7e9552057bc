-- What Lyndon words are counted by.
pub mod InnerParts
pub mod InnerTables
