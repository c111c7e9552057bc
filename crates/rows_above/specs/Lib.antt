-- The table that rows are counted with.
pub mod InnerTables
