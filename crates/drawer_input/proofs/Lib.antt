-- limits, and lines of values
pub mod ValueLines
-- lines of values as they are written
pub mod WrittenLines
-- the whole input
pub mod Inputs
-- what is claimed in specs/
pub mod Claims
-- document 01's example, and texts at the edges
pub mod Examples
