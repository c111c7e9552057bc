-- lines, piece by piece
pub mod Filling
-- how many line feeds a line has
pub mod LineFeeds
-- document 01's example, and what is claimed in specs/
pub mod Examples
pub mod Claims
