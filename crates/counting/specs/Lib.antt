-- Rows and necklaces counted. Not of document 01: what the laws and the inner functions are said in.
pub mod InnerSums
pub mod InnerBlocks
pub mod InnerBound
pub mod InnerRoots
