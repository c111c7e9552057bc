-- a row against a power of its first symbols
pub mod PowerTest
-- the highest row at or below another that begins a necklace: the search for it, and the rows counted with it
pub mod BoundSteps
pub mod BoundFound
-- the table of Lyndon words
pub mod LyndonTable
