-- one line, and what is left behind it
pub mod NextLine
-- no line is empty, and nothing is left exactly when the text is done
pub mod Ending
-- the rings that the walk's steps give
pub mod StepRing
-- how long lines are
pub mod LineLengths
-- many lines, one behind the other, in a buffer
pub mod Growing
-- how many rings are numbered
pub mod Numbers
-- what is left at the start
pub mod Starting
-- what is read of an input
pub mod Reading
-- how many lines are printed
pub mod PrintedLines
-- document 01's example
pub mod Examples
-- what is claimed in specs/
pub mod Claims
