-- what holds of each byte
pub mod Every
-- runs of bytes, and words at a place
pub mod Runs
-- numbers of one to three digits, and a space behind them
pub mod Numerals
-- what is written into a buffer
pub mod Written
-- the digits of a number
pub mod Digits
-- how a number is written
pub mod Spelling
-- numbers at a place, and the text behind them
pub mod Places
-- the line feeds of a text
pub mod LineFeeds
-- what is claimed in specs/
pub mod Claims
-- texts and numbers as their bytes
pub mod Examples
