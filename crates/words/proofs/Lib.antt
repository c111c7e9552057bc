-- the order: as a family to match on, the first difference, at or below, and the tests
pub mod Below
pub mod FirstDifference
pub mod AtMost
pub mod OrderTests
pub mod Beside
-- tests over numbers and lists, falling lists
pub mod Booleans
pub mod Bounded
pub mod Lists
pub mod Falling
pub mod UpTo
-- parts of rows, Lyndon words, powers, necklaces
pub mod Induction
pub mod Cut
pub mod Lyndon
pub mod Power
pub mod PowerOrder
pub mod Rotations
pub mod Root
-- a rotation of a rotation, the least rotation, the period
pub mod RotationAgain
pub mod LeastRotation
pub mod Periods
-- turning over
pub mod Reversal
pub mod TurnedKey
-- rows that begin a necklace: their period, one pass over them, what may follow a Lyndon word
pub mod Prefixes
pub mod ScanMeaning
pub mod Repetition
pub mod OnePeriod
pub mod Following
pub mod ScanSteps
-- rows over an alphabet
pub mod Alphabet
pub mod HighestSymbol
-- the first symbol that passes a test, wrong symbols, the place of the first difference, writing the front of a buffer
pub mod Zeros
pub mod FirstPlaces
pub mod Wrong
pub mod Difference
pub mod Agreeing
pub mod PairsCompared
-- the comparison
pub mod Comparing
pub mod Front
-- the pass over a row and one symbol more
pub mod ScanMore
pub mod AllButLast
pub mod LeadingZeros
-- the period of a necklace in one pass
pub mod OnePass
-- what is claimed in specs/
pub mod OrderClaims
pub mod Claims
