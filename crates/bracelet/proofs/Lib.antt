-- the symbols of a reverse, a row against a rotation by its parts, a necklace against the rotations of its reverse
pub mod Parts
pub mod Against
-- what each answer gives
pub mod Answers
