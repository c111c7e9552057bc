-- A lent buffer.
use Rattle.std.specs.Prelude.{List, ◌++◌, ℕ, ◌+◌, length, drop, take}

-- a piece at a place of a buffer
abbrev pub placed : List ℕ → ℕ → List ℕ → List ℕ
placed out at piece = (take at out ++ piece) ++ drop (at + length piece) out
