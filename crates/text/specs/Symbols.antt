-- Symbols as characters.
use Rattle.std.specs.Prelude.{cond, List, [], ◌∷◌, ◌++◌, map, ℕ, eqb}
use Rattle.text.specs.Parts.{space}

-- "The characters 0 and 1 stand for the symbols, and any other byte counts as a wrong symbol."
abbrev pub symbol_of : ℕ → ℕ
symbol_of b = cond (eqb b 48) 0 (cond (eqb b 49) 1 2)

-- "The characters 0 and 1 stand for the symbols."
abbrev pub character_of : ℕ → ℕ
character_of x = cond (eqb x 0) 48 49

-- a row and the space behind it
unfoldable pub row_field : List ℕ → List ℕ
row_field row = map character_of row ++ (space ∷ [])
