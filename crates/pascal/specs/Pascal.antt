-- Pascal's triangle by its rule: "ends are 1, inner entries the sum of the two above".
use Rattle.std.specs.Prelude.{List, [], ◌∷◌, ◌++◌, ℕ, suc, zero, ◌*◌, ◌+◌, ◌/◌, get_or}

-- the sums of the neighbours in a row, and the 1 at the end
unfoldable pub sums : List ℕ → List ℕ
sums [] = []
sums (a ∷ []) = 1 ∷ []
sums (a ∷ (b ∷ row)) = (a + b) ∷ sums (b ∷ row)

-- m rows, one behind the other, the first of them given
unfoldable pub rows_from : List ℕ → ℕ → List ℕ
rows_from row zero = []
rows_from row (suc m) = row ++ rows_from (1 ∷ sums row) m

-- the first m rows of the triangle: the ways for 0 to m - 1 stations
unfoldable pub triangle : ℕ → List ℕ
triangle m = rows_from (1 ∷ []) m

-- "The ways for 0 to 64 stations"
abbrev pub last_row : ℕ
last_row = 64

-- the number for (top, bottom) in a table of rows, row n of n + 1 numbers
unfoldable pub entry_of : List ℕ → ℕ → ℕ → ℕ
entry_of table top bottom = get_or table (top * (top + 1) / 2 + bottom) 0
