-- The density of a row, and all rows of zeros and ones.
use Rattle.std.specs.Prelude.{List, [], ◌∷◌, ◌++◌, map, ℕ, zero, suc}

-- "Holes": how many symbols are 1.
unfoldable pub density : List ℕ → ℕ
density [] = 0
density (zero ∷ w) = density w
density (suc zero ∷ w) = suc (density w)
density (suc (suc x) ∷ w) = density w

-- all rows of n symbols, falling
unfoldable pub all_rows : ℕ → List (List ℕ)
all_rows zero = [] ∷ []
all_rows (suc n) = let shorter = all_rows n in map (λ w. 1 ∷ w) shorter ++ map (λ w. 0 ∷ w) shorter
