-- The place where two rows first differ. Beside their order, it is what a comparison tells.
use Rattle.std.specs.Prelude.{cond, List, [], ◌∷◌, ℕ, eqb}
use Rattle.words.specs.Symbols.{later}

-- "Comparing two rows is to tell that place (0 if equal) .. Where one row begins the other, it is the place just after the shorter."
unfoldable pub first_difference : List ℕ → List ℕ → ℕ
first_difference [] [] = 0
first_difference [] (y ∷ ys) = 1
first_difference (x ∷ xs) [] = 1
first_difference (x ∷ xs) (y ∷ ys) = let rest = later (first_difference xs ys) in cond (eqb x y) rest 1
