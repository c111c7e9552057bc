-- How many rows of n symbols have d ones.
use Rattle.std.specs.Prelude.{List, ℕ, suc, zero, ◌+◌, eqb}
use Rattle.density.specs.Density.{all_rows, density}
use Rattle.words.specs.Tests.{keep}

-- "The number of ways to choose d stations of n": "ends are 1, inner entries the sum of the two above", and 0 where d is above n.
unfoldable pub choose : ℕ → ℕ → ℕ
choose n zero = 1
choose zero (suc d) = 0
choose (suc n) (suc d) = choose n d + choose n (suc d)

-- all rows of n symbols with d holes, shelved or not, falling
unfoldable pub rows_of : ℕ → ℕ → List (List ℕ)
rows_of n d = keep (λ w. eqb (density w) d) (all_rows n)
