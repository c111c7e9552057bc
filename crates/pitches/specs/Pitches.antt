-- "Pitches: how many stations from one hole on to the next, the hole itself counted."
use Rattle.std.specs.Prelude.{Bool, true, false, ◌||◌, List, [], ◌∷◌, ℕ, zero, suc, eqb}
use Rattle.words.specs.Symbols.{first_where, sum, zeros}
use Rattle.density.specs.Blocks.{blocks}
use Rattle.density.specs.Density.{density}

-- "List to row", from n and the list. "A blank is still the empty list": n zeros.
unfoldable pub row_of_pitches : ℕ → List ℕ → List ℕ
row_of_pitches n [] = zeros n
row_of_pitches n (p ∷ pitches) = blocks (p ∷ pitches)

-- "A pitch of 0, the place of the first in the list", and 0 where there is none.
unfoldable pub first_zero : List ℕ → ℕ
first_zero pitches = first_where (λ p. eqb p 0) pitches

-- Not "a non-empty list that doesn't add up to the stations".
unfoldable pub adds_up : ℕ → List ℕ → Bool
adds_up n [] = true
adds_up n (p ∷ pitches) = eqb (sum (p ∷ pitches)) n

-- the pitches of a row, with z plain stations passed since the last hole; the hole itself counts too
unfoldable pub pitches_from : ℕ → List ℕ → List ℕ
pitches_from z [] = []
pitches_from z (zero ∷ w) = pitches_from (suc z) w
pitches_from z (suc x ∷ w) = suc z ∷ pitches_from 0 w

-- "Row to list".
unfoldable pub pitches_of_row : List ℕ → List ℕ
pitches_of_row w = pitches_from 0 w

-- the last symbol is a 1
unfoldable pub ends_in_one : List ℕ → Bool
ends_in_one [] = false
ends_in_one (x ∷ []) = eqb x 1
ends_in_one (x ∷ (y ∷ w)) = ends_in_one (y ∷ w)

-- Not "a row with holes that ends in 0".
unfoldable pub has_pitch_list : List ℕ → Bool
has_pitch_list w = eqb (density w) 0 || ends_in_one w
