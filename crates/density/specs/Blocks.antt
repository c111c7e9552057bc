-- The row of some pitches.
use Rattle.std.specs.Prelude.{List, [], ◌∷◌, ◌++◌, ℕ, suc, zero}
use Rattle.words.specs.Symbols.{zeros}

-- "How many stations from one hole on to the next, the hole itself counted": a pitch of c + 1 is c zeros and a 1, and a
-- pitch of 0 has no station.
unfoldable pub blocks : List ℕ → List ℕ
blocks [] = []
blocks (zero ∷ pitches) = blocks pitches
blocks (suc c ∷ pitches) = zeros c ++ (1 ∷ blocks pitches)
