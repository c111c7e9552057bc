-- The symbols of a row: an alphabet, zeros, their sum, and the first that passes a test or is none of an alphabet.
use Rattle.std.specs.Prelude.{Bool, cond, true, ◌&&◌, List, [], ◌∷◌, Option, None, Some, ℕ, zero, suc, ◌+◌, ◌<◌, get_or, length, replicate, leb}

-- each symbol is one of an alphabet of k
abbrev pub Within : ℕ → List ℕ → Type 0
Within k w = (i : ℕ) → i < length w → get_or w i 0 < k

-- every symbol is at most b, as a test
unfoldable pub all_up_to : ℕ → List ℕ → Bool
all_up_to b [] = true
all_up_to b (x ∷ xs) = leb x b && all_up_to b xs

-- n zeros, n ones
abbrev pub zeros : ℕ → List ℕ
zeros n = replicate n 0

abbrev pub ones : ℕ → List ℕ
ones n = replicate n 1

unfoldable pub sum : List ℕ → ℕ
sum [] = 0
sum (x ∷ xs) = x + sum xs

-- the place of a later symbol, counted from one place further in front; 0 stays "none"
abbrev pub later : ℕ → ℕ
later zero = zero
later (suc p) = suc (suc p)

-- the place, from 1, of the first symbol that passes a test, and 0 where none does
unfoldable pub first_where : (ℕ → Bool) → List ℕ → ℕ
first_where test [] = 0
first_where test (x ∷ xs) = let rest = later (first_where test xs) in cond (test x) 1 rest

-- as the code tells it: 0 is no place
abbrev pub place_found : ℕ → Option ℕ
place_found zero = None
place_found (suc p) = Some (suc p)

-- "A byte other than 0 or 1; place of the first", for an alphabet of k symbols: the first that is not below k.
unfoldable pub first_wrong : ℕ → List ℕ → ℕ
first_wrong k w = first_where (λ x. leb k x) w
