-- A row in an array that may be longer.
use Rattle.std.specs.Prelude.{Bool, ◌&&◌, List, ◌≡◌, ℕ, ◌≤◌, drop, get_or, take}
use Rattle.words.specs.Symbols.{Within, all_up_to}

-- a row of n symbols, and zeros behind it; not "a byte above 1 in places 1 to n, or not 0 after n"
unfoldable pub is_padded : ℕ → List ℕ → Bool
is_padded n row = all_up_to 1 (take n row) && all_up_to 0 (drop n row)

-- the same as plain facts
pub record PaddedRow (n : ℕ) (row : List ℕ) : Type 0 where
  pub symbols : Within 2 (take n row)
  pub after : (i : ℕ) → n ≤ i → get_or row i 0 ≡ 0
