-- Seat numbers: the rank of a row among the rings of a drawer and kind, and the ring of a rank, by counting in the enumeration.
use Rattle.std.specs.Prelude.{List, [], reverse, ℕ, ◌-◌, get_or, length}
use Rattle.density.specs.Necklaces.{necklaces_of_kind, of_kind, wanted}
use Rattle.words.specs.Symbols.{ones}

-- "The seat of a row of n symbols, shelved or not, is how many rings of the drawer and kind lie at or below it."
unfoldable pub rank : ℕ → ℕ → ℕ → List ℕ → ℕ
rank n d kind row = length (wanted n d (of_kind kind) row)

-- "The total": the seat of n ones.
abbrev pub ring_count : ℕ → ℕ → ℕ → ℕ
ring_count n d kind = rank n d kind (ones n)

-- "The ring at a seat is given back from its number, 1 being the lowest": the entry of the list of the rings, rising.
unfoldable pub necklace_at : ℕ → ℕ → ℕ → ℕ → List ℕ
necklace_at n d kind seat = get_or (reverse (necklaces_of_kind kind n d)) (seat - 1) []
