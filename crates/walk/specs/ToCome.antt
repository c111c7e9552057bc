-- What a record stands for: the lines still to come, each with its price. The trials owed to the first of them are those that the walk
-- still needs.
use Rattle.std.specs.Prelude.{false, true, List, [], ◌++◌, ◌∷◌, suc, zero, ℕ, ◌-◌, take}
use Rattle.listing.specs.Listing.{Listing, all_lines, entry, lines_from, over, ring, strike}
use Rattle.density.specs.Necklaces.{necklaces_below, necklaces_up_to}
use Rattle.walk.specs.Moves.{Rules}
use Rattle.walk.specs.declared.Standing.{Standing}
use Rattle.walk.specs.declared.Standing.TheVariants.{Down, Ended, Given, Limit, Up}
use Rattle.walk.specs.declared.Walk.{Walk}
use Rattle.words.specs.Symbols.{ones, zeros}

-- Down p looks below the first p symbols and then zeros
abbrev pub lowest : ℕ → ℕ → List ℕ → List ℕ
lowest p n row = take p row ++ zeros (n - p)

-- Up (i + 1) looks at and below the first i symbols and then ones
abbrev pub highest_of : ℕ → ℕ → List ℕ → List ℕ
highest_of i n row = take i row ++ ones (n - i)

-- the rows to come, but for a limit that is one itself
unfoldable pub rows_at : Standing → ℕ → ℕ → List ℕ → List (List ℕ)
rows_at Limit n d row = necklaces_below n d (take n row)
rows_at (Down p) n d row = necklaces_below n d (lowest p n row)
rows_at (Up zero) n d row = []
rows_at (Up (suc i)) n d row = necklaces_up_to n d (highest_of i n row)
rows_at Given n d row = necklaces_below n d (take n row)
rows_at Ended n d row = []

-- these rows, the first at price k
abbrev pub first_at : ℕ → List (List ℕ) → Listing
first_at k [] = over
first_at k (r ∷ rs) = entry (ring r) k (lines_from true r rs)

-- the lines to come, of every kind: the book from the limit or from the row where the walk looks; at Up p the places p to n are to be tried
unfoldable pub lines_at : Standing → ℕ → ℕ → List ℕ → Listing
lines_at Limit n d row = all_lines n d (take n row)
lines_at (Down p) n d row = lines_from false (lowest p n row) (rows_at (Down p) n d row)
lines_at (Up zero) n d row = over
lines_at (Up (suc i)) n d row = first_at (n - i) (rows_at (Up (suc i)) n d row)
lines_at Given n d row = lines_from true (take n row) (rows_at Given n d row)
lines_at Ended n d row = over

-- those of the walk's kind
unfoldable pub stands : Rules → Walk → Listing
stands R w = strike (R.of_kind w.kind) (lines_at w.at w.n w.d w.row)
