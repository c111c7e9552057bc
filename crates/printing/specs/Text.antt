-- The drawer program's whole printed text, from the bytes of its input alone. Nothing of a walk's record is in it.
use Rattle.std.specs.Prelude.{Result, Ok, Err, List, [], ◌++◌, ℕ, ◌+◌}
use Rattle.density.specs.Necklaces.{of_kind}
use Rattle.drawer_input.specs.Input.{Asked, read_drawer}
use Rattle.drawer_lines.specs.Lines.{end_line, header, refusal_text, ring_line}
use Rattle.refusal.specs.declared.Refusal.{Refusal}
use Rattle.refusal.specs.Verdicts.{Verdict, accepted, refused}
use Rattle.listing.specs.Listing.{Listing, entry, listing, none, over, ring}
use Rattle.walk.specs.Opening.{open_verdict}
use Rattle.words.specs.Rotation.{period}

-- the lines of a book behind line k: "the running number, the row, its period and the trials spent since the line before", which
-- are the ring's price; the last is `end - -` and the price of none
unfoldable pub lines_text : ℕ → Listing → List ℕ
lines_text k over = []
lines_text k (entry (ring r) p rest) = ring_line (k + 1) r (period r) p ++ lines_text (k + 1) rest
lines_text k (entry none p rest) = end_line p

-- the names and the book of an accepted opening, or its refusal
abbrev pub opened_text : Verdict → ℕ → ℕ → ℕ → List ℕ → List ℕ
opened_text accepted n d kind limit = header ++ lines_text 0 (listing n d (of_kind kind) limit)
opened_text (refused r) n d kind limit = refusal_text r

-- the text for a drawer, a kind and a limit
abbrev pub asked_text : ℕ → ℕ → ℕ → List ℕ → List ℕ
asked_text n d kind limit = opened_text (open_verdict n d kind limit) n d kind limit

-- the text for what was read
abbrev pub input_text : Result Asked Refusal → List ℕ
input_text (Ok a) = asked_text a.stations a.holes a.kind a.limit
input_text (Err r) = refusal_text r

-- all that the program prints
unfoldable pub printed : List ℕ → List ℕ
printed s = input_text (read_drawer s)
