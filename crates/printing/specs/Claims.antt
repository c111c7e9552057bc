-- What is claimed of the program's text, and of its pieces, however it is cut.
use Rattle.std.specs.Prelude.{Ok, Err, false, true, List, ◌++◌, ◌↔◌, ◌≡◌, ℕ, ◌+◌, ◌<◌, ◌≤◌, drop, length, take}
use Rattle.density.specs.Lengths.{HowMany, at_most, drawer_length, exactly}
use Rattle.drawer_input.specs.Input.{Asked, read_drawer}
use Rattle.drawer_lines.specs.Lines.{longest_line}
use Rattle.listing.specs.Listing.{book}
use Rattle.printing.specs.Left.{left}
use Rattle.printing.specs.Pieces.{Fills, HandedOut}
use Rattle.printing.specs.Text.{lines_text, printed}
use Rattle.printing.specs.declared.Filled.{Filled}
use Rattle.printing.specs.declared.Printing.{Printing}
use Rattle.refusal.specs.Refusals.{number_of, place_of}
use Rattle.refusal.specs.Verdicts.{Verdict, accepted}
use Rattle.refusal.specs.declared.Refusal.{Refusal}
use Rattle.text.specs.Ascii.{ascii}
use Rattle.text.specs.Decimals.{field}
use Rattle.text.specs.Parts.{line_feeds}
use Rattle.walk.specs.Opening.{open_verdict}

-- ---- the text

-- "It prints names, then values": those of the drawer's book, of the kind and from the limit that were asked.
abbrev pub PrintedBook : Type 0
PrintedBook =
    (input : List ℕ) (a : Asked) → read_drawer input ≡ Ok a → open_verdict a.stations a.holes a.kind a.limit ≡ accepted
    → printed input ≡ ascii "number row period trials\n" ++ lines_text 0 (book a.stations a.holes a.kind a.limit)

-- "A refusal prints the line `refused place`, then a line with the two numbers, and nothing else", for the text or for the opening.
abbrev pub PrintedRefusal : Type 0
PrintedRefusal =
    (input : List ℕ) (r : Refusal) → let text = ascii "refused place\n" ++ (field (number_of r) 32 ++ field (place_of r) 10) in
    (read_drawer input ≡ Err r → printed input ≡ text)
    × ((a : Asked) → read_drawer input ≡ Ok a → open_verdict a.stations a.holes a.kind a.limit ≡ Verdict.refused r
    → printed input ≡ text)

-- ---- its pieces

-- from the start of an input's text on: what was handed out, and then what is left, is the printed text
abbrev pub HandedPrinted : Type 0
HandedPrinted = (input bytes : List ℕ) (s t : Printing) → left s ≡ printed input → HandedOut s bytes t → bytes ++ left t ≡ printed input

-- one piece more: done exactly when all of the text was handed out
abbrev pub DoneExactly : Type 0
DoneExactly =
    (input bytes before after : List ℕ) (s t : Printing) (f : Filled) → left s ≡ printed input → HandedOut s bytes t → Fills t before after f
    → (f.done ≡ true) ↔ (bytes ++ take f.used after ≡ printed input)

-- a buffer with room for the longest line leaves less to print, until nothing is left
abbrev pub LessLeft : Type 0
LessLeft =
    (before after : List ℕ) (s : Printing) (f : Filled) → Fills s before after f → longest_line ≤ length before → f.done ≡ false
    → length (left f.state) < length (left s)

-- the bytes behind what was written are as they were, and a buffer without room for the longest line gets nothing
abbrev pub BehindStays : Type 0
BehindStays =
    (before after : List ℕ) (s : Printing) (f : Filled) → Fills s before after f
    → (f.used ≤ length before)
    × (length after ≡ length before)
    × (drop f.used after ≡ drop f.used before)
    × (length before < longest_line → f.used ≡ 0)

-- ---- how many lines a printed drawer has

-- as many as the rings, of which there are so many, the names and the last line
abbrev pub LinesFor : HowMany → ℕ → Type 0
LinesFor (exactly x) lines = lines ≡ x + 2
LinesFor (at_most x) lines = lines ≤ x + 2

-- "A printed drawer has that many lines plus two": an input that is read and opens a drawer
abbrev pub PrintedLines : Type 0
PrintedLines =
    (input : List ℕ) (a : Asked) → read_drawer input ≡ Ok a → open_verdict a.stations a.holes a.kind a.limit ≡ accepted
    → LinesFor (drawer_length a.stations a.holes a.kind a.limit) (line_feeds (printed input))
