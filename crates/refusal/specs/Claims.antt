-- What document 01 claims of every refusal: its number, the place beside it, and that it writes to no lent buffer.
use Rattle.std.specs.Prelude.{List, ◌≡◌, ℕ, ◌≤◌, drop, length, take}
use Rattle.refusal.specs.Outcomes.{filled}
use Rattle.refusal.specs.Refusals.{number_of, place_of}
use Rattle.refusal.specs.Verdicts.{accepted, refused}
use Rattle.refusal.specs.declared.Refusal.{Refusal}
use Rattle.refusal.specs.declared.Refusal.TheVariants.{Stations, Holes, Symbol, Limit, Kind, Prefix, PitchSum, LastPlain, Buffer, Text, ZeroPitch, Name, Seat, Ended, Spent, Unfit, NothingPut, NotOffered}

-- a refusal's number, and the place beside it
abbrev pub Numbered : Refusal → ℕ → ℕ → Type 0
Numbered r number place = (number_of r ≡ number) × (place_of r ≡ place)

-- "A refusal is a number and a place (0 unless named)": the numbers, one after the other; 3, 10 and 11 name a place.
abbrev pub RefusalNumbers : Type 0
RefusalNumbers =
    (p : ℕ)
    → Numbered Stations 1 0
    × Numbered Holes 2 0
    × Numbered (Symbol p) 3 p
    × Numbered Limit 4 0
    × Numbered Kind 5 0
    × Numbered Prefix 6 0
    × Numbered PitchSum 7 0
    × Numbered LastPlain 8 0
    × Numbered Buffer 9 0
    × Numbered (Text p) 10 p
    × Numbered (ZeroPitch p) 11 p
    × Numbered Name 12 0
    × Numbered Seat 13 0
    × Numbered Ended 20 0
    × Numbered Spent 21 0
    × Numbered Unfit 22 0
    × Numbered NothingPut 23 0
    × Numbered NotOffered 24 0

-- the number and the place tell the refusal
abbrev pub NumbersTell : Type 0
NumbersTell = (r s : Refusal) → number_of r ≡ number_of s → place_of r ≡ place_of s → r ≡ s

-- "Written bytes fill the front of the lent buffer; the rest stays", and a refusal leaves all of it.
abbrev pub BufferFilled : Type 0
BufferFilled =
    (text out : List ℕ) (r : Refusal) → length text ≤ length out → let full = filled accepted text out in
    (take (length text) full ≡ text) × (drop (length text) full ≡ drop (length text) out) × (filled (refused r) text out ≡ out)
