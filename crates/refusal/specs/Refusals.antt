-- "Refused for the input" and "Refused for the state": each refusal's number and place.
use Rattle.std.specs.Prelude.{ℕ}
use Rattle.refusal.specs.declared.Refusal.{Refusal}
use Rattle.refusal.specs.declared.Refusal.TheVariants.{Stations, Holes, Symbol, Limit, Kind, Prefix, PitchSum, LastPlain, Buffer, Text, ZeroPitch, Name, Seat, Ended, Spent, Unfit, NothingPut, NotOffered}

-- the number of document 01
abbrev pub number_of : Refusal → ℕ
number_of Stations = 1
number_of Holes = 2
number_of (Symbol p) = 3
number_of Limit = 4
number_of Kind = 5
number_of Prefix = 6
number_of PitchSum = 7
number_of LastPlain = 8
number_of Buffer = 9
number_of (Text line) = 10
number_of (ZeroPitch p) = 11
number_of Name = 12
number_of Seat = 13
number_of Ended = 20
number_of Spent = 21
number_of Unfit = 22
number_of NothingPut = 23
number_of NotOffered = 24

-- its place: "0 unless named"
abbrev pub place_of : Refusal → ℕ
place_of Stations = 0
place_of Holes = 0
place_of (Symbol p) = p
place_of Limit = 0
place_of Kind = 0
place_of Prefix = 0
place_of PitchSum = 0
place_of LastPlain = 0
place_of Buffer = 0
place_of (Text line) = line
place_of (ZeroPitch p) = p
place_of Name = 0
place_of Seat = 0
place_of Ended = 0
place_of Spent = 0
place_of Unfit = 0
place_of NothingPut = 0
place_of NotOffered = 0
