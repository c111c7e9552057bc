-- A refusal's number is never 0.
use mathlib.Core.Path.{refl, ◌≡◌}
use Prim.Native.Nat.{suc, ℕ}
use Rattle.refusal.specs.Refusals.{number_of}
use Rattle.refusal.specs.declared.Refusal.{Refusal}
use Rattle.refusal.specs.declared.Refusal.TheVariants.{Buffer, Ended, Holes, Kind, LastPlain, Limit, Name, NotOffered, NothingPut, PitchSum, Prefix, Seat, Spent, Stations, Symbol, Text, Unfit, ZeroPitch}

pub some_number : (r : Refusal) → (c : ℕ) × (number_of r ≡ suc c)
some_number Stations = (0, refl)
some_number Holes = (1, refl)
some_number (Symbol p) = (2, refl)
some_number Limit = (3, refl)
some_number Kind = (4, refl)
some_number Prefix = (5, refl)
some_number PitchSum = (6, refl)
some_number LastPlain = (7, refl)
some_number Buffer = (8, refl)
some_number (Text p) = (9, refl)
some_number (ZeroPitch p) = (10, refl)
some_number Name = (11, refl)
some_number Seat = (12, refl)
some_number Ended = (19, refl)
some_number Spent = (20, refl)
some_number Unfit = (21, refl)
some_number NothingPut = (22, refl)
some_number NotOffered = (23, refl)
