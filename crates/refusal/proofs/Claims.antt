-- The claims on every refusal hold.
use mathlib.Core.Bool.{cond}
use mathlib.Core.Path.{ap₂, refl, sym, ◌∙◌, ◌≡◌}
use Prim.Native.Nat.{ℕ}
use lib.Dec.{eqb}
use lib.ListN.{drop, length}
use lib.Seq.{drop_at, take_at}
use Rattle.refusal.specs.Claims.{BufferFilled, NumbersTell, RefusalNumbers}
use Rattle.refusal.specs.Refusals.{number_of, place_of}
use Rattle.refusal.specs.declared.Refusal.{Refusal}
use Rattle.refusal.specs.declared.Refusal.TheVariants.{Stations, Holes, Symbol, Limit, Kind, Prefix, PitchSum, LastPlain, Buffer, Text, ZeroPitch, Name, Seat, Ended, Spent, Unfit, NothingPut, NotOffered}

pub refusal_numbers : RefusalNumbers
refusal_numbers p = (
  (refl, refl),
  (refl, refl),
  (refl, refl),
  (refl, refl),
  (refl, refl),
  (refl, refl),
  (refl, refl),
  (refl, refl),
  (refl, refl),
  (refl, refl),
  (refl, refl),
  (refl, refl),
  (refl, refl),
  (refl, refl),
  (refl, refl),
  (refl, refl),
  (refl, refl),
  (refl, refl),
)

-- the refusal of a number and a place
abbrev refusal_of : ℕ → ℕ → Refusal
refusal_of number p =
    cond (eqb number 1) Stations
    (cond (eqb number 2) Holes
    (cond (eqb number 3) (Symbol p)
    (cond (eqb number 4) Limit
    (cond (eqb number 5) Kind
    (cond (eqb number 6) Prefix
    (cond (eqb number 7) PitchSum
    (cond (eqb number 8) LastPlain
    (cond (eqb number 9) Buffer
    (cond (eqb number 10) (Text p)
    (cond (eqb number 11) (ZeroPitch p)
    (cond (eqb number 12) Name
    (cond (eqb number 13) Seat
    (cond (eqb number 20) Ended
    (cond (eqb number 21) Spent
    (cond (eqb number 22) Unfit
    (cond (eqb number 23) NothingPut NotOffered))))))))))))))))

numbered : (r : Refusal) → refusal_of (number_of r) (place_of r) ≡ r
numbered Stations = refl
numbered Holes = refl
numbered (Symbol p) = refl
numbered Limit = refl
numbered Kind = refl
numbered Prefix = refl
numbered PitchSum = refl
numbered LastPlain = refl
numbered Buffer = refl
numbered (Text p) = refl
numbered (ZeroPitch p) = refl
numbered Name = refl
numbered Seat = refl
numbered Ended = refl
numbered Spent = refl
numbered Unfit = refl
numbered NothingPut = refl
numbered NotOffered = refl

pub numbers_tell : NumbersTell
numbers_tell r s number place = sym (numbered r) ∙ ap₂ refusal_of number place ∙ numbered s

pub buffer_filled : BufferFilled
buffer_filled text out r h = (take_at text (drop (length text) out) (length text) refl, drop_at text (drop (length text) out) (length text) refl, refl)
