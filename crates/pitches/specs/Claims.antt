-- What document 01 claims of pitch lists.
use Rattle.std.specs.Prelude.{List, ◌⊎◌, ◌≡◌, suc, ℕ, ◌-◌, ◌<◌, get_or, length, take}
use Rattle.density.specs.Density.{density}
use Rattle.pitches.specs.Answers.{list_verdict, row_verdict}
use Rattle.pitches.specs.Pitches.{first_zero, pitches_of_row, row_of_pitches}
use Rattle.refusal.specs.Conditions.{FirstOf, NoStations, no_more, when}
use Rattle.refusal.specs.Verdicts.{accepted}
use Rattle.refusal.specs.declared.Refusal.TheVariants.{Buffer, Holes, LastPlain, PitchSum, Stations, Symbol, ZeroPitch}
use Rattle.words.specs.Claims.{FirstOther, FirstSo}
use Rattle.words.specs.Symbols.{first_wrong, sum}

-- ---- refusals: "Each number is returned only under its condition."

-- "11, a pitch of 0, the place of the first in the list"
abbrev pub FirstZeroAt : List ℕ → ℕ → Type 0
FirstZeroAt pitches place = FirstSo (λ p. p ≡ 0) pitches place

-- it is 0 where there is none
abbrev pub PlaceOfZero : Type 0
PlaceOfZero = (pitches : List ℕ) → (((k : ℕ) → k < length pitches → 0 < get_or pitches k 0) × (first_zero pitches ≡ 0)) ⊎ FirstZeroAt pitches (first_zero pitches)

-- 7: "a non-empty list that doesn't add up to the stations"
abbrev pub WrongSum : ℕ → List ℕ → Type 0
WrongSum n pitches = (0 < length pitches) × (sum pitches ≡ n → ⊥)

-- list to row: 1, 2, 11, 7, 9
abbrev pub RowRefusals : Type 0
RowRefusals =
    (n : ℕ) (pitches : List ℕ) (room : ℕ)
    → FirstOf
    (when (NoStations n) Stations
    (when (n < length pitches) Holes
    (when (FirstZeroAt pitches (first_zero pitches)) (ZeroPitch (first_zero pitches))
    (when (WrongSum n pitches) PitchSum
    (when (room < n) Buffer no_more)))))
    (row_verdict n pitches room)

-- "8. a row with holes that ends in 0"
abbrev pub EndsPlain : List ℕ → Type 0
EndsPlain w = (0 < density w) × (get_or w (length w - 1) 0 ≡ 0)

-- "Row to list: 1, 3, 8, 9."
abbrev pub ListRefusals : Type 0
ListRefusals =
    (w : List ℕ) (room : ℕ)
    → FirstOf
    (when (NoStations (length w)) Stations
    (when (FirstOther 2 w (first_wrong 2 w)) (Symbol (first_wrong 2 w))
    (when (EndsPlain w) LastPlain
    (when (room < length (pitches_of_row w)) Buffer no_more))))
    (list_verdict w room)

-- ---- from one to the other

-- a list that is taken gives a row of n symbols with a hole for each pitch
abbrev pub RowOfList : Type 0
RowOfList =
    (n : ℕ) (pitches : List ℕ) (room : ℕ) → row_verdict n pitches room ≡ accepted
    → (length (row_of_pitches n pitches) ≡ n) × (density (row_of_pitches n pitches) ≡ length pitches)

-- "how many stations from one hole on to the next, the hole itself counted": hole k + 1 lies where the first k + 1
-- pitches end
abbrev pub HolePlaces : Type 0
HolePlaces =
    (n : ℕ) (pitches : List ℕ) (room : ℕ) → row_verdict n pitches room ≡ accepted → (k : ℕ) → k < length pitches
    → let place = sum (take (suc k) pitches) in (get_or (row_of_pitches n pitches) (place - 1) 0 ≡ 1) × (density (take place (row_of_pitches n pitches)) ≡ suc k)

-- its row is taken in turn, and gives the list back
abbrev pub ListRowList : Type 0
ListRowList =
    (n : ℕ) (pitches : List ℕ) (room : ℕ) → row_verdict n pitches room ≡ accepted
    → (list_verdict (row_of_pitches n pitches) (length pitches) ≡ accepted) × (pitches_of_row (row_of_pitches n pitches) ≡ pitches)

-- a row has a pitch list: it is taken, and gives the row
abbrev pub HasList : List ℕ → List ℕ → Type 0
HasList w pitches = (row_verdict (length w) pitches (length w) ≡ accepted) × (row_of_pitches (length w) pitches ≡ w)

-- the list of a row that is taken is a list of that row
abbrev pub RowListRow : Type 0
RowListRow = (w : List ℕ) (room : ℕ) → list_verdict w room ≡ accepted → HasList w (pitches_of_row w)

-- every row that has a pitch list is given exactly that list
abbrev pub ItsList : Type 0
ItsList = (w pitches : List ℕ) → HasList w pitches → (list_verdict w (length pitches) ≡ accepted) × (pitches_of_row w ≡ pitches)
