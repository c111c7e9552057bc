-- What document 01 claims of the refusals of key and class.
use Rattle.std.specs.Prelude.{List, ℕ, ◌<◌, length}
use Rattle.necklace.specs.Class.{class_verdict}
use Rattle.necklace.specs.Key.{key_verdict}
use Rattle.refusal.specs.Conditions.{FirstOf, NoStations, no_more, when}
use Rattle.refusal.specs.declared.Refusal.TheVariants.{Buffer, Stations, Symbol}
use Rattle.words.specs.Claims.{FirstOther}
use Rattle.words.specs.Symbols.{first_wrong}

-- "Orders. Key: 1, 3, 9. .. Each number is returned only under its condition."
abbrev pub KeyRefusals : Type 0
KeyRefusals =
    (row : List ℕ) (room : ℕ)
    → FirstOf (when (NoStations (length row)) Stations (when (FirstOther 2 row (first_wrong 2 row)) (Symbol (first_wrong 2 row)) (when (room < length row) Buffer no_more)))
    (key_verdict row room)

-- "Class: 1, 3."
abbrev pub ClassRefusals : Type 0
ClassRefusals = (row : List ℕ) → FirstOf (when (NoStations (length row)) Stations (when (FirstOther 2 row (first_wrong 2 row)) (Symbol (first_wrong 2 row)) no_more)) (class_verdict row)
