-- "Key of a row": the least turn is written; the smallest j that gives it and the period are returned.
use Rattle.std.specs.Prelude.{List, ℕ, eqb, leb, length}
use Rattle.words.specs.Rotation.{least_index, period}
use Rattle.words.specs.Symbols.{first_wrong}
use Rattle.refusal.specs.Verdicts.{Verdict, accepted, need, are_stations}
use Rattle.refusal.specs.declared.Refusal.TheVariants.{Stations, Symbol, Buffer}
use Rattle.necklace.specs.declared.RowKey.{RowKey}

-- "Orders. Key: 1, 3, 9.", for a row and the length of the lent buffer.
unfoldable pub key_verdict : List ℕ → ℕ → Verdict
key_verdict row room =
    need (are_stations (length row)) Stations (need (eqb (first_wrong 2 row) 0) (Symbol (first_wrong 2 row)) (need (leb (length row) room) Buffer accepted))

-- "the smallest j that gives it, and the period"
abbrev pub key_given : List ℕ → RowKey
key_given row = record { rotation = least_index row; period = period row }
