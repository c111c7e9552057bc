-- What the two operations refuse and give, on every input.
use Rattle.std.specs.Prelude.{List, ℕ, length, eqb, leb}
use Rattle.words.specs.Symbols.{first_wrong}
use Rattle.refusal.specs.declared.Refusal.TheVariants.{Stations, Holes, Symbol, PitchSum, LastPlain, Buffer, ZeroPitch}
use Rattle.refusal.specs.Verdicts.{Verdict, accepted, need, are_stations}
use Rattle.pitches.specs.Pitches.{adds_up, first_zero, has_pitch_list, pitches_of_row}

-- ---- pitch list to row

-- list to row: 1, 2, 11, 7, 9
unfoldable pub row_verdict : ℕ → List ℕ → ℕ → Verdict
row_verdict n pitches room =
    need (are_stations n) Stations
    (need (leb (length pitches) n) Holes
    (need (eqb (first_zero pitches) 0) (ZeroPitch (first_zero pitches))
    (need (adds_up n pitches) PitchSum
    (need (leb n room) Buffer accepted))))

-- ---- row to pitch list

-- "Row to list: 1, 3, 8, 9."
unfoldable pub list_verdict : List ℕ → ℕ → Verdict
list_verdict w room =
    need (are_stations (length w)) Stations
    (need (eqb (first_wrong 2 w) 0) (Symbol (first_wrong 2 w))
    (need (has_pitch_list w) LastPlain
    (need (leb (length (pitches_of_row w)) room) Buffer accepted)))
