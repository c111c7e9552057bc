-- "Class of a row": shelved or not, without symmetry or not.
use Rattle.std.specs.Prelude.{List, ℕ, eqb, length}
use Rattle.words.specs.Rotation.{is_necklace, is_lyndon}
use Rattle.words.specs.Symbols.{first_wrong}
use Rattle.refusal.specs.Verdicts.{Verdict, accepted, need, are_stations}
use Rattle.refusal.specs.declared.Refusal.TheVariants.{Stations, Symbol}
use Rattle.necklace.specs.declared.RowClass.{RowClass}

-- "Orders. .. Class: 1, 3."
unfoldable pub class_verdict : List ℕ → Verdict
class_verdict row = need (are_stations (length row)) Stations (need (eqb (first_wrong 2 row) 0) (Symbol (first_wrong 2 row)) accepted)

-- "shelved or not, without symmetry or not"
abbrev pub class_given : List ℕ → RowClass
class_given row = record { necklace = is_necklace row; lyndon = is_lyndon row }
