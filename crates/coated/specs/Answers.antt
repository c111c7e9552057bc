-- The question how one row fits another: what is refused, and the answers.
use Rattle.std.specs.Prelude.{Bool, false, true, List, Option, None, Some, Result, Err, Ok, ℕ, eqb, ℤ, pos, length}
use Rattle.words.specs.Symbols.{first_wrong}
use Rattle.refusal.specs.Verdicts.{Verdict, accepted, are_stations, need}
use Rattle.refusal.specs.declared.Refusal.{Refusal}
use Rattle.refusal.specs.declared.Refusal.TheVariants.{Limit, Stations, Symbol}
use Rattle.coated.specs.Fitting.{Fit, both, different, over, turning}
use Rattle.coated.specs.declared.FitAnswer.{FitAnswer}
use Rattle.coated.specs.declared.FitAnswer.TheVariants.{Both, Different, Over, Turning}

-- Of two rows: "Refusal 1 looks at the first row only. A second row of another length gets 4, after 1 and before 3.
-- Refusal 3 looks at the first row, then at the second, with the place within that row."
unfoldable pub fit_verdict : List ℕ → List ℕ → Verdict
fit_verdict a b =
    need (are_stations (length a)) Stations
    (need (eqb (length b) (length a)) Limit
    (need (eqb (first_wrong 2 a) 0) (Symbol (first_wrong 2 a))
    (need (eqb (first_wrong 2 b) 0) (Symbol (first_wrong 2 b)) accepted)))

-- documents 01 and 02's values for each answer: the way and the turn
abbrev pub fit_told : FitAnswer → Fit
fit_told Different = record { way = different; turn = pos 0 }
fit_told (Turning s) = record { way = turning; turn = s }
fit_told (Over s) = record { way = over; turn = s }
fit_told (Both s) = record { way = both; turn = s }

-- or the refusal
abbrev pub fit_outcome : Result FitAnswer Refusal → Result Fit Refusal
fit_outcome (Ok a) = Ok (fit_told a)
fit_outcome (Err r) = Err r

-- what the search for a turn hands on: the nearest, if there is one
abbrev pub turn_found : Bool → ℤ → Option ℤ
turn_found true s = Some s
turn_found false s = None
