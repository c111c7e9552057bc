-- The first refusal whose condition holds, in an operation's order, or none.
use Rattle.std.specs.Prelude.{Bool, true, false, ◌&&◌, ℕ, leb}
use Rattle.refusal.specs.declared.Refusal.{Refusal}

-- the most stations of a row
abbrev pub most_stations : ℕ
most_stations = 64

-- n is one of 1 to most
abbrev pub one_to : ℕ → ℕ → Bool
one_to most n = leb 1 n && leb n most

-- stations "1 to 64"
unfoldable pub are_stations : ℕ → Bool
are_stations n = one_to most_stations n

-- what an operation's conditions come to
pub data Verdict : Type 0 where
  accepted : Verdict
  refused : Refusal → Verdict

-- where this holds go on, else refuse
abbrev pub need : Bool → Refusal → Verdict → Verdict
need true r rest = rest
need false r rest = refused r
