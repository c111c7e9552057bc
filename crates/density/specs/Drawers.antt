-- A drawer of a kind, (n, d, kind), and with a limit, (n, d, kind, limit): what is refused of them.
use Rattle.std.specs.Prelude.{Bool, List, ◌≡◌, ℕ, ◌<◌, ◌≤◌, length, eqb, leb}
use Rattle.words.specs.Claims.{FirstOther}
use Rattle.words.specs.Symbols.{Within, first_wrong}
use Rattle.refusal.specs.declared.Refusal.TheVariants.{Stations, Holes, Kind, Limit, Symbol}
use Rattle.refusal.specs.Conditions.{Conditions, NoStations, NotOneTo, no_more, when}
use Rattle.refusal.specs.Verdicts.{Verdict, accepted, need, are_stations, most_stations}
use Rattle.density.specs.Necklaces.{is_kind}

-- 1, 2 and 5, in that order, before the rest; `taken` says whether the kind is one that the operation takes
abbrev pub drawer_needs : ℕ → ℕ → Bool → Verdict → Verdict
drawer_needs n d taken rest = need (are_stations n) Stations (need (leb d n) Holes (need taken Kind rest))

-- 4 and 3 of a row
abbrev pub row_needs : ℕ → List ℕ → Verdict
row_needs n row = need (eqb (length row) n) Limit (need (eqb (first_wrong 2 row) 0) (Symbol (first_wrong 2 row)) accepted)

-- "Refusals 1, 2 and 5 apply, in that order."
unfoldable pub drawer_verdict : ℕ → ℕ → ℕ → Verdict
drawer_verdict n d kind = drawer_needs n d (is_kind kind) accepted

-- "Orders. .. Open: 1, 2, 5, 4, 3."
unfoldable pub open_verdict : ℕ → ℕ → ℕ → List ℕ → Verdict
open_verdict n d kind limit = drawer_needs n d (is_kind kind) (row_needs n limit)

-- ---- its conditions as plain facts

-- "5 now means a kind not 1 to 3"
abbrev pub NoKind : ℕ → Type 0
NoKind kind = NotOneTo 3 kind

-- 1, 2 and 5, before the rest; `NotTaken` says that the kind is none that the operation takes
abbrev pub drawer_conditions : ℕ → ℕ → Type 0 → Conditions → Conditions
drawer_conditions n d NotTaken rest = when (NoStations n) Stations (when (n < d) Holes (when NotTaken Kind rest))

-- 4 and 3 of a row
abbrev pub row_conditions : ℕ → List ℕ → Conditions
row_conditions n row = when (length row ≡ n → ⊥) Limit (when (FirstOther 2 row (first_wrong 2 row)) (Symbol (first_wrong 2 row)) no_more)

-- 1, 2, 5, 4, 3
abbrev pub open_conditions : ℕ → ℕ → ℕ → List ℕ → Conditions
open_conditions n d kind limit = drawer_conditions n d (NoKind kind) (row_conditions n limit)

-- none of the conditions for the input
pub record NoCondition (n d kind : ℕ) (limit : List ℕ) : Type 0 where
  pub some : 1 ≤ n
  pub most : n ≤ most_stations
  pub holes : d ≤ n
  pub kinds : (1 ≤ kind) × (kind ≤ 3)
  pub long : length limit ≡ n
  pub symbols : Within 2 limit
