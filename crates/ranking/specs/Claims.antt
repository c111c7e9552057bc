-- What document 02 claims of seat numbers, beside what density and walk claim of the definitions.
use Rattle.std.specs.Prelude.{List, ℕ, ◌<◌, ◌^◌, ◌≤◌}
use Rattle.density.specs.Drawers.{drawer_conditions, row_conditions}
use Rattle.density.specs.Ranks.{rank, ring_count}
use Rattle.pascal.specs.Pascal.{last_row}
use Rattle.ranking.specs.Answers.{rank_verdict, unrank_verdict}
use Rattle.refusal.specs.Conditions.{FirstOf, NotOneTo, no_more, when}
use Rattle.refusal.specs.declared.Refusal.TheVariants.{Buffer, Seat}

-- "checked as at opening", "kinds 1 and 2 only": 1, 2, 5, 4, 3
abbrev pub RankRefusals : Type 0
RankRefusals = (n d kind : ℕ) (row : List ℕ) → FirstOf (drawer_conditions n d (NotOneTo 2 kind) (row_conditions n row)) (rank_verdict n d kind row)

-- "1, 2, 5, 9", and "13, seat 0 or above the total, after all others"
abbrev pub UnrankRefusals : Type 0
UnrankRefusals =
    (n d kind seat room : ℕ)
    → FirstOf (drawer_conditions n d (NotOneTo 2 kind) (when (room < n) Buffer (when (NotOneTo (ring_count n d kind) seat) Seat no_more))) (unrank_verdict n d kind seat room)

-- every seat of up to 64 stations fits 64 bits
abbrev pub SeatsFit : Type 0
SeatsFit = (n d kind : ℕ) (row : List ℕ) → n ≤ last_row → rank n d kind row < 2 ^ 64
