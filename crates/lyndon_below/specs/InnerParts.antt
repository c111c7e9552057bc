-- The first symbols of a row, whose power has its length. Not of document 01: what inner functions are given.
use Rattle.std.specs.Prelude.{List, Option, Some, None, ◌≡◌, ℕ, ◌*◌, ◌/◌, ◌<◌, ◌≤◌, length, take}
use Rattle.counting.specs.InnerBound.{Bound, at, none}
use Rattle.density.proofs.Binary.{Binary}
use Rattle.pascal.specs.Pascal.{last_row}

-- a row of zeros and ones, as long as rows are counted; a divisor m of its length, and a density of m symbols
pub record Part (w : List ℕ) (m e : ℕ) : Type 0 where
  pub some : 0 < length w
  pub few : length w ≤ last_row
  pub binary : Binary w
  pub divides : m * (length w / m) ≡ length w
  pub dense : e ≤ m

-- the row of n symbols in an array of the most stations, where there is one
abbrev pub bound_in : ℕ → Option (List ℕ) → Bound
bound_in n (Some row) = at (take n row)
bound_in n None = none
