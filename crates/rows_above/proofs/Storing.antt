-- Entries of the table are stored one by one, from a place on.
use mathlib.Core.List.{List}
use mathlib.Core.Path.{◌≡◌}
use Prim.Native.Nat.{ℕ, ◌+◌, ◌<◌, ◌≤◌}
use lib.ListN.{get_or, length}
use Rattle.rows_above.specs.InnerTables.{table_size}

-- entry to + i has become y i, for i below j
pub record Storing (t u : List ℕ) (to : ℕ) (y : ℕ → ℕ) (j : ℕ) : Type 0 where
  pub long : length u ≡ table_size
  pub changed : (i : ℕ) → i < j → get_or u (to + i) 0 ≡ y i
  pub before : (i : ℕ) → i < to → get_or u i 0 ≡ get_or t i 0
  pub behind : (i : ℕ) → to + j ≤ i → get_or u i 0 ≡ get_or t i 0
