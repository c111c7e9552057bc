-- A table of sequences of blocks: 65 places for each number of ones, one for each number of zeros. Not of document 01:
-- what inner functions are given and keep.
use Rattle.std.specs.Prelude.{List, ◌≡◌, ℕ, ◌*◌, ◌+◌, ◌<◌, ◌^◌, ◌≤◌, get_or, length}
use Rattle.counting.proofs.Prenecklaces.{Prenecklace}
use Rattle.counting.specs.InnerBlocks.{chains}
use Rattle.density.proofs.Binary.{Binary}
use Rattle.pascal.specs.Pascal.{last_row}

abbrev pub table_size : ℕ
table_size = 4225

-- the sequences of blocks with h ones and z zeros
abbrev pub sequences : List ℕ → ℕ → ℕ → ℕ
sequences v h z = chains v (h + z) (h + z) h

-- their entry
abbrev pub entry_at : List ℕ → ℕ → ℕ → ℕ
entry_at t h z = get_or t (h * 65 + z) 0

-- the entries of fewer than g ones and at most k zeros are right
abbrev pub Filled : List ℕ → List ℕ → ℕ → ℕ → Type 0
Filled v t g k = (h z : ℕ) → h < g → z ≤ k → entry_at t h z ≡ sequences v h z

-- t, and then u, where k entries from a place on became 0
pub record Cleared (t u : List ℕ) (to k : ℕ) : Type 0 where
  pub long : length u ≡ table_size
  pub changed : (j : ℕ) → j < k → get_or u (to + j) 0 ≡ 0
  pub before : (i : ℕ) → i < to → get_or u i 0 ≡ get_or t i 0

-- t, and then u, where k entries were added to k others; what lies before those is as it was
pub record Added (t u : List ℕ) (to from k : ℕ) : Type 0 where
  pub long : length u ≡ table_size
  pub changed : (j : ℕ) → j < k → get_or u (to + j) 0 ≡ get_or t (to + j) 0 + get_or t (from + j) 0
  pub before : (i : ℕ) → i < to → get_or u i 0 ≡ get_or t i 0

-- each sum is a 64-bit number
abbrev pub SumsFit : List ℕ → ℕ → ℕ → ℕ → Type 0
SumsFit t to from k = (j : ℕ) → j < k → get_or t (to + j) 0 + get_or t (from + j) 0 < 2 ^ 64

-- a row of zeros and ones, as long as rows are counted, that begins a necklace
pub record Opening (v : List ℕ) : Type 0 where
  pub some : 0 < length v
  pub few : length v ≤ last_row
  pub binary : Binary v
  pub pre : Prenecklace v
