-- The Lyndon words whose power is at or below a row, as a table by their length. Not of document 01: what inner
-- functions are given and keep.
use Rattle.std.specs.Prelude.{List, ◌≡◌, suc, ℕ, ◌*◌, ◌/◌, ◌<◌, ◌≤◌, get_or, length}
use Rattle.counting.specs.InnerRoots.{lyndon_below}
use Rattle.counting.specs.InnerSums.{commonly}
use Rattle.density.proofs.Binary.{Binary}
use Rattle.pascal.specs.Pascal.{last_row}

-- a row of zeros and ones, as long as rows are counted, and a density
pub record Given (w : List ℕ) (d : ℕ) : Type 0 where
  pub some : 0 < length w
  pub few : length w ≤ last_row
  pub binary : Binary w
  pub dense : d ≤ length w

-- the entry of m / (j + 1) symbols where j + 1 divides m and e, and 0 elsewhere
abbrev pub named : List ℕ → ℕ → ℕ → ℕ → ℕ
named t m e j = commonly m e (λ k. get_or t (m / suc k) 0) j

-- what the Lyndon words of m / (j + 2) symbols take from the rows of m symbols and density e
abbrev pub taken : List ℕ → ℕ → ℕ → ℕ → ℕ
taken t m e j = commonly m e (λ k. m / suc k * get_or t (m / suc k) 0) (suc j)

-- entry q, for each divisor q of w's length below l, is the number of Lyndon words whose power is at or below w, at the
-- density that fits
abbrev pub Known : List ℕ → List ℕ → ℕ → ℕ → Type 0
Known t w d l = (k q c : ℕ) → k * q ≡ length w → k * c ≡ d → q < l → get_or t q 0 ≡ lyndon_below (length w) w q c
