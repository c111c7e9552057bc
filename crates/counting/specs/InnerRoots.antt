-- Rows and Lyndon words of m symbols whose power of n symbols is at or below a row, by enumeration. Not of document 01: what inner
-- functions compute.
use Rattle.std.specs.Prelude.{List, ℕ, ◌*◌, ◌/◌, length}
use Rattle.counting.specs.InnerSums.{flag, has_density, total}
use Rattle.density.specs.Density.{all_rows}
use Rattle.words.proofs.Power.{power}
use Rattle.words.specs.Order.{le, lt}
use Rattle.words.specs.Rotation.{is_lyndon, least_rotation}

-- a weight summed over the Lyndon words of m symbols and density e
unfoldable pub lyndon_sum : (List ℕ → ℕ) → ℕ → ℕ → ℕ
lyndon_sum f m e = total (λ u. flag (is_lyndon u) * (flag (has_density e u) * f u)) (all_rows m)

-- the Lyndon words u of m symbols and density e whose power of n symbols is at or below w
unfoldable pub lyndon_below : ℕ → List ℕ → ℕ → ℕ → ℕ
lyndon_below n w m e = lyndon_sum (λ u. flag (le (power (n / m) u) w)) m e

-- the rows of m symbols and density e whose least rotation has a power of n symbols at or below w
unfoldable pub rows_below : ℕ → List ℕ → ℕ → ℕ → ℕ
rows_below n w m e = total (λ x. flag (has_density e x) * flag (le (power (n / m) (least_rotation x)) w)) (all_rows m)

-- the rows of as many symbols as v, of density e, all of whose rotations are above v
unfoldable pub rows_above : List ℕ → ℕ → ℕ
rows_above v e = total (λ x. flag (has_density e x) * flag (lt v (least_rotation x))) (all_rows (length v))
