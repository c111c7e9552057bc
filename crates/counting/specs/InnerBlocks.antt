-- The rows all of whose rotations are above a row v that begins a necklace, counted by blocks: v cut before a 0, and a 1 behind it. Not of
-- document 01: what an inner function computes.
use Rattle.std.specs.Prelude.{List, [], ◌∷◌, ℕ, zero, suc, ◌+◌, ◌*◌, length}

-- sequences of blocks of l symbols and density g whose first block goes through r, an end of v; F counts the others
unfoldable pub first_block : (ℕ → ℕ → ℕ) → ℕ → ℕ → List ℕ → ℕ
first_block F zero g r = 0
first_block F (suc l) g [] = 0
first_block F (suc l) zero (zero ∷ r) = first_block F l zero r
first_block F (suc l) (suc g) (zero ∷ r) = F l g + first_block F l (suc g) r
first_block F (suc l) zero (suc c ∷ r) = 0
first_block F (suc l) (suc g) (suc c ∷ r) = first_block F l g r

-- the empty sequence: no symbols, density 0
unfoldable pub no_blocks : ℕ → ℕ → ℕ
no_blocks zero zero = 1
no_blocks zero (suc g) = 0
no_blocks (suc l) g = 0

-- the sequences of blocks of l symbols and density g, at most f blocks
unfoldable pub chains : List ℕ → ℕ → ℕ → ℕ → ℕ
chains v zero l g = no_blocks l g
chains v (suc f) l g = no_blocks l g + first_block (λ k h. chains v f k h) l g v

-- the rows above v: the block that runs over a row's beginning has s + 1 symbols or more, and lies there in as many ways as it has symbols.
-- s symbols of v are passed, r is to come, and the density is still e
unfoldable pub above_from : (ℕ → ℕ → ℕ) → ℕ → ℕ → List ℕ → ℕ
above_from F s e [] = 0
above_from F s zero (zero ∷ r) = above_from F (suc s) zero r
above_from F s (suc e) (zero ∷ r) = suc s * F (length r) e + above_from F (suc s) (suc e) r
above_from F s zero (suc c ∷ r) = 0
above_from F s (suc e) (suc c ∷ r) = above_from F (suc s) e r
