-- Sums over lists, and tests as numbers. Not of document 01: what the laws of counting are said in.
use Rattle.std.specs.Prelude.{Bool, true, false, List, [], ◌∷◌, ℕ, zero, suc, ◌+◌, ◌*◌, ◌%◌, eqb}
use Rattle.density.specs.Density.{density}

-- f summed over a list
unfoldable pub total : {A : Type 0} → (A → ℕ) → List A → ℕ
total f [] = 0
total f (x ∷ l) = f x + total f l

-- a test as a number
abbrev pub flag : Bool → ℕ
flag true = 1
flag false = 0

-- a row has density d
abbrev pub has_density : ℕ → List ℕ → Bool
has_density d w = eqb (density w) d

-- the numbers below n, falling
unfoldable pub upto : ℕ → List ℕ
upto zero = []
upto (suc n) = n ∷ upto n

-- k divides n
abbrev pub divides : ℕ → ℕ → Bool
divides k n = eqb (n % k) 0

-- f k where k + 1 divides both n and d, and 0 elsewhere
abbrev pub commonly : ℕ → ℕ → (ℕ → ℕ) → ℕ → ℕ
commonly n d f k = flag (divides (suc k) n) * (flag (divides (suc k) d) * f k)
