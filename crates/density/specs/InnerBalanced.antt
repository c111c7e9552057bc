-- The balanced row of n symbols and density d, the closed form of the top ring.
use Rattle.std.specs.Prelude.{List, [], ◌∷◌, ℕ, zero, suc, ◌-◌, ◌*◌, ◌/◌}

-- k symbols behind place i: the symbol at place i is floor(i d / n) - floor((i - 1) d / n)
unfoldable pub balanced_from : ℕ → ℕ → ℕ → ℕ → List ℕ
balanced_from n d i zero = []
balanced_from n d i (suc k) = (suc i * d / n - i * d / n) ∷ balanced_from n d (suc i) k

-- the whole row
abbrev pub balanced : ℕ → ℕ → List ℕ
balanced n d = balanced_from n d 0 n
