-- Lists of rows that fall, and the highest row of a list.
use Rattle.std.specs.Prelude.{Bool, true, ◌≡◌, ℕ}
use mathlib.Core.List.{List, Memᴰ, [], ◌∷◌}
use Rattle.words.specs.Order.{le, lt}

-- each row lies below all that stand before it, so none stands there twice
pub data Falling : List (List ℕ) → Type 0 where
  falls_none : Falling []
  falls_from : {w : List ℕ} {l : List (List ℕ)} → ((v : List ℕ) → Memᴰ v l → lt v w ≡ true) → Falling l → Falling (w ∷ l)

-- r is the highest row of a list that passes a test
pub record Highest (p : List ℕ → Bool) (l : List (List ℕ)) (r : List ℕ) : Type 0 where
  pub member : Memᴰ r l
  pub passes : p r ≡ true
  pub most : (v : List ℕ) → Memᴰ v l → p v ≡ true → le v r ≡ true
