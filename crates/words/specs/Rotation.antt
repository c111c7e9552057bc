-- Rotations, necklaces, Lyndon words, the period and the least rotation, over any alphabet.
use Rattle.std.specs.Prelude.{Bool, cond, false, List, [], ◌∷◌, ◌++◌, ◌≡◌, ℕ, suc, pred, ◌<◌, length, take, drop}
use Rattle.words.specs.Order.{lt, le, same}
use Rattle.words.specs.Tests.{all_below, first_from}

-- "Turn j": reads from place j + 1 to the end, then places 1 to j.
unfoldable pub rotation : ℕ → List ℕ → List ℕ
rotation j w = drop j w ++ take j w

-- v is one of the turns of w
pub record IsRotation (w v : List ℕ) : Type 0 where
  pub by : ℕ
  pub inside : by < length w
  pub is : v ≡ rotation by w

-- "Shelved": at or below all its turns.
unfoldable pub is_necklace : List ℕ → Bool
is_necklace w = all_below (length w) (λ j. le w (rotation j w))

-- "Without symmetry": strictly below its turns 1 to n - 1. Rows of one symbol are.
unfoldable pub is_lyndon : List ℕ → Bool
is_lyndon [] = false
is_lyndon (x ∷ xs) = all_below (length xs) (λ j. lt (x ∷ xs) (rotation (suc j) (x ∷ xs)))

-- "Period": the smallest p from 1 to n whose turn gives the row back (turn n is the row itself).
unfoldable pub period : List ℕ → ℕ
period w = first_from (pred (length w)) 1 (λ p. same (rotation p w) w)

-- the period of a necklace, and 0 for a row that is none: both in one number
unfoldable pub necklace_period : List ℕ → ℕ
necklace_period w = cond (is_necklace w) (period w) 0

-- turn j lies at or below all turns
unfoldable pub is_least_at : List ℕ → ℕ → Bool
is_least_at w j = all_below (length w) (λ i. le (rotation j w) (rotation i w))

-- The smallest j that gives the key.
unfoldable pub least_index : List ℕ → ℕ
least_index w = first_from (pred (length w)) 0 (is_least_at w)

-- "Key": the least turn.
unfoldable pub least_rotation : List ℕ → List ℕ
least_rotation w = rotation (least_index w) w
