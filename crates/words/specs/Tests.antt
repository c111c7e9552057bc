-- Tests over numbers and over lists of rows, that compute.
use Rattle.std.specs.Prelude.{Bool, true, false, cond, ◌&&◌, ◌||◌, List, [], ◌∷◌, ℕ, zero, suc, eqb}

-- the test holds at 0, 1, .., n - 1
unfoldable pub all_below : ℕ → (ℕ → Bool) → Bool
all_below zero test = true
all_below (suc n) test = test n && all_below n test

-- the test holds at some of 0, 1, .., n - 1
unfoldable pub some_below : ℕ → (ℕ → Bool) → Bool
some_below zero test = false
some_below (suc n) test = test n || some_below n test

-- the first of k, k + 1, .., k + f at which the test holds; where it holds at none of them, k + f
unfoldable pub first_from : ℕ → ℕ → (ℕ → Bool) → ℕ
first_from zero k test = k
first_from (suc f) k test = let later = first_from f (suc k) test in cond (test k) k later

-- the rows of a list that pass a test, in their order
unfoldable pub keep : (List ℕ → Bool) → List (List ℕ) → List (List ℕ)
keep test [] = []
keep test (w ∷ ws) = let rest = keep test ws in cond (test w) (w ∷ rest) rest

-- some row of a list passes a test
unfoldable pub any : (List ℕ → Bool) → List (List ℕ) → Bool
any test [] = false
any test (w ∷ ws) = test w || any test ws

-- w begins with p
unfoldable pub is_prefix : List ℕ → List ℕ → Bool
is_prefix [] w = true
is_prefix (x ∷ p) [] = false
is_prefix (x ∷ p) (y ∷ w) = eqb x y && is_prefix p w
