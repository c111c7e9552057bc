-- A symbol that is tried at a place of the row.
use mathlib.Core.List.{List, [], ◌++◌, ◌∷◌}
use mathlib.Core.Path.{subst, ◌∙◌, ◌≡◌}
use Prim.Native.Nat.{suc, ℕ, ◌-◌, ◌<◌, ◌≤◌}
use native.Mathlib.Omega.{arith}
use lib.ListN.{get_or, length, length-set, set, take}
use lib.Seq.{get_or-set_same, get_or-take, length-take-le, set-get_or, set-set, take-set-le, take-suc-set, take-take}

-- what is asked, as the row holds it
pub asked : (row : List ℕ) (p b : ℕ) → 0 < p → p ≤ length row → take p (set row (p - 1) b) ≡ take (p - 1) row ++ (b ∷ [])
asked row p b h l = let e : suc (p - 1) ≡ p = omega arith in subst (λ t. take t (set row (p - 1) b) ≡ take (p - 1) row ++ (b ∷ [])) e (take-suc-set row (p - 1) b (omega arith))

module _ (row : List ℕ) (p b : ℕ) where
  pub tried_length : p ≤ length row → length (take p (set row (p - 1) b)) ≡ p
  tried_length l = length-take-le p (set row (p - 1) b) (rw length-set l)

  module _ (h : 0 < p) (l : p ≤ length row) where
    -- all before the symbol that is tried
    pub tried_front : take (length (take p (set row (p - 1) b)) - 1) (take p (set row (p - 1) b)) ≡ take (p - 1) row
    tried_front = rw (tried_length l) (take-take (p - 1) p (set row (p - 1) b) (omega arith) ∙ take-set-le (p - 1) row (p - 1) b (omega arith))

    -- and it
    pub tried_last : get_or (take p (set row (p - 1) b)) (length (take p (set row (p - 1) b)) - 1) 0 ≡ b
    tried_last = rw (tried_length l) (get_or-take p (set row (p - 1) b) (p - 1) 0 (omega arith) ∙ get_or-set_same row (p - 1) b 0 (omega arith))

-- a symbol cleared and put back
pub put_back : (row : List ℕ) (q : ℕ) → get_or row q 0 ≡ 1 → set (set row q 0) q 1 ≡ row
put_back row q e = set-set row q 0 1 ∙ rw (← e) (set-get_or row q 0)
