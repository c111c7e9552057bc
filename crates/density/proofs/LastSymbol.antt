-- A necklace that ends in 0 has no holes, and the rows of no holes.
use mathlib.Core.Bool.{Bool, false, true}
use mathlib.Core.List.{List, [], append-nil, ◌++◌, ◌∷◌}
use mathlib.Core.Logic.{inl, inr, ◌⊎◌}
use mathlib.Core.Path.{ap, refl, sym, ◌∙◌, ◌≡◌}
use Prim.Native.Nat.{suc, ℕ, ◌+◌}
use native.Mathlib.Omega.{arith}
use lib.ListN.{length, length-append}
use Rattle.density.proofs.Binary.{Binary, binary_front, empty, one∷, zero∷}
use Rattle.density.proofs.Members.{Member, begins→}
use Rattle.density.specs.Density.{density}
use Rattle.density.specs.Necklaces.{begins}
use Rattle.words.proofs.AtMost.{equal, lower, ◌≼◌}
use Rattle.words.proofs.Below.{here, there}
use Rattle.words.specs.Symbols.{zeros}

-- v 0 is not above 0 v only if v is all zeros
no_holes : {v : List ℕ} → Binary v → (v ++ (0 ∷ [])) ≼ (0 ∷ v) → density (v ++ (0 ∷ [])) ≡ 0
unfolding density
no_holes empty h = refl
no_holes (zero∷ b) (equal e) = no_holes b (equal (cc))
no_holes (zero∷ b) (lower (here h)) = absurd (omega arith)
no_holes (zero∷ b) (lower (there h)) = no_holes b (lower h)
no_holes (one∷ b) (equal e) = let z : ◌≡◌ {A = ℕ} 1 0 = cc in absurd (omega arith)
no_holes (one∷ b) (lower (here h)) = absurd (omega arith)

pub ends_zero : {n d : ℕ} (v : List ℕ) → Member n d (v ++ (0 ∷ [])) → d ≡ 0
ends_zero v i = sym i.count ∙ no_holes (binary_front v (0 ∷ []) i.binary) (i.least v (0 ∷ []) refl)

-- so with a hole, no ring is one symbol short of v 0
pub no_end : (n d : ℕ) (v : List ℕ) → length v + 1 ≡ n → begins n (suc d) (v ++ (0 ∷ [])) ≡ false
no_end n d v l = go (begins n (suc d) (v ++ (0 ∷ []))) refl
  where
    whole : (z : List ℕ) → Member n (suc d) ((v ++ (0 ∷ [])) ++ z) → ⊥
    whole [] i = let z = ends_zero v (rw append-nil at i) in omega arith
    whole (b ∷ z) i = omega (arith, i.long, length-append (v ++ (0 ∷ [])) (b ∷ z), length-append v (0 ∷ []))

    go : (b : Bool) → begins n (suc d) (v ++ (0 ∷ [])) ≡ b → begins n (suc d) (v ++ (0 ∷ [])) ≡ false
    go false e = e
    go true e = let s = begins→ n (suc d) (v ++ (0 ∷ [])) e in absurd (whole s.rest s.member)

-- the row of no holes
pub all_zeros : {x : List ℕ} → Binary x → density x ≡ 0 → x ≡ zeros (length x)
unfolding density
all_zeros empty e = refl
all_zeros (zero∷ b) e = ap {B = List ℕ} (λ t. 0 ∷ t) (all_zeros b e)
all_zeros (one∷ {w = w} b) e = absurd (omega arith)

-- a row of one symbol
pub last_bit : {b : ℕ} → Binary (b ∷ []) → (b ≡ 0) ⊎ (b ≡ 1)
last_bit (zero∷ c) = inl refl
last_bit (one∷ c) = inr refl
