-- The blocks of a pitch list, one pitch after the other.
use mathlib.Core.List.{List, [], append_assoc, ◌++◌, ◌∷◌}
use mathlib.Core.Path.{ap, refl, sym, ◌∙◌, ◌≡◌}
use Prim.Native.Nat.{suc, zero, ℕ, ◌+◌, ◌-◌, ◌<◌}
use native.Mathlib.Omega.{arith}
use lib.ListN.{get_or, length, length-append, length-replicate, set, take}
use lib.Seq.{set_at, take-suc}
use Rattle.density.proofs.Binary.{Binary, binary_append, binary_replicate, empty, one∷}
use Rattle.density.specs.Blocks.{blocks}
use Rattle.words.proofs.Zeros.{zeros-append, zeros-length}
use Rattle.words.specs.Symbols.{sum, zeros}

pub blocks-append : (a b : List ℕ) → blocks (a ++ b) ≡ blocks a ++ blocks b
unfolding blocks
blocks-append [] b = refl
blocks-append (zero ∷ a) b = blocks-append a b
blocks-append (suc c ∷ a) b = rw (blocks-append a b) (sym (append_assoc (zeros c) (1 ∷ blocks a) (blocks b)))

pub blocks-length : (pitches : List ℕ) → length (blocks pitches) ≡ sum pitches
unfolding blocks sum
blocks-length [] = refl
blocks-length (zero ∷ pitches) = omega (arith, blocks-length pitches)
blocks-length (suc c ∷ pitches) = omega (arith, length-append (zeros c) (1 ∷ blocks pitches), zeros-length c, blocks-length pitches)

pub blocks_binary : (pitches : List ℕ) → Binary (blocks pitches)
unfolding blocks
blocks_binary [] = empty
blocks_binary (zero ∷ pitches) = blocks_binary pitches
blocks_binary (suc c ∷ pitches) = binary_append (binary_replicate c 0 (omega arith)) (one∷ (blocks_binary pitches))

-- ---- the writing of one block

-- one block more, of a pitch that is not 0
pub block_next : (pitches : List ℕ) (k : ℕ) → k < length pitches → 0 < get_or pitches k 0
    → blocks (take (suc k) pitches) ≡ blocks (take k pitches) ++ (zeros (get_or pitches k 0 - 1) ++ (1 ∷ []))
unfolding blocks
block_next pitches k h = go (get_or pitches k 0) (ap blocks (take-suc pitches k 0 h) ∙ blocks-append (take k pitches) (get_or pitches k 0 ∷ []))
  where
    go : (p : ℕ) → blocks (take (suc k) pitches) ≡ blocks (take k pitches) ++ blocks (p ∷ [])
        → 0 < p → blocks (take (suc k) pitches) ≡ blocks (take k pitches) ++ (zeros (p - 1) ++ (1 ∷ []))
    go zero e s = absurd (omega arith)
    go (suc c) e s = let zeros_of : suc c - 1 ≡ c = omega arith in rw zeros_of e

-- a hole behind g of m zeros
pub hole_behind : (b r : List ℕ) (m g : ℕ) → g < m → set (b ++ (zeros m ++ r)) (length b + g) 1 ≡ (b ++ (zeros g ++ (1 ∷ []))) ++ (zeros (m - (g + 1)) ++ r)
hole_behind b r m g h =
    let size : m ≡ g + suc (m - (g + 1)) = omega arith in
    let split : zeros m ≡ zeros g ++ (0 ∷ zeros (m - (g + 1))) = ap (λ t. zeros t) size ∙ sym (zeros-append g (suc (m - (g + 1)))) in
    let here-is : b ++ (zeros m ++ r) ≡ (b ++ zeros g) ++ (0 ∷ (zeros (m - (g + 1)) ++ r)) = rw split (simp append_assoc) in
    let at : length (b ++ zeros g) ≡ length b + g = rw (length-append, length-replicate) refl in
    ap (λ w. set w (length b + g) 1) here-is ∙ set_at (b ++ zeros g) 0 (zeros (m - (g + 1)) ++ r) 1 (length b + g) at ∙ simp append_assoc
