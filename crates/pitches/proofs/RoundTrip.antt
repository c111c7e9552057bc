-- Both round trips of pitch lists, wherever they are defined.
use mathlib.Core.Bool.{Bool, false, false≢true, or-true, true, ◌||◌}
use mathlib.Core.List.{List, [], append-nil, ◌++◌, ◌∷◌}
use mathlib.Core.Path.{ap, refl, sym, ◌∙◌, ◌≡◌}
use Prim.Native.Nat.{suc, zero, ℕ, ◌+◌, ◌<◌}
use native.Mathlib.Nat.{add-zero, pos_of_ne-zero, zero-add}
use native.Mathlib.Omega.{arith}
use lib.Dec.{eqb}
use lib.ListN.{length, length-append}
use borrow.Author.Tests.{eq-eqb, eqb-false, eqb-true}
use Rattle.density.proofs.Binary.{Binary, binary_replicate, empty, one∷, zero∷}
use Rattle.density.specs.Density.{density}
use Rattle.density.specs.Blocks.{blocks}
use Rattle.pitches.proofs.Blocks.{blocks_binary, blocks-length}
use Rattle.pitches.proofs.Listing.{pitches_count}
use Rattle.pitches.proofs.Positive.{Positive, more, none}
use Rattle.pitches.proofs.Sums.{adds_none, adds_some, adds→}
use Rattle.pitches.specs.Pitches.{adds_up, ends_in_one, has_pitch_list, pitches_from, pitches_of_row, row_of_pitches}
use Rattle.words.proofs.Zeros.{zeros-length, zeros_round}
use Rattle.words.specs.Symbols.{zeros}

pitches_over_zeros : (m z : ℕ) (w : List ℕ) → pitches_from z (zeros m ++ w) ≡ pitches_from (z + m) w
unfolding pitches_from
pitches_over_zeros zero z w = rw add-zero
pitches_over_zeros (suc m) z w = pitches_over_zeros m (suc z) w ∙ ap (λ t. pitches_from t w) (omega arith)

pitches_of_blocks : {pitches : List ℕ} → Positive pitches → pitches_from 0 (blocks pitches) ≡ pitches
unfolding blocks pitches_from
pitches_of_blocks none = refl
pitches_of_blocks (more {c} {pitches} v) = pitches_over_zeros c 0 (1 ∷ blocks pitches) ∙ rw (pitches_of_blocks v, zero-add)

-- list to row to list, for every list without a pitch of 0
pub pitches_back : (n : ℕ) {pitches : List ℕ} → Positive pitches → pitches_of_row (row_of_pitches n pitches) ≡ pitches
unfolding pitches_of_row row_of_pitches pitches_from
pitches_back n none = ap (pitches_from 0) (sym (append-nil (zeros n))) ∙ pitches_over_zeros n 0 []
pitches_back n (more v) = pitches_of_blocks (more v)

-- ---- row to list to row

-- z zeros and a row that ends in a hole are the blocks of their pitches
blocks_of_pitches : {w : List ℕ} → Binary w → ends_in_one w ≡ true → (z : ℕ) → blocks (pitches_from z w) ≡ zeros z ++ w
unfolding blocks pitches_from ends_in_one
blocks_of_pitches empty e z = absurd (false≢true e)
blocks_of_pitches (zero∷ empty) e z = absurd (false≢true e)
blocks_of_pitches (zero∷ (zero∷ b)) e z = blocks_of_pitches (zero∷ b) e (suc z) ∙ zeros_round z _
blocks_of_pitches (zero∷ (one∷ b)) e z = blocks_of_pitches (one∷ b) e (suc z) ∙ zeros_round z _
blocks_of_pitches (one∷ empty) e z = refl
blocks_of_pitches (one∷ (zero∷ b)) e z = ap (λ r. zeros z ++ (1 ∷ r)) (blocks_of_pitches (zero∷ b) e 0)
blocks_of_pitches (one∷ (one∷ b)) e z = ap (λ r. zeros z ++ (1 ∷ r)) (blocks_of_pitches (one∷ b) e 0)

-- no hole: no pitch, and the row is zeros
no_pitches : {w : List ℕ} → Binary w → density w ≡ 0 → (z : ℕ) → (pitches_from z w ≡ []) × (w ≡ zeros (length w))
unfolding pitches_from density
no_pitches empty e z = (refl, refl)
no_pitches (zero∷ b) e z = let q = no_pitches b e (suc z) in (q.0, ap {B = List ℕ} (λ v. 0 ∷ v) q.1)
no_pitches (one∷ b) e z = absurd (omega arith)

-- an empty list, and one that is not
row_of_none : (n : ℕ) (pitches : List ℕ) → pitches ≡ [] → row_of_pitches n pitches ≡ zeros n
unfolding row_of_pitches
row_of_none n pitches e = rw e

pub row_of_some : (n : ℕ) (pitches : List ℕ) → 0 < length pitches → row_of_pitches n pitches ≡ blocks pitches
unfolding row_of_pitches
row_of_some n [] h = absurd (omega arith)
row_of_some n (p ∷ pitches) h = refl

-- row to list to row, for every row that has a pitch list; and that list adds up to its stations
pub row_back : {w : List ℕ} → Binary w → has_pitch_list w ≡ true → (row_of_pitches (length w) (pitches_of_row w) ≡ w) × (adds_up (length w) (pitches_of_row w) ≡ true)
unfolding pitches_of_row has_pitch_list
row_back {w} b e = go (eqb (density w) 0) refl e
  where
    n : ℕ
    n = length w

    list : List ℕ
    list = pitches_from 0 w

    go : (t : Bool) → eqb (density w) 0 ≡ t → (t || ends_in_one w) ≡ true → (row_of_pitches n list ≡ w) × (adds_up n list ≡ true)
    go true q e = let h = no_pitches b (eqb-true _ _ q) 0 in (row_of_none n list h.0 ∙ sym h.1, adds_none n list (ap length h.0))
    go false q e =
        let some : 0 < length list = omega (arith, pitches_count b 0, pos_of_ne-zero {n = density w} (eqb-false _ _ q)) in
        let back = blocks_of_pitches b e 0 in
        (row_of_some n list some ∙ back, adds_some n list some ∙ eq-eqb _ _ (sym (blocks-length list) ∙ ap length back))

-- the row of a list that adds up to n has n symbols, and is binary
pub row_length : (n : ℕ) (pitches : List ℕ) → adds_up n pitches ≡ true → length (row_of_pitches n pitches) ≡ n
unfolding row_of_pitches
row_length n [] e = zeros-length n
row_length n (p ∷ pitches) e = blocks-length (p ∷ pitches) ∙ adds→ n (p ∷ pitches) e (omega arith)

pub row_binary : (n : ℕ) (pitches : List ℕ) → Binary (row_of_pitches n pitches)
unfolding row_of_pitches
row_binary n [] = binary_replicate n 0 (omega arith)
row_binary n (p ∷ pitches) = blocks_binary (p ∷ pitches)

-- without a pitch of 0 it has a hole for each pitch
pub row_density : (n : ℕ) {pitches : List ℕ} → Positive pitches → density (row_of_pitches n pitches) ≡ length pitches
unfolding pitches_of_row
row_density n {pitches} v = sym (pitches_count (row_binary n pitches) 0) ∙ ap length (pitches_back n v)

-- and ends in one, or has none
ends_behind : (x : ℕ) (w : List ℕ) → 0 < length w → ends_in_one (x ∷ w) ≡ ends_in_one w
unfolding ends_in_one
ends_behind x [] h = absurd (omega arith)
ends_behind x (y ∷ w) h = refl

ends_over_zeros : (z : ℕ) (w : List ℕ) → ends_in_one (zeros z ++ (1 ∷ w)) ≡ ends_in_one (1 ∷ w)
ends_over_zeros zero w = refl
ends_over_zeros (suc z) w = ends_behind 0 (zeros z ++ (1 ∷ w)) (omega (arith, length-append (zeros z) (1 ∷ w))) ∙ ends_over_zeros z w

ends_blocks : {pitches : List ℕ} → Positive pitches → ends_in_one (1 ∷ blocks pitches) ≡ true
unfolding ends_in_one blocks
ends_blocks none = refl
ends_blocks (more {c} {pitches} v) =
    ends_behind 1 (zeros c ++ (1 ∷ blocks pitches)) (omega (arith, length-append (zeros c) (1 ∷ blocks pitches))) ∙ ends_over_zeros c (blocks pitches) ∙ ends_blocks v

pub row_ends : (n : ℕ) {pitches : List ℕ} → Positive pitches → has_pitch_list (row_of_pitches n pitches) ≡ true
unfolding has_pitch_list row_of_pitches blocks
row_ends n none = rw (eq-eqb (density (zeros n)) 0 (row_density n none))
row_ends n (more {c} {pitches} v) = rw (ends_over_zeros c (blocks pitches), ends_blocks v) (or-true (eqb (density (row_of_pitches n (suc c ∷ pitches))) 0))
