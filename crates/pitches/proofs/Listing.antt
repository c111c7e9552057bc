-- The pitches of a row, symbol by symbol.
use mathlib.Core.List.{List, [], nil≢cons, ◌∷◌}
use mathlib.Core.Path.{ap, refl, ◌≡◌}
use Prim.Native.Nat.{suc, zero, ℕ, ◌-◌, ◌<◌}
use native.Mathlib.Omega.{arith}
use lib.Dec.{eqb}
use lib.ListN.{drop, get_or, length}
use Rattle.density.proofs.Binary.{Binary, empty, one∷, zero∷}
use Rattle.density.specs.Density.{density}
use Rattle.pitches.specs.Pitches.{ends_in_one, pitches_from}

pub pitches_zero : (z x : ℕ) (w : List ℕ) → x ≡ 0 → pitches_from z (x ∷ w) ≡ pitches_from (suc z) w
unfolding pitches_from
pitches_zero z zero w e = refl
pitches_zero z (suc x) w e = absurd (omega arith)

pub pitches_hole : (z x : ℕ) (w : List ℕ) → (x ≡ 0 → ⊥) → pitches_from z (x ∷ w) ≡ suc z ∷ pitches_from 0 w
unfolding pitches_from
pitches_hole z zero w e = absurd (e refl)
pitches_hole z (suc x) w e = refl

-- as many pitches as holes
pub pitches_count : {w : List ℕ} → Binary w → (z : ℕ) → length (pitches_from z w) ≡ density w
unfolding pitches_from density
pitches_count empty z = refl
pitches_count (zero∷ b) z = pitches_count b (suc z)
pitches_count (one∷ b) z = ap suc (pitches_count b 0)

-- a list of which k are passed, and the next is x
pub next_of : (e : List ℕ) (k x : ℕ) (r : List ℕ) → drop k e ≡ x ∷ r → (k < length e) × (get_or e k 0 ≡ x) × (drop (suc k) e ≡ r)
next_of [] zero x r h = absurd (nil≢cons h)
next_of [] (suc k) x r h = absurd (nil≢cons h)
next_of (y ∷ e) zero x r h = (omega arith, cc, cc)
next_of (y ∷ e) (suc k) x r h = let q = next_of e k x r h in (omega (arith, q.0), q.1, q.2)

-- ---- the last symbol

pub ends_at : (w : List ℕ) → 0 < length w → ends_in_one w ≡ eqb (get_or w (length w - 1) 0) 1
unfolding ends_in_one
ends_at [] h = absurd (omega arith)
ends_at (x ∷ []) h = refl
ends_at (x ∷ (y ∷ w)) h =
    let at : length (x ∷ (y ∷ w)) - 1 ≡ suc (length (y ∷ w) - 1) = omega arith in
    rw at (ends_at (y ∷ w) (omega arith))
