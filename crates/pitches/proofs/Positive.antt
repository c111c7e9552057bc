-- Lists without a pitch of 0.
use mathlib.Core.List.{List, [], ◌∷◌}
use mathlib.Core.Path.{refl, ◌≡◌}
use Prim.Native.Nat.{suc, zero, ℕ, ◌<◌}
use native.Mathlib.Omega.{arith}
use lib.Dec.{eqb}
use lib.ListN.{get_or, length, take}
use borrow.Author.Tests.{eqb-false, eqb-true, ne_eqb}
use Rattle.words.proofs.FirstPlaces.{Decides, none-later}
use Rattle.words.specs.Symbols.{first_where}
use Rattle.pitches.specs.Pitches.{first_zero, pitches_from}

pub zero_decided : Decides (λ p. eqb p 0) (λ p. p ≡ 0)
zero_decided p = (λ e. eqb-true p 0 e, λ e. eqb-false p 0 e)

pub data Positive : List ℕ → Type 0 where
  none : Positive []
  more : {c : ℕ} {pitches : List ℕ} → Positive pitches → Positive (suc c ∷ pitches)

pub no_zero : (pitches : List ℕ) → first_zero pitches ≡ 0 → Positive pitches
unfolding first_zero first_where
no_zero [] e = none
no_zero (zero ∷ pitches) e = absurd (omega arith)
no_zero (suc c ∷ pitches) e = more (no_zero pitches (none-later _ (rw (ne_eqb (suc c) 0 (λ z. omega arith)) at e)))

pub positive_no_zero : {pitches : List ℕ} → Positive pitches → first_zero pitches ≡ 0
unfolding first_zero first_where
positive_no_zero none = refl
positive_no_zero (more {c} v) = rw (ne_eqb (suc c) 0 (λ z. omega arith), positive_no_zero v)

pub positive_at : {pitches : List ℕ} → Positive pitches → (k : ℕ) → k < length pitches → 0 < get_or pitches k 0
positive_at none k h = absurd (omega arith)
positive_at (more v) zero h = omega arith
positive_at (more v) (suc k) h = positive_at v k (omega arith)

pub positive_take : (k : ℕ) {pitches : List ℕ} → Positive pitches → Positive (take k pitches)
positive_take zero v = none
positive_take (suc k) none = none
positive_take (suc k) (more v) = more (positive_take k v)

-- the pitches of a row
pub row_positive : (z : ℕ) (w : List ℕ) → Positive (pitches_from z w)
unfolding pitches_from
row_positive z [] = none
row_positive z (zero ∷ w) = row_positive (suc z) w
row_positive z (suc x ∷ w) = more (row_positive 0 w)
