-- The claims on rows hold.
use mathlib.Core.Bool.{Bool, and-eq-true_iff, false, true}
use mathlib.Core.List.{List, [], reverse-reverse, ◌∷◌}
use mathlib.Core.Path.{refl, sym, ◌∙◌, ◌≡◌}
use Prim.Native.Nat.{suc, zero, ℕ, ◌<◌, ◌≤◌}
use native.Mathlib.Omega.{arith}
use lib.Dec.{eqb, leb}
use lib.ListN.{length}
use borrow.Author.Tests.{eq-eqb, eqb-true}
use Rattle.words.proofs.Below.{≺_irrefl}
use Rattle.words.proofs.Bounded.{all_below→, →all_below}
use Rattle.words.proofs.FirstPlaces.{first_tells}
use Rattle.words.proofs.LeastRotation.{least_index_lem, least_necklace, least_same, same_least}
use Rattle.words.proofs.OrderTests.{→le}
use Rattle.words.proofs.Periods.{lyndon_test, period_of}
use Rattle.words.proofs.Reversal.{rotation-reverse}
use Rattle.words.proofs.Rotations.{rotation_seam, →is_necklace}
use Rattle.words.proofs.TurnedKey.{key_low, key_necklace, key_one_ring, key_ring, ring_key}
use Rattle.words.proofs.Wrong.{other_decided, wrong_or_right}
use Rattle.words.specs.Claims.{FirstOther, KeyShelved, LeastTurn, LeastTurned, OneKey, OneTurnedKey, PlaceOfFirst, ReversedTwice, Shelved, SmallestPeriod, SmallestTurn, SymmetryByPeriod, TurnReads, TurnedShelved, TurnsReversed, WithoutSymmetry}
use Rattle.words.specs.Order.{le, lt}
use Rattle.words.specs.Reversal.{turned_key}
use Rattle.words.specs.Rotation.{is_lyndon, is_necklace, least_index, least_rotation, period, rotation}
use Rattle.words.specs.Symbols.{first_wrong}
use Rattle.words.specs.Tests.{all_below}

-- ---- turns

pub turn_reads : TurnReads
turn_reads = rotation_seam

pub shelved : Shelved
unfolding is_necklace
shelved w = (all_below→ (length w) (λ j. le w (rotation j w)), →all_below (length w) (λ j. le w (rotation j w)))

pub without_symmetry : WithoutSymmetry
unfolding is_lyndon
without_symmetry [] h = absurd (omega arith)
without_symmetry (x ∷ w) h = (turns, λ f. →all_below (length w) test (λ j l. f (suc j) (omega arith) (omega arith)))
  where
    test : ℕ → Bool
    test j = lt (x ∷ w) (rotation (suc j) (x ∷ w))

    turns : all_below (length w) test ≡ true → (j : ℕ) → 1 ≤ j → j < length (x ∷ w) → lt (x ∷ w) (rotation j (x ∷ w)) ≡ true
    turns e zero s l = absurd (omega arith)
    turns e (suc j) s l = all_below→ (length w) test e j (omega arith)

pub smallest_period : SmallestPeriod
smallest_period w h = let p = period_of w h in (p.low, p.high, p.back, p.before)

pub symmetry_by_period : SymmetryByPeriod
symmetry_by_period w h = (
  λ e.
      let b = (and-eq-true_iff (is_necklace w) (eqb (period w) (length w))).0 (sym (lyndon_test w h) ∙ e) in
      (b.0, eqb-true (period w) (length w) b.1),
  λ b. lyndon_test w h ∙ (and-eq-true_iff (is_necklace w) (eqb (period w) (length w))).1 (b.0, eq-eqb (period w) (length w) b.1),
)

pub least_turn : LeastTurn
unfolding least_rotation
least_turn w j l = →le (rotation (least_index w) w) (rotation j w) ((least_index_lem w (omega arith)).low j l)

pub smallest_turn : SmallestTurn
unfolding least_rotation
smallest_turn w h = let i = least_index_lem w h in (i.inside, refl, λ j l e. ≺_irrefl (rw e at (i.first j l)))

-- ---- keys

pub key_shelved : KeyShelved
key_shelved w h = →is_necklace (least_rotation w) (least_necklace w h)

pub one_key : OneKey
one_key v w h k = (same_least k h, least_same k)

-- ---- turning over

pub reversed_twice : ReversedTwice
reversed_twice w = reverse-reverse w

pub turns_reversed : TurnsReversed
turns_reversed w j h = rotation-reverse w j h

pub least_turned : LeastTurned
least_turned w h = (key_ring w h, λ v r. →le (turned_key w) v (key_low w h r))

pub turned_shelved : TurnedShelved
turned_shelved w h = →is_necklace (turned_key w) (key_necklace w h)

pub one_turned_key : OneTurnedKey
one_turned_key v w h k = (key_one_ring k h, ring_key k)

-- ---- symbols

pub place_of_first : PlaceOfFirst
place_of_first k w = wrong_or_right k w

-- the test of the operations
pub other_tells : (k : ℕ) (w : List ℕ) → (eqb (first_wrong k w) 0 ≡ false → FirstOther k w (first_wrong k w)) × (eqb (first_wrong k w) 0 ≡ true → FirstOther k w (first_wrong k w) → ⊥)
unfolding first_wrong
other_tells k w = first_tells (λ x. leb k x) (λ x. k ≤ x) (other_decided k) w
