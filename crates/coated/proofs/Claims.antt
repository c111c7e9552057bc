-- The claims on how one row fits another hold.
use mathlib.Core.Bool.{Bool, false, true}
use mathlib.Core.List.{List, reverse}
use mathlib.Core.Logic.{inl, inr, ◌↔◌, ◌⊎◌}
use mathlib.Core.Path.{ap₂, refl, subst, sym, ◌∙◌, ◌≡◌}
use Prim.Native.Nat.{suc, ℕ, ◌+◌, ◌-◌, ◌/◌, ◌<◌, ◌≤◌}
use native.Mathlib.Nat.{div-add-mod', mod-lt}
use native.Mathlib.Omega.{arith}
use lib.IntN.{ℤ, negsuc, pos}
use lib.ListN.{length, length-reverse}
use Rattle.coated.proofs.FitLaws.{different_iff, is_different, over_iff, turning_iff, way_by}
use Rattle.coated.proofs.SignedTurns.{nearest_down, nearest_is, nearest_up, rotates_to→, →rotates_to}
use Rattle.coated.proofs.TurnClaims.{some}
use Rattle.coated.specs.Answers.{fit_verdict}
use Rattle.coated.specs.Claims.{Allowed, DifferentExactly, FitRefusals, Nearest, OneRingExactly, OverExactly, SameWay, TurnAllowed, TurningExactly}
use Rattle.coated.specs.Fitting.{fit_by, fit_of, nearest_turn, rotates_to}
use Rattle.refusal.proofs.Conditions.{chain_first, equal_tells, passed, stations_tell, test}
use Rattle.words.proofs.Booleans.{same_test}
use Rattle.words.proofs.Claims.{one_key, one_turned_key, other_tells}
use Rattle.words.proofs.Reversal.{over_sym}
use Rattle.words.proofs.RotationAgain.{rotation_sym}
use Rattle.words.specs.Reversal.{SameRing}
use Rattle.words.specs.Rotation.{IsRotation, least_rotation}

pub fit_refusals : FitRefusals
unfolding fit_verdict
fit_refusals a b =
    chain_first (test _ (stations_tell (length a))
    (λ h. test _ (equal_tells (length b) (length a))
    (λ l. test _ (other_tells 2 a) (λ f. test _ (other_tells 2 b) (λ g. passed)))))

-- ---- the range of the turn

halved : (k n : ℕ) → k + k ≤ n → k ≤ n / 2
halved k n h = omega (arith, div-add-mod' n 2, mod-lt n {m = 2} (omega arith))

nearest_allowed : (a b : List ℕ) → IsRotation a b → Allowed (length a) (nearest_turn a b)
nearest_allowed a b r = go (nearest_turn a b) (nearest_is a b r)
  where
    go : (s : ℤ) → Nearest a b s → Allowed (length a) s
    go (pos k) m = halved k (length a) (nearest_up a b k (some r) m)
    go (negsuc k) m = halved (suc k) (length a - 1) (omega (arith, nearest_down a b k (some r) m))

pub turn_allowed : TurnAllowed
unfolding fit_of
turn_allowed a b = go (rotates_to a b) (rotates_to (reverse a) b) refl refl
  where
    go : (x y : Bool) → rotates_to a b ≡ x → rotates_to (reverse a) b ≡ y
        → Allowed (length a) (fit_by x y (nearest_turn a b) (nearest_turn (reverse a) b)).turn
    go false false e f = omega arith
    go true false e f = nearest_allowed a b (rotates_to→ a b e)
    go false true e f = subst (λ n. Allowed n (nearest_turn (reverse a) b)) (length-reverse a)
        (nearest_allowed (reverse a) b (rotates_to→ (reverse a) b f))
    go true true e f = nearest_allowed a b (rotates_to→ a b e)

-- ---- the four answers

pub one_ring_exactly : OneRingExactly
unfolding fit_of
one_ring_exactly a b =
    let tests = different_iff (rotates_to a b) (rotates_to (reverse a) b) (nearest_turn a b) (nearest_turn (reverse a) b) in
    (λ f. some_turn (tests.0 f), λ r. tests.1 (turn_some r))
  where
    some_turn : (rotates_to a b ≡ true) ⊎ (rotates_to (reverse a) b ≡ true) → SameRing a b
    some_turn (inl e) = inl (rotates_to→ a b e)
    some_turn (inr e) = inr (rotates_to→ (reverse a) b e)

    turn_some : SameRing a b → (rotates_to a b ≡ true) ⊎ (rotates_to (reverse a) b ≡ true)
    turn_some (inl r) = inl (→rotates_to r)
    turn_some (inr r) = inr (→rotates_to r)

pub different_exactly : DifferentExactly
different_exactly a b h l =
    let key = one_turned_key b a l h in
    let ring = one_ring_exactly a b in
    (λ e t. ring.1 (key.0 (sym t)) e, λ f. is_different (fit_of a b).way (λ g. f (sym (key.1 (ring.0 g)))))

-- a row has a turn that is the other exactly where they have one key
turn_keys : (a b : List ℕ) → 0 < length a → 0 < length b → (rotates_to a b ≡ true) ↔ (least_rotation a ≡ least_rotation b)
turn_keys a b h l = let key = one_key b a l h in
    (λ e. sym (key.1 (rotates_to→ a b e)), λ e. →rotates_to (key.0 (sym e)))

pub turning_exactly : TurningExactly
unfolding fit_of
turning_exactly a b h l =
    let tests = turning_iff (rotates_to a b) (rotates_to (reverse a) b) (nearest_turn a b) (nearest_turn (reverse a) b) in
    let key = turn_keys a b h l in
    (λ e. key.0 (tests.0 e), λ e. tests.1 (key.1 e))

pub over_exactly : OverExactly
unfolding fit_of
over_exactly a b h l =
    let tests = over_iff (rotates_to a b) (rotates_to (reverse a) b) (nearest_turn a b) (nearest_turn (reverse a) b) in
    let key = turn_keys (reverse a) b (omega (arith, length-reverse a)) l in
    (λ e. key.0 (tests.0 e), λ e. tests.1 (key.1 e))

pub same_way : SameWay
unfolding fit_of
same_way a b =
    ap₂ (λ x y. (fit_by x y (nearest_turn b a) (nearest_turn (reverse b) a)).way)
    (same_test (rotates_to b a) (rotates_to a b) (λ e. →rotates_to (rotation_sym (rotates_to→ b a e)))
    (λ e. →rotates_to (rotation_sym (rotates_to→ a b e))))
    (same_test (rotates_to (reverse b) a) (rotates_to (reverse a) b)
    (λ e. →rotates_to (over_sym (rotates_to→ (reverse b) a e)))
    (λ e. →rotates_to (over_sym (rotates_to→ (reverse a) b e))))
    ∙ way_by (rotates_to a b) (rotates_to (reverse a) b) (nearest_turn b a) (nearest_turn (reverse b) a) (nearest_turn a b)
    (nearest_turn (reverse a) b)
