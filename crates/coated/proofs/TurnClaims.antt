-- The claims on the signed turn hold.
use mathlib.Core.Bool.{true}
use mathlib.Core.List.{List, reverse}
use mathlib.Core.Logic.{◌↔◌, ◌⊎◌}
use mathlib.Core.Path.{ap, refl, subst, sym, ◌∙◌, ◌≡◌}
use Prim.Native.Nat.{suc, zero, ℕ, ◌+◌, ◌<◌, ◌≤◌}
use native.Mathlib.Nat.{zero-mod}
use native.Mathlib.Omega.{arith}
use lib.IntN.{ℤ, nat_abs, negsuc, neg_ℤ, pos}
use lib.ListN.{length, length-reverse}
use Rattle.coated.proofs.SignedTurns.{nearest_is, nearest_one}
use Rattle.coated.proofs.TurnsBack.{back_opposite, back_same, half_tied, never_tied, over_back, tied_half}
use Rattle.coated.specs.Claims.{Nearest, NearestTurn, OverBack, TurnBack, TurnTied, TurnZero}
use Rattle.coated.specs.Fitting.{nearest_turn, rotation_by, turns_to}
use Rattle.words.proofs.OrderTests.{same→, →same}
use Rattle.words.proofs.Reversal.{over_sym}
use Rattle.words.proofs.RotationAgain.{rotation_sym}
use Rattle.words.proofs.Rotations.{rotation-length, rotation_zero}
use Rattle.words.specs.Rotation.{IsRotation, period, rotation}

pub nearest_turn_is : NearestTurn
nearest_turn_is a b r = let m = nearest_is a b r in (m, λ s n. nearest_one a b s (nearest_turn a b) n m)

pub some : {a b : List ℕ} → IsRotation a b → 0 < length a
some r = omega (arith, r.inside)

pub turn_zero : TurnZero
turn_zero a b r = (λ e. sym (rotation_zero a) ∙ from e, go (nearest_turn a b) (nearest_is a b r))
  where
    from : nearest_turn a b ≡ pos 0 → rotation 0 a ≡ b
    from e = ap (λ j. rotation j a) (sym (zero-mod (length a)))
        ∙ subst (λ s. rotation_by s a ≡ b) e (nearest_is a b r).gives

    go : (s : ℤ) → Nearest a b s → a ≡ b → s ≡ pos 0
    go s m q = least s (m.nearest (pos 0) (ap (λ j. rotation j a) (zero-mod (length a)) ∙ rotation_zero a ∙ q))
      where
        least : (s : ℤ) → nat_abs s ≤ 0 → s ≡ pos 0
        least (pos zero) h = refl
        least (pos (suc k)) h = absurd (omega arith)
        least (negsuc k) h = absurd (omega arith)

pub turn_back : TurnBack
turn_back a b r =
    let m = nearest_is a b r in
    let back = nearest_is b a (rotation_sym r) in (
      λ e. nearest_one b a (nearest_turn b a) (neg_ℤ (nearest_turn a b)) back
          (back_opposite a b (some r) (nearest_turn a b) m e),
      λ e. nearest_one b a (nearest_turn b a) (nearest_turn a b) back (back_same a b (some r) (nearest_turn a b) m e),
    )

pub turn_tied : TurnTied
turn_tied a b r = go (nearest_turn a b) (nearest_is a b r)
  where
    go : (s : ℤ) → Nearest a b s → (turns_to a b (neg_ℤ s) ≡ true) ↔ ((nat_abs s ≡ 0) ⊎ (nat_abs s + nat_abs s ≡ period a))
    go (pos k) m = (
      λ e. tied_half a b (some r) k m (same→ (rotation_by (neg_ℤ (pos k)) a) b e),
      λ x. →same (rotation_by (neg_ℤ (pos k)) a) b (half_tied a b (some r) k m x),
    )
    go (negsuc k) m = (
      λ e. absurd (m.positive k refl (same→ (rotation_by (pos (suc k)) a) b e)),
      λ x. absurd (never_tied a b (some r) k m x),
    )

-- ---- turning over

-- the rows have one length
sizes : (a : List ℕ) {b : List ℕ} → IsRotation (reverse a) b → (0 < length a) × (length b ≡ length a)
sizes a {b} r = let l = length-reverse a in
    (omega (arith, r.inside), ap length r.is ∙ rotation-length r.by (reverse a) ∙ l)

pub over_is_back : OverBack
over_is_back a b r =
    let l = sizes a r in
    nearest_one (reverse b) a (nearest_turn (reverse b) a) (nearest_turn (reverse a) b)
    (nearest_is (reverse b) a (over_sym r))
    (over_back a b (nearest_turn (reverse a) b) l.0 (omega (arith, l)) (nearest_is (reverse a) b r))
