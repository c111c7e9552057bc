-- The answer as plain facts: it fits, and no other does.
use mathlib.Core.Bool.{Bool, false, true, true≢false}
use mathlib.Core.List.{List, reverse}
use mathlib.Core.Path.{ap, refl, subst, sym, ◌∙◌, ◌≡◌}
use Prim.Native.Nat.{ℕ, ◌<◌}
use native.Mathlib.Omega.{arith}
use lib.IntN.{ℤ}
use lib.ListN.{length, length-reverse}
use Rattle.coated.proofs.SignedTurns.{gives_rotation, nearest_is, nearest_one, rotates_to→, →rotates_to}
use Rattle.coated.specs.Claims.{FitsAs, FitsExactly, Nearest}
use Rattle.coated.specs.Fitting.{Fit, Way, both, different, fit_by, fit_of, nearest_turn, over, rotates_to, turning}
use Rattle.words.proofs.Booleans.{never}
use Rattle.words.specs.Rotation.{IsRotation}

module _ (a b : List ℕ) (h : 0 < length a) where
  none : (w : List ℕ) → (IsRotation w b → ⊥) → rotates_to w b ≡ false
  none w f = never (rotates_to w b) (λ e. f (rotates_to→ w b e))

  none→ : (w : List ℕ) → rotates_to w b ≡ false → IsRotation w b → ⊥
  none→ w e r = true≢false (sym (→rotates_to r) ∙ e)

  -- a nearest turn is the one that the definition gives
  near : (w : List ℕ) (s : ℤ) → 0 < length w → Nearest w b s → (rotates_to w b ≡ true) × (s ≡ nearest_turn w b)
  near w s l m = let r = gives_rotation w b s l m.gives in
      (→rotates_to r, nearest_one w b s (nearest_turn w b) m (nearest_is w b r))

  turned : 0 < length (reverse a)
  turned = omega (arith, length-reverse a)

  fits : (x y : Bool) → rotates_to a b ≡ x → rotates_to (reverse a) b ≡ y
      → let f = fit_by x y (nearest_turn a b) (nearest_turn (reverse a) b) in FitsAs a b f.way f.turn
  fits false false e f = (none→ a e, none→ (reverse a) f, refl)
  fits true false e f = (nearest_is a b (rotates_to→ a b e), none→ (reverse a) f)
  fits false true e f = (none→ a e, nearest_is (reverse a) b (rotates_to→ (reverse a) b f))
  fits true true e f = (nearest_is a b (rotates_to→ a b e), rotates_to→ (reverse a) b f)

  by_tests : (x y : Bool) → rotates_to a b ≡ x → rotates_to (reverse a) b ≡ y
      → fit_of a b ≡ fit_by x y (nearest_turn a b) (nearest_turn (reverse a) b)
  unfolding fit_of
  by_tests x y e f = rw (e, f)

  abbrev fit : Way → ℤ → Fit
  fit way turn = record { way = way; turn = turn }

  one : (way : Way) (turn : ℤ) → FitsAs a b way turn → fit way turn ≡ fit_of a b
  one different turn k = ap (fit different) k.2
      ∙ sym (by_tests false false (none a k.0) (none (reverse a) k.1))
  one turning turn k = let m = near a turn h k.0 in ap (fit turning) m.1
      ∙ sym (by_tests true false m.0 (none (reverse a) k.1))
  one over turn k = let m = near (reverse a) turn turned k.1 in ap (fit over) m.1
      ∙ sym (by_tests false true (none a k.0) m.0)
  one both turn k = let m = near a turn h k.0 in ap (fit both) m.1
      ∙ sym (by_tests true true m.0 (→rotates_to k.1))

pub fits_exactly : FitsExactly
unfolding fit_of
fits_exactly a b h f = (
  one a b h f.way f.turn,
  λ e. subst (λ g. FitsAs a b g.way g.turn) (sym e)
      (fits a b h (rotates_to a b) (rotates_to (reverse a) b) refl refl),
)
