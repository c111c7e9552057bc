-- Reversal and rotation, and the rows of one ring that may be turned over.
use mathlib.Core.List.{List, reverse, reverse-append, reverse-reverse, ◌++◌}
use mathlib.Core.Logic.{inl, inr, ◌⊎◌}
use mathlib.Core.Path.{ap, subst, sym, ◌∙◌, ◌≡◌}
use Prim.Native.Nat.{ℕ, ◌-◌, ◌<◌, ◌≤◌}
use native.Mathlib.Omega.{arith}
use lib.ListN.{drop, length, length-drop, length-reverse, take, take-append-drop}
use Rattle.words.proofs.Below.{le_or}
use Rattle.words.proofs.RotationAgain.{rotation_self, rotation_sym, rotation_trans}
use Rattle.words.proofs.Rotations.{rotation-length, rotation_seam, rotation_zero}
use Rattle.words.specs.Reversal.{SameRing}
use Rattle.words.specs.Rotation.{IsRotation, rotation}

-- a rotation of the reverse is the reverse of a rotation
pub rotation-reverse : (w : List ℕ) (j : ℕ) → j ≤ length w → rotation j (reverse w) ≡ reverse (rotation (length w - j) w)
unfolding rotation
rotation-reverse w j h =
    let x = take (length w - j) w in
    let y = drop (length w - j) w in
    let size : length (reverse y) ≡ j = length-reverse y ∙ length-drop (length w - j) w ∙ omega arith in
    let parts : reverse w ≡ reverse y ++ reverse x = ap reverse (sym (take-append-drop (length w - j) w)) ∙ reverse-append x y in
    ap (λ i. rotation i (reverse w)) (sym size) ∙ ap (rotation (length (reverse y))) parts ∙ rotation_seam (reverse y) (reverse x) ∙ sym (reverse-append y x)

-- and the other way round
reverse-rotation : (w : List ℕ) (j : ℕ) → j ≤ length w → reverse (rotation j w) ≡ rotation (length w - j) (reverse w)
reverse-rotation w j h =
    let back : length w - (length w - j) ≡ j = omega arith in
    sym (rotation-reverse w (length w - j) (omega arith) ∙ ap (λ i. reverse (rotation i w)) back)

-- the reverses of the rotations are the rotations of the reverse
rotation_reversed : {w v : List ℕ} → IsRotation w v → IsRotation (reverse w) (reverse v)
rotation_reversed {w} {v} a = go (le_or a.by 0)
  where
    size : length (reverse w) ≡ length w
    size = length-reverse w

    go : (a.by ≤ 0) ⊎ (0 < a.by) → IsRotation (reverse w) (reverse v)
    go (inl h) =
        let z : a.by ≡ 0 = omega arith in
        record { by = 0; inside = omega (arith, a.inside, size); is = ap reverse (a.is ∙ ap (λ j. rotation j w) z ∙ rotation_zero w) ∙ sym (rotation_zero (reverse w)) }
    go (inr h) = record { by = length w - a.by; inside = omega (arith, a.inside, size); is = ap reverse a.is ∙ reverse-rotation w a.by (omega (arith, a.inside)) }

-- ---- the rows of one ring

pub ring_self : (w : List ℕ) → 0 < length w → SameRing w w
ring_self w h = inl (rotation_self w h)

pub ring_trans : {u v w : List ℕ} → SameRing u v → SameRing v w → SameRing u w
ring_trans (inl a) (inl b) = inl (rotation_trans a b)
ring_trans (inl a) (inr b) = inr (rotation_trans (rotation_reversed a) b)
ring_trans (inr a) (inl b) = inr (rotation_trans a b)
ring_trans {u} {v} (inr a) (inr b) = inl (rotation_trans (subst (λ r. IsRotation r (reverse v)) (reverse-reverse u) (rotation_reversed a)) b)

-- turned over, a row comes back from where it was taken
pub over_sym : {u v : List ℕ} → IsRotation (reverse u) v → IsRotation (reverse v) u
over_sym {u} {v} a = subst (IsRotation (reverse v)) (reverse-reverse u) (rotation_reversed (rotation_sym a))

pub ring_sym : {u v : List ℕ} → SameRing u v → SameRing v u
ring_sym (inl a) = inl (rotation_sym a)
ring_sym (inr a) = inr (over_sym a)

pub ring-length : {u v : List ℕ} → SameRing u v → length v ≡ length u
ring-length {u} (inl a) = ap length a.is ∙ rotation-length a.by u
ring-length {u} (inr a) = ap length a.is ∙ rotation-length a.by (reverse u) ∙ length-reverse u
