-- A rotation of a rotation is a rotation.
use mathlib.Core.List.{List, append_assoc, ◌++◌}
use mathlib.Core.Logic.{inl, inr, ◌⊎◌}
use mathlib.Core.Path.{ap, sym, ◌∙◌, ◌≡◌}
use Prim.Native.Nat.{ℕ, ◌+◌, ◌-◌, ◌<◌, ◌≤◌}
use native.Mathlib.Nat.{add_comm}
use native.Mathlib.Omega.{arith}
use lib.ListN.{drop, length, length-drop, take, take-append-drop}
use lib.Seq.{drop-append-add, drop-append-le, drop-drop, length-take-le, take-add, take-append-add, take-append-le, take-take}
use Rattle.words.proofs.Below.{le_or}
use Rattle.words.proofs.Rotations.{rotation-length, rotation_whole, rotation_zero}
use Rattle.words.specs.Rotation.{IsRotation, rotation}

module _ (w : List ℕ) (i j : ℕ) where
  -- short of the row's end
  pub rotation_again : j + i ≤ length w → rotation i (rotation j w) ≡ rotation (j + i) w
  unfolding rotation
  rotation_again h =
      let l : i ≤ length (drop j w) = rw length-drop (omega arith) in
      rw (drop-append-le i (drop j w) (take j w) l, take-append-le i (drop j w) (take j w) l, drop-drop, take-add j i w) (append_assoc (drop (j + i) w) (take j w) (take i (drop j w)))

  -- past the row's end
  pub rotation_past : i ≤ length w → j ≤ length w → length w ≤ j + i → rotation i (rotation j w) ≡ rotation (j + i - length w) w
  unfolding rotation
  rotation_past hi hj h =
      let k = j + i - length w in
      let size : i ≡ length (drop j w) + k = rw length-drop (omega arith) in
      let inside : k ≤ length (take j w) = rw (length-take-le j w hj) (omega arith) in
      let whole : drop k (take j w) ++ drop j w ≡ drop k w = sym (drop-append-le k (take j w) (drop j w) inside) ∙ ap (drop k) (take-append-drop j w) in
      ap (λ n. rotation n (rotation j w)) size
      ∙ rw (drop-append-add (drop j w) (take j w) k, take-append-add (drop j w) (take j w) k, take-take k j w (omega arith))
      (sym (append_assoc (drop k (take j w)) (drop j w) (take k w)) ∙ ap (λ r. r ++ take k w) whole)

-- ---- the rotations of a row

pub rotation_self : (w : List ℕ) → 0 < length w → IsRotation w w
rotation_self w h = record { by = 0; inside = h; is = sym (rotation_zero w) }

-- the rotation of a rotation, with its number
pub rotated : (w : List ℕ) (i j : ℕ) → i < length w → j < length w → IsRotation w (rotation i (rotation j w))
rotated w i j hi hj = go (le_or (length w) (j + i))
  where
    go : (length w ≤ j + i) ⊎ (j + i < length w) → IsRotation w (rotation i (rotation j w))
    go (inl h) = record { by = j + i - length w; inside = omega arith; is = rotation_past w i j (omega arith) (omega arith) h }
    go (inr h) = record { by = j + i; inside = h; is = rotation_again w i j (omega arith) }

pub rotation_trans : {u v w : List ℕ} → IsRotation u v → IsRotation v w → IsRotation u w
rotation_trans {u} {v} {w} a b =
    let l : length v ≡ length u = ap length a.is ∙ rotation-length a.by u in
    let r = rotated u b.by a.by (omega (arith, b.inside)) a.inside in
    record { by = r.by; inside = r.inside; is = b.is ∙ ap (rotation b.by) a.is ∙ r.is }

-- back again
pub rotation_back : (w : List ℕ) (j : ℕ) → j ≤ length w → rotation (length w - j) (rotation j w) ≡ w
rotation_back w j h = rotation_again w (length w - j) j (omega arith) ∙ rotation_whole (j + (length w - j)) w (omega arith)

pub rotation_sym : {w v : List ℕ} → IsRotation w v → IsRotation v w
rotation_sym {w} {v} a = go (le_or a.by 0)
  where
    size : length v ≡ length w
    size = ap length a.is ∙ rotation-length a.by w

    back : w ≡ rotation (length w - a.by) v
    back = sym (rotation_back w a.by (omega (arith, a.inside))) ∙ ap (rotation (length w - a.by)) (sym a.is)

    go : (a.by ≤ 0) ⊎ (0 < a.by) → IsRotation v w
    go (inl h) = let z : a.by ≡ 0 = omega arith in record { by = 0; inside = omega (arith, a.inside, size); is = sym (rotation_zero v ∙ a.is ∙ ap (λ j. rotation j w) z ∙ rotation_zero w) }
    go (inr h) = record { by = length w - a.by; inside = omega (arith, a.inside, size); is = back }

-- two rotations, either first
pub rotation_comm : (w : List ℕ) (i j : ℕ) → i ≤ length w → j ≤ length w → rotation i (rotation j w) ≡ rotation j (rotation i w)
rotation_comm w i j hi hj = go (le_or (length w) (j + i))
  where
    go : (length w ≤ j + i) ⊎ (j + i < length w) → rotation i (rotation j w) ≡ rotation j (rotation i w)
    go (inl h) = rotation_past w i j hi hj h ∙ ap (λ k. rotation (k - length w) w) (add_comm j i) ∙ sym (rotation_past w j i hj hi (omega arith))
    go (inr h) = rotation_again w i j (omega arith) ∙ ap (λ k. rotation k w) (add_comm j i) ∙ sym (rotation_again w j i (omega arith))

-- a rotation that gives a row back gives each of its rotations back, and the other way round
pub fixed_rotation : (w : List ℕ) (p b : ℕ) → p ≤ length w → b ≤ length w → rotation p w ≡ w → rotation p (rotation b w) ≡ rotation b w
fixed_rotation w p b hp hb e = rotation_comm w p b hp hb ∙ ap (rotation b) e

pub rotation_fixed : (w : List ℕ) (p b : ℕ) → p ≤ length w → b ≤ length w → rotation p (rotation b w) ≡ rotation b w → rotation p w ≡ w
rotation_fixed w p b hp hb e =
    let back = rotation_back w b hb in
    let l = rotation-length b w in
    ap (rotation p) (sym back) ∙ fixed_rotation (rotation b w) p (length w - b) (omega arith) (omega arith) e ∙ back
