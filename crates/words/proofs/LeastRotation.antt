-- The least rotation of a row: it is the only necklace among the row's rotations, and the same for all of them.
use mathlib.Core.List.{List}
use mathlib.Core.Logic.{inl, inr, ◌⊎◌}
use mathlib.Core.Path.{ap, refl, subst, sym, ◌∙◌, ◌≡◌}
use Prim.Native.Nat.{pred, suc, zero, ℕ, ◌+◌, ◌<◌, ◌≤◌}
use native.Mathlib.Numerals.{add-one}
use native.Mathlib.Omega.{arith}
use lib.ListN.{length}
use Rattle.words.proofs.AtMost.{lower, not_both, ≺-≼_trans, ≼_antisym, ≼_or, ≼_refl, ◌≼◌}
use Rattle.words.proofs.Below.{le_or, ◌≺◌}
use Rattle.words.proofs.Booleans.{never}
use Rattle.words.proofs.Bounded.{all_below→, first_is, pred_size, →all_below}
use Rattle.words.proofs.OrderTests.{le→, →le}
use Rattle.words.proofs.PowerOrder.{Necklace}
use Rattle.words.proofs.RotationAgain.{rotation_sym, rotation_trans}
use Rattle.words.proofs.Rotations.{index→necklace, necklace→index, rotation-length}
use Rattle.words.specs.Order.{le}
use Rattle.words.specs.Rotation.{IsRotation, is_least_at, least_index, least_rotation, rotation}

-- ---- the least of the first k rotations, at its first place

-- the rotation by b is at or below the first k rotations, and below those in front of it
pub record LeastOf (w : List ℕ) (k b : ℕ) : Type 0 where
  pub inside : b < k
  pub low : (i : ℕ) → i < k → rotation b w ≼ rotation i w
  pub first : (i : ℕ) → i < b → rotation b w ≺ rotation i w

pub least_start : (w : List ℕ) → LeastOf w 1 0
least_start w = record { inside = omega arith; low = λ i h. let z : i ≡ 0 = omega arith in rw z (≼_refl (rotation 0 w)); first = λ i h. absurd (omega arith) }

-- one rotation more, at or above the least
pub least_keep : {w : List ℕ} {k b : ℕ} → LeastOf w k b → rotation b w ≼ rotation k w → LeastOf w (k + 1) b
least_keep {w} {k} {b} m q = record { inside = omega (arith, m.inside); low = λ i h. pick i (le_or k i) h; first = m.first }
  where
    pick : (i : ℕ) → (k ≤ i) ⊎ (i < k) → i < k + 1 → rotation b w ≼ rotation i w
    pick i (inl l) h = let e : i ≡ k = omega arith in rw e q
    pick i (inr l) h = m.low i l

-- one rotation more, below the least
pub least_take : {w : List ℕ} {k b : ℕ} → LeastOf w k b → rotation k w ≺ rotation b w → LeastOf w (k + 1) k
least_take {w} {k} {b} m q = record { inside = omega arith; low = λ i h. pick i (le_or k i) h; first = λ i h. ≺-≼_trans q (m.low i h) }
  where
    pick : (i : ℕ) → (k ≤ i) ⊎ (i < k) → i < k + 1 → rotation k w ≼ rotation i w
    pick i (inl l) h = let e : i ≡ k = omega arith in rw e (≼_refl (rotation k w))
    pick i (inr l) h = lower (≺-≼_trans q (m.low i l))

least_some : (w : List ℕ) (k : ℕ) → (b : ℕ) × LeastOf w (k + 1) b
least_some w zero = (0, least_start w)
least_some w (suc k) = rw (← add-one k) (go (least_some w k))
  where
    go : (b : ℕ) × LeastOf w (k + 1) b → (b : ℕ) × LeastOf w (k + 1 + 1) b
    go m = pick (≼_or (rotation m.0 w) (rotation (k + 1) w))
      where
        pick : (rotation m.0 w ≼ rotation (k + 1) w) ⊎ (rotation (k + 1) w ≺ rotation m.0 w) → (b : ℕ) × LeastOf w (k + 1 + 1) b
        pick (inl q) = (m.0, least_keep m.1 q)
        pick (inr q) = (k + 1, least_take m.1 q)

-- ---- the definition's number

-- what has the properties of the least rotation's number is it
pub least_is : (w : List ℕ) (b : ℕ) → LeastOf w (length w) b → least_index w ≡ b
unfolding least_index is_least_at
least_is w b m =
    first_is (pred (length w)) 0 b (is_least_at w) (omega arith) (omega (arith, m.inside, pred_size (length w) (omega (arith, m.inside))))
    (λ i g h. never (is_least_at w i) (λ e. not_both (m.first i h) (le→ (rotation i w) (rotation b w) (all_below→ (length w) (λ k. le (rotation i w) (rotation k w)) e b m.inside))))
    (λ h. →all_below (length w) (λ k. le (rotation b w) (rotation k w)) (λ k l. →le (rotation b w) (rotation k w) (m.low k l)))

pub least_index_lem : (w : List ℕ) → 0 < length w → LeastOf w (length w) (least_index w)
least_index_lem w h =
    let m = least_some w (pred (length w)) in
    let l : LeastOf w (length w) m.0 = subst (λ k. LeastOf w k m.0) (omega (arith, pred_size (length w) h)) m.1 in
    rw (least_is w m.0 l) l

-- ---- the least rotation

module _ (w : List ℕ) (h : 0 < length w) where
  pub least_rotated : IsRotation w (least_rotation w)
  unfolding least_rotation
  least_rotated = record { by = least_index w; inside = (least_index_lem w h).inside; is = refl }

  pub least_low : {v : List ℕ} → IsRotation w v → least_rotation w ≼ v
  unfolding least_rotation
  least_low r = rw r.is ((least_index_lem w h).low r.by r.inside)

  -- the least rotation is a necklace
  pub least_necklace : Necklace (least_rotation w)
  least_necklace = index→necklace (least_rotation w) (λ j k. least_low (rotation_trans least_rotated (record { by = j; inside = k; is = refl })))

  -- and the only one among the rotations
  pub least_only : {v : List ℕ} → IsRotation w v → Necklace v → v ≡ least_rotation w
  least_only {v} r s =
      let back = rotation_trans (rotation_sym r) least_rotated in
      let low : v ≼ least_rotation w = rw back.is (necklace→index v s back.by back.inside) in
      ≼_antisym low (least_low r)

-- rotations of one row have one least rotation
pub least_same : {w v : List ℕ} → 0 < length w → IsRotation w v → least_rotation v ≡ least_rotation w
least_same {w} {v} h r =
    let l : 0 < length v = omega (arith, r.inside, ap length r.is ∙ rotation-length r.by w) in
    least_only w h (rotation_trans r (least_rotated v l)) (least_necklace v l)

-- and the other way round
pub same_least : {w v : List ℕ} → 0 < length w → 0 < length v → least_rotation v ≡ least_rotation w → IsRotation w v
same_least {w} {v} h k e = rotation_trans (subst (λ u. IsRotation w u) (sym e) (least_rotated w h)) (rotation_sym (least_rotated v k))
