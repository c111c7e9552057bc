-- The turned-over key: the least row of its ring, a necklace, and the same for all rows of the ring and for no others.
use mathlib.Core.Bool.{false, true, true≢false}
use mathlib.Core.List.{List, reverse}
use mathlib.Core.Logic.{inl, inr, ◌⊎◌}
use mathlib.Core.Path.{subst, sym, ◌∙◌, ◌≡◌}
use Prim.Native.Nat.{ℕ, ◌<◌}
use native.Mathlib.Omega.{arith}
use lib.ListN.{length, length-reverse}
use Rattle.words.proofs.AtMost.{lower, ≼_antisym, ≼_or, ≼_trans, ◌≼◌}
use Rattle.words.proofs.Below.{◌≺◌}
use Rattle.words.proofs.LeastRotation.{least_low, least_necklace, least_only, least_rotated}
use Rattle.words.proofs.OrderTests.{not_le, same→, →le, →same}
use Rattle.words.proofs.PowerOrder.{Necklace}
use Rattle.words.proofs.Reversal.{ring-length, ring_self, ring_sym, ring_trans}
use Rattle.words.proofs.RotationAgain.{rotation_self}
use Rattle.words.specs.Reversal.{SameRing, is_bracelet, lower_of, turned_key}
use Rattle.words.specs.Rotation.{IsRotation, least_rotation}

-- ---- the lower of two rows

-- r is the lower of a and b
data Lower (a b r : List ℕ) : Type 0 where
  first : r ≡ a → a ≼ b → Lower a b r
  second : r ≡ b → b ≼ a → Lower a b r

lower_of_lem : (a b : List ℕ) → Lower a b (lower_of a b)
unfolding lower_of
lower_of_lem a b = go (≼_or a b)
  where
    go : (a ≼ b) ⊎ (b ≺ a) → Lower a b (lower_of a b)
    go (inl q) = first (rw (→le a b q)) q
    go (inr q) = second (rw (not_le a b q)) (lower q)

-- ---- the turned-over key

module _ (w : List ℕ) (h : 0 < length w) where
  over : 0 < length (reverse w)
  over = omega (arith, length-reverse w)

  -- it is one of the two least rotations
  either : Lower (least_rotation w) (least_rotation (reverse w)) (turned_key w)
  unfolding turned_key
  either = lower_of_lem (least_rotation w) (least_rotation (reverse w))

  -- it is a row of the ring
  pub key_ring : SameRing w (turned_key w)
  key_ring = go either
    where
      go : Lower (least_rotation w) (least_rotation (reverse w)) (turned_key w) → SameRing w (turned_key w)
      go (first e q) = inl (subst (IsRotation w) (sym e) (least_rotated w h))
      go (second e q) = inr (subst (IsRotation (reverse w)) (sym e) (least_rotated (reverse w) over))

  -- and the least
  pub key_low : {v : List ℕ} → SameRing w v → turned_key w ≼ v
  key_low {v} r = go either r
    where
      go : Lower (least_rotation w) (least_rotation (reverse w)) (turned_key w) → SameRing w v → turned_key w ≼ v
      go (first e q) (inl a) = rw e (least_low w h a)
      go (first e q) (inr a) = rw e (≼_trans q (least_low (reverse w) over a))
      go (second e q) (inl a) = rw e (≼_trans q (least_low w h a))
      go (second e q) (inr a) = rw e (least_low (reverse w) over a)

  pub key_necklace : Necklace (turned_key w)
  key_necklace = go either
    where
      go : Lower (least_rotation w) (least_rotation (reverse w)) (turned_key w) → Necklace (turned_key w)
      go (first e q) = subst Necklace (sym e) (least_necklace w h)
      go (second e q) = subst Necklace (sym e) (least_necklace (reverse w) over)

-- the rows of one ring have one turned-over key
pub ring_key : {w v : List ℕ} → 0 < length w → SameRing w v → turned_key v ≡ turned_key w
ring_key {w} {v} h r =
    let k : 0 < length v = omega (arith, ring-length r) in
    ≼_antisym (key_low v k (ring_trans (ring_sym r) (key_ring w h))) (key_low w h (ring_trans r (key_ring v k)))

-- and the other way round
pub key_one_ring : {w v : List ℕ} → 0 < length w → 0 < length v → turned_key v ≡ turned_key w → SameRing w v
key_one_ring {w} {v} h k e = ring_trans (subst (SameRing w) (sym e) (key_ring w h)) (ring_sym (key_ring v k))

-- ---- bracelets

-- at or below all rows of its ring
pub is_bracelet→ : (w : List ℕ) → 0 < length w → is_bracelet w ≡ true → (v : List ℕ) → SameRing w v → w ≼ v
unfolding is_bracelet
is_bracelet→ w h e v r = subst (λ u. u ≼ v) (same→ (turned_key w) w e) (key_low w h r)

pub →is_bracelet : (w : List ℕ) → 0 < length w → ((v : List ℕ) → SameRing w v → w ≼ v) → is_bracelet w ≡ true
unfolding is_bracelet
→is_bracelet w h low = →same (turned_key w) w (≼_antisym (key_low w h (ring_self w h)) (low (turned_key w) (key_ring w h)))

-- of a necklace: at or below all rotations of its reverse
pub necklace_bracelet : (w : List ℕ) → 0 < length w → Necklace w → ((v : List ℕ) → IsRotation (reverse w) v → w ≼ v) → is_bracelet w ≡ true
necklace_bracelet w h s low = →is_bracelet w h go
  where
    go : (v : List ℕ) → SameRing w v → w ≼ v
    go v (inl a) = subst (λ u. u ≼ v) (sym (least_only w h (rotation_self w h) s)) (least_low w h a)
    go v (inr a) = low v a

-- ---- the key by the two least rotations, one after the other

module _ (w : List ℕ) (h : 0 < length w) where
  least_ring : SameRing w (least_rotation w)
  least_ring = inl (least_rotated w h)

  -- the least rotation is a bracelet: it is the key
  pub key_plain : is_bracelet (least_rotation w) ≡ true → turned_key w ≡ least_rotation w
  unfolding is_bracelet
  key_plain e = sym (ring_key h least_ring) ∙ same→ (turned_key (least_rotation w)) (least_rotation w) e

  -- it is none: the reverse has the key
  pub key_over : is_bracelet (least_rotation w) ≡ false → turned_key w ≡ least_rotation (reverse w)
  unfolding is_bracelet
  key_over f = go (either w h)
    where
      go : Lower (least_rotation w) (least_rotation (reverse w)) (turned_key w) → turned_key w ≡ least_rotation (reverse w)
      go (first e q) = absurd (true≢false (sym (→same (turned_key (least_rotation w)) (least_rotation w) (ring_key h least_ring ∙ e)) ∙ f))
      go (second e q) = e
