-- The rows of one ring are rows of one drawer, and its turned-over key is the one of them that is of kind 3.
use mathlib.Core.List.{List, [], reverse, reverse-cons, ◌++◌, ◌∷◌}
use mathlib.Core.Logic.{inl, inr}
use mathlib.Core.Path.{ap, refl, subst, sym, ◌∙◌, ◌≡◌}
use Prim.Native.Nat.{ℕ, ◌+◌, ◌<◌}
use native.Mathlib.Omega.{arith}
use lib.ListN.{drop, length, take, take-append-drop}
use Rattle.density.proofs.Binary.{Binary, binary_append, binary_behind, binary_cons, binary_front, binary_uncons, binary_within, empty, within_binary}
use Rattle.density.proofs.Claims.{kinds}
use Rattle.density.proofs.Counts.{density-append}
use Rattle.density.specs.Claims.{InDrawer, OfDensity, TurnedInDrawer}
use Rattle.density.specs.Density.{density}
use Rattle.words.proofs.Reversal.{ring-length}
use Rattle.words.proofs.Rotations.{→is_necklace}
use Rattle.words.proofs.TurnedKey.{key_necklace, key_ring, ring_key}
use Rattle.words.specs.Reversal.{SameRing, turned_key}
use Rattle.words.specs.Rotation.{rotation}

-- ---- what adds up over the parts of a row is the same for all rows of a ring

module _ (f : List ℕ → ℕ) (add : (a b : List ℕ) → f (a ++ b) ≡ f a + f b) where
  pub sum-rotation : (j : ℕ) (w : List ℕ) → f (rotation j w) ≡ f w
  unfolding rotation
  sum-rotation j w = omega (arith, add (drop j w) (take j w), add (take j w) (drop j w), ap f (take-append-drop j w))

  sum-reverse : (w : List ℕ) → f (reverse w) ≡ f w
  sum-reverse [] = refl
  sum-reverse (x ∷ w) = omega (arith, ap f (reverse-cons x w), add (reverse w) (x ∷ []), sum-reverse w, add (x ∷ []) w)

  ring-sum : {w v : List ℕ} → SameRing w v → f v ≡ f w
  ring-sum {w} (inl a) = ap f a.is ∙ sum-rotation a.by w
  ring-sum {w} (inr a) = ap f a.is ∙ sum-rotation a.by (reverse w) ∙ sum-reverse w

-- ---- and so is the alphabet

pub binary_rotation : (j : ℕ) (w : List ℕ) → Binary w → Binary (rotation j w)
unfolding rotation
binary_rotation j w b =
    let parts : Binary (take j w ++ drop j w) = subst Binary (sym (take-append-drop j w)) b in
    binary_append (binary_behind (take j w) parts) (binary_front (take j w) (drop j w) parts)

binary_reverse : (w : List ℕ) → Binary w → Binary (reverse w)
binary_reverse [] b = empty
binary_reverse (x ∷ w) b =
    let h = binary_uncons b in
    subst Binary (sym (reverse-cons x w)) (binary_append (binary_reverse w h.1) (binary_cons x h.0 empty))

ring_binary : {w v : List ℕ} → SameRing w v → Binary w → Binary v
ring_binary {w} (inl a) b = subst Binary (sym a.is) (binary_rotation a.by w b)
ring_binary {w} (inr a) b = subst Binary (sym a.is) (binary_rotation a.by (reverse w) (binary_reverse w b))

-- ---- the one of kind 3

pub turned_in_drawer : TurnedInDrawer
turned_in_drawer n d w h o =
    let l : 0 < length w = omega (arith, o.long) in
    let r = key_ring w l in
    let row : OfDensity n d (turned_key w) = record {
      long = ring-length r ∙ o.long;
      symbols = binary_within (ring_binary r (within_binary w o.symbols));
      holes = ring-sum density density-append r ∙ o.holes;
    } in
    let k : InDrawer n d (turned_key w) = record { row = row; shelved = →is_necklace (turned_key w) (key_necklace w l) } in
    ((kinds n d (turned_key w)).2.1 (k, ring_key l r), λ v m q. sym ((kinds n d v).2.0 m).1 ∙ ring_key l q)
