-- The search for the nearest turn: 0, 1, -1, 2, -2 and so on.
use mathlib.Core.Bool.{false, true, true≢false}
use mathlib.Core.List.{List}
use mathlib.Core.Logic.{inl, inr, ◌⊎◌}
use mathlib.Core.Path.{ap, sym, ◌∙◌, ◌≡◌}
use Prim.Native.Nat.{suc, zero, ℕ, ◌+◌, ◌-◌, ◌<◌, ◌≤◌}
use native.Mathlib.Omega.{arith}
use lib.IntN.{ℤ, nat_abs, negsuc, neg_ℤ, pos, pos-ne-negsuc}
use lib.ListN.{length}
use Rattle.coated.proofs.SignedTurns.{down_gives, gives_down, gives_rotation, gives_up, nearest_is, nearest_one, rotates_to→, up_gives, →rotates_to}
use Rattle.coated.specs.Answers.{turn_found}
use Rattle.coated.specs.Claims.{Nearest}
use Rattle.coated.specs.Fitting.{nearest_turn, rotates_to, rotation_by}
use Rattle.std.specs.Prelude.{None, Some}
use Rattle.words.proofs.Below.{le_or}
use Rattle.words.proofs.Booleans.{never}
use Rattle.words.proofs.OrderTests.{same→, →same}
use Rattle.words.proofs.Rotations.{rotation_whole, rotation_zero}
use Rattle.words.specs.Order.{same}
use Rattle.words.specs.Rotation.{IsRotation, rotation}

-- none of the first i turns takes a to b: counted from 0, the turn down by m is number m + m, and the one up is before
-- it
pub record Tried (a b : List ℕ) (i : ℕ) : Type 0 where
  pub up : (m : ℕ) → 0 < m → m + m ≤ i → rotation m a ≡ b → ⊥
  pub down : (m : ℕ) → m + m < i → rotation (length a - m) a ≡ b → ⊥

pub tried_none : (a b : List ℕ) → Tried a b 0
tried_none a b = record { up = λ m h l. absurd (omega arith); down = λ m h. absurd (omega arith) }

differs : {u v : List ℕ} → same u v ≡ false → u ≡ v → ⊥
differs {u} {v} f e = true≢false (sym (→same u v e) ∙ f)

-- what is nearest is what the search has to answer
nearest_found : (a b : List ℕ) (s : ℤ) → 0 < length a → Nearest a b s
    → Some s ≡ turn_found (rotates_to a b) (nearest_turn a b)
nearest_found a b s h m =
    let r = gives_rotation a b s h m.gives in
    rw (→rotates_to r) (ap Some (nearest_one a b s (nearest_turn a b) m (nearest_is a b r)))

module _ {a b : List ℕ} {i : ℕ} (t : Tried a b i) where
  -- the turn up by k is next
  pub tried_up : (k : ℕ) → k + k ≡ i + 1 → same (rotation k a) b ≡ false → Tried a b (k + k)
  tried_up k z f = record { up = λ m h l. go m h (le_or (m + m) i) l; down = λ m l. t.down m (omega arith) }
    where
      go : (m : ℕ) → 0 < m → (m + m ≤ i) ⊎ (i < m + m) → m + m ≤ k + k → rotation m a ≡ b → ⊥
      go m h (inl q) l e = t.up m h q e
      go m h (inr q) l e = let y : m ≡ k = omega arith in differs f (ap (λ j. rotation j a) (sym y) ∙ e)

  -- past half a turn it was tried as one down
  pub tried_past : (k : ℕ) → k + k ≡ i + 1 → k ≤ length a → length a < k + k → Tried a b (k + k)
  tried_past k z few p = record { up = λ m h l. go m h (le_or (m + m) i) l; down = λ m l. t.down m (omega arith) }
    where
      go : (m : ℕ) → 0 < m → (m + m ≤ i) ⊎ (i < m + m) → m + m ≤ k + k → rotation m a ≡ b → ⊥
      go m h (inl q) l e = t.up m h q e
      go m h (inr q) l e = let y : length a - (length a - k) ≡ m = omega arith in
          t.down (length a - k) (omega arith) (ap (λ j. rotation j a) y ∙ e)

  -- the turn down by k is
  pub tried_down : (k : ℕ) → k + k ≡ i → same (rotation (length a - k) a) b ≡ false → Tried a b (i + 1)
  tried_down k z f = record { up = λ m h l. t.up m h (omega arith); down = λ m l. go m (le_or i (m + m)) l }
    where
      go : (m : ℕ) → (i ≤ m + m) ⊎ (m + m < i) → m + m < i + 1 → rotation (length a - m) a ≡ b → ⊥
      go m (inl q) l e = let y : m ≡ k = omega arith in differs f (ap (λ j. rotation (length a - j) a) (sym y) ∙ e)
      go m (inr q) l e = t.down m q e

  -- all that take a to b are as far as k
  far : (k : ℕ) → k < length a → k + k ≤ i + 1 → (s : ℤ) → rotation_by s a ≡ b → k ≤ nat_abs s
  far k h l (pos zero) e =
      let f : 0 < k → ⊥ = λ q. t.down 0 (omega arith)
      (rotation_whole (length a - 0) a (omega arith) ∙ sym (rotation_zero a) ∙ up_gives a b 0 (omega arith) e) in
      omega arith
  far k h l (pos (suc m)) e =
      let f : suc m < k → ⊥ = λ q. t.up (suc m) (omega arith) (omega arith) (up_gives a b (suc m) (omega arith) e) in
      omega arith
  far k h l (negsuc m) e =
      let f : suc m < k → ⊥ = λ q. t.down (suc m) (omega arith) (down_gives a b m (omega arith) e) in
      omega arith

  pub found_up : (k : ℕ) → i < length a → k + k ≡ i + 1 → same (rotation k a) b ≡ true
      → Some (pos k) ≡ turn_found (rotates_to a b) (nearest_turn a b)
  found_up k h z e =
      let few : k < length a = omega arith in
      nearest_found a b (pos k) (omega arith)
      (record {
        gives = gives_up a b k few (same→ (rotation k a) b e);
        nearest = far k few (omega arith);
        positive = λ m q g. absurd (pos-ne-negsuc k m q);
      })

  pub found_down : (k : ℕ) → i < length a → k + k ≡ i → same (rotation (length a - k) a) b ≡ true
      → Some (neg_ℤ (pos k)) ≡ turn_found (rotates_to a b) (nearest_turn a b)
  found_down zero h z e =
      nearest_found a b (pos 0) (omega arith)
      (record {
        gives = gives_up a b 0 (omega arith)
            (rotation_zero a ∙ sym (rotation_whole (length a - 0) a (omega arith))
            ∙ same→ (rotation (length a - 0) a) b e);
        nearest = λ s g. omega arith;
        positive = λ m q g. absurd (pos-ne-negsuc 0 m q);
      })
  found_down (suc k) h z e =
      let few : suc k < length a = omega arith in
      nearest_found a b (negsuc k) (omega arith)
      (record {
        gives = gives_down a b k few (same→ (rotation (length a - suc k) a) b e);
        nearest = far (suc k) few (omega arith);
        positive = apart few;
      })
    where
      apart : suc k < length a → (m : ℕ) → negsuc k ≡ negsuc m → rotation_by (pos (suc m)) a ≡ b → ⊥
      apart few m q g =
          let y : suc k ≡ suc m = ap nat_abs q in
          t.up (suc k) (omega arith) (omega arith) (up_gives a b (suc k) few (rw (← y) at g))

  -- after n turns all rotations are tried
  pub found_none : length a ≤ i → None ≡ turn_found (rotates_to a b) (nearest_turn a b)
  found_none h = rw (never (rotates_to a b) (λ e. bad (rotates_to→ a b e)))
    where
      bad : IsRotation a b → ⊥
      bad r = go r.by r.inside r.is (le_or (r.by + r.by) i)
        where
          go : (j : ℕ) → j < length a → b ≡ rotation j a → (j + j ≤ i) ⊎ (i < j + j) → ⊥
          go zero l e q = t.down 0 (omega arith)
              (rotation_whole (length a - 0) a (omega arith) ∙ sym (rotation_zero a) ∙ sym e)
          go (suc j) l e (inl q) = t.up (suc j) (omega arith) q (sym e)
          go (suc j) l e (inr q) =
              let y : length a - (length a - suc j) ≡ suc j = omega arith in
              t.down (length a - suc j) (omega arith) (ap (λ m. rotation m a) y ∙ sym e)
