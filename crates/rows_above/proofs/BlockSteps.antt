-- The sums over the blocks of v, one symbol of v at a time.
use mathlib.Core.List.{List, [], ◌∷◌}
use mathlib.Core.Path.{ap, refl, ◌≡◌}
use Prim.Native.Nat.{suc, zero, ℕ, ◌*◌, ◌+◌, ◌-◌, ◌<◌}
use native.Mathlib.Omega.{arith}
use lib.ListN.{drop, get_or, length, length-drop}
use lib.Seq.{drop-cons}
use Rattle.counting.specs.InnerBlocks.{above_from, first_block}

module _ (F : ℕ → ℕ → ℕ) where
  -- ---- density 0, or nothing left

  pub first_none : (l : ℕ) (r : List ℕ) → first_block F l 0 r ≡ 0
  unfolding first_block
  first_none zero r = refl
  first_none (suc l) [] = refl
  first_none (suc l) (zero ∷ r) = first_none l r
  first_none (suc l) (suc c ∷ r) = refl

  pub above_none : (s : ℕ) (r : List ℕ) → above_from F s 0 r ≡ 0
  unfolding above_from
  above_none s [] = refl
  above_none s (zero ∷ r) = above_none (suc s) r
  above_none s (suc c ∷ r) = refl

  pub first_end : (g : ℕ) (r : List ℕ) → first_block F 0 g r ≡ 0
  unfolding first_block
  first_end g r = refl

  -- ---- fewer symbols than ones

  module _ (none : (k h : ℕ) → k < h → F k h ≡ 0) where
    pub first_dense : (l g : ℕ) (r : List ℕ) → l < g → first_block F l g r ≡ 0
    unfolding first_block
    first_dense zero g r h = refl
    first_dense (suc l) g [] h = refl
    first_dense (suc l) zero (x ∷ r) h = absurd (omega arith)
    first_dense (suc l) (suc g) (zero ∷ r) h = omega (arith, none l g (omega arith), first_dense l (suc g) r (omega arith))
    first_dense (suc l) (suc g) (suc c ∷ r) h = first_dense l g r (omega arith)

    pub above_dense : (s e : ℕ) (r : List ℕ) → length r < e → above_from F s e r ≡ 0
    unfolding above_from
    above_dense s e [] h = refl
    above_dense s zero (x ∷ r) h = absurd (omega arith)
    above_dense s (suc e) (zero ∷ r) h = rw (none (length r) e (omega arith)) (omega (arith, above_dense (suc s) (suc e) r (omega arith)))
    above_dense s (suc e) (suc c ∷ r) h = above_dense (suc s) e r (omega arith)

  -- ---- one symbol

  first_zero : {k k₁ h h₁ x : ℕ} {r r₁ : List ℕ} → k ≡ suc k₁ → h ≡ suc h₁ → r ≡ x ∷ r₁ → x ≡ 0 → first_block F k h r ≡ F k₁ h₁ + first_block F k₁ h r₁
  unfolding first_block
  first_zero p q s z = rw (p, q, s, z)

  first_one : {k k₁ h h₁ x : ℕ} {r r₁ : List ℕ} → k ≡ suc k₁ → h ≡ suc h₁ → r ≡ x ∷ r₁ → x ≡ suc (x - 1) → first_block F k h r ≡ first_block F k₁ h₁ r₁
  unfolding first_block
  first_one {k} {k₁} {h} {h₁} {x} {r} {r₁} p q s z = rw (p, q, s) (ap (λ y. first_block F (suc k₁) (suc h₁) (y ∷ r₁)) z)

  above_zero : (s : ℕ) {h h₁ x : ℕ} {r r₁ : List ℕ} → h ≡ suc h₁ → r ≡ x ∷ r₁ → x ≡ 0 → above_from F s h r ≡ suc s * F (length r₁) h₁ + above_from F (suc s) h r₁
  unfolding above_from
  above_zero s q t z = rw (q, t, z)

  above_one : (s : ℕ) {h h₁ x : ℕ} {r r₁ : List ℕ} → h ≡ suc h₁ → r ≡ x ∷ r₁ → x ≡ suc (x - 1) → above_from F s h r ≡ above_from F (suc s) h₁ r₁
  unfolding above_from
  above_one s {h} {h₁} {x} {r} {r₁} q t z = rw (q, t) (ap (λ y. above_from F s (suc h₁) (y ∷ r₁)) z)

-- ---- at a place of v

module _ (F : ℕ → ℕ → ℕ) (v : List ℕ) (i : ℕ) (inside : i < length v) (h : ℕ) (some : 0 < h) where
  pub first_at_zero : (l : ℕ) → i < l → get_or v i 0 ≡ 0 → first_block F (l - i) h (drop i v) ≡ F (l - suc i) (h - 1) + first_block F (l - suc i) h (drop (suc i) v)
  first_at_zero l p z = first_zero F (omega arith) (omega arith) (drop-cons v i 0 inside) z

  pub first_at_one : (l : ℕ) → i < l → 0 < get_or v i 0 → first_block F (l - i) h (drop i v) ≡ first_block F (l - suc i) (h - 1) (drop (suc i) v)
  first_at_one l p z = first_one F (omega arith) (omega arith) (drop-cons v i 0 inside) (omega arith)

  pub above_at_zero : get_or v i 0 ≡ 0 → above_from F i h (drop i v) ≡ suc i * F (length v - suc i) (h - 1) + above_from F (suc i) h (drop (suc i) v)
  above_at_zero z =
      rw (above_zero F i {h = h} {h₁ = h - 1} (omega arith) (drop-cons v i 0 inside) z, length-drop (suc i) v)

  pub above_at_one : 0 < get_or v i 0 → above_from F i h (drop i v) ≡ above_from F (suc i) (h - 1) (drop (suc i) v)
  above_at_one z = above_one F i {h = h} {h₁ = h - 1} (omega arith) (drop-cons v i 0 inside) (omega arith)
