-- The nearest turn from the second row to the first.
use mathlib.Core.Bool.{false, true, true≢false}
use mathlib.Core.List.{List, reverse, reverse-reverse}
use mathlib.Core.Logic.{inl, inr, ◌⊎◌}
use mathlib.Core.Path.{ap, refl, subst, sym, ◌∙◌, ◌≡◌}
use Prim.Native.Nat.{suc, zero, ℕ, ◌+◌, ◌-◌, ◌<◌, ◌≤◌}
use native.Mathlib.Omega.{arith}
use lib.IntN.{ℤ, nat_abs, negsuc, neg_ℤ, neg_ℤ-neg_ℤ, pos}
use lib.ListN.{length, length-reverse}
use Rattle.coated.proofs.SignedTurns.{abs_opposite, down_gives, gives_down, gives_up, nearest_short, opposite, turn_inside, up_gives}
use Rattle.coated.specs.Claims.{Nearest}
use Rattle.coated.specs.Fitting.{rotation_by, turn_of, turns_to}
use Rattle.words.proofs.Below.{le_or}
use Rattle.words.proofs.OrderTests.{same→, →same}
use Rattle.words.proofs.Periods.{PeriodOf, period_of}
use Rattle.words.proofs.Reversal.{rotation-reverse}
use Rattle.words.proofs.RotationAgain.{rotation_again, rotation_past}
use Rattle.words.proofs.Rotations.{rotation-length, rotation_whole}
use Rattle.words.specs.Rotation.{period, rotation}

-- ---- turning

module _ (a b : List ℕ) (h : 0 < length a) (s : ℤ) (m : Nearest a b s) where
  long : 0 < length b
  long = omega (arith, ap length m.gives, rotation-length (turn_of (length a) s) a)

  -- all turns back are as far
  far_back : (t : ℤ) → rotation_by t b ≡ a → nat_abs s ≤ nat_abs t
  far_back t g = subst (λ x. nat_abs s ≤ x) (abs_opposite t) (m.nearest (neg_ℤ t) (opposite b a t long g))

  -- the opposite, where it does not take a to b
  pub back_opposite : turns_to a b (neg_ℤ s) ≡ false → Nearest b a (neg_ℤ s)
  back_opposite e = record {
    gives = opposite a b s h m.gives;
    nearest = λ t g. subst (λ x. x ≤ nat_abs t) (sym (abs_opposite s)) (far_back t g);
    positive = λ k q g. true≢false
        (sym (→same (rotation_by (neg_ℤ s) a) b
        (subst (λ x. rotation_by x a ≡ b) (sym q) (opposite b a (pos (suc k)) long g))) ∙ e);
  }

  -- the same, where it does
  pub back_same : turns_to a b (neg_ℤ s) ≡ true → Nearest b a s
  back_same e = record {
    gives = subst (λ x. rotation_by x b ≡ a) (neg_ℤ-neg_ℤ s) (opposite a b (neg_ℤ s) h (same→ (rotation_by (neg_ℤ s) a) b e));
    nearest = far_back;
    positive = λ k q g. m.positive k q
        (subst (λ x. rotation_by x a ≡ b) (ap neg_ℤ q) (same→ (rotation_by (neg_ℤ s) a) b e));
  }

-- ---- where both do: half the period

module _ (a b : List ℕ) (h : 0 < length a) where
  q : PeriodOf a (period a)
  q = period_of a h

  -- a turn up by k, and the one down
  up_again : (k : ℕ) → k + k ≤ length a → rotation k a ≡ b → rotation (length a - k) a ≡ b → rotation (k + k) a ≡ a
  up_again k l e f =
      sym (rotation_again a k k l) ∙ ap (rotation k) (e ∙ sym f) ∙ rotation_again a k (length a - k) (omega arith)
      ∙ rotation_whole (length a - k + k) a (omega arith)

  -- at most half the period
  half_up : (k : ℕ) → Nearest a b (pos k) → k + k ≤ period a
  half_up zero m = omega arith
  half_up (suc k) m = go (le_or (period a) (suc k))
    where
      l : suc k < length a
      l = nearest_short a b (pos (suc k)) h m

      e : rotation (suc k) a ≡ b
      e = up_gives a b (suc k) l m.gives

      go : (period a ≤ suc k) ⊎ (suc k < period a) → suc k + suc k ≤ period a
      -- a turn by less
      go (inl y) =
          let i = suc k - period a in
          let z : period a + i ≡ suc k = omega arith in
          let less = gives_up a b i (omega (arith, q.low, l))
          (ap (rotation i) (sym q.back) ∙ rotation_again a i (period a) (omega (arith, l))
          ∙ ap (λ j. rotation j a) z ∙ e) in
          absurd (omega (arith, m.nearest (pos i) less, q.low))
      -- the turn down that comes to the same
      go (inr y) =
          let d = period a - suc k - 1 in
          let z : suc d ≡ period a - suc k = omega arith in
          let w : period a + (length a - suc d) - length a ≡ suc k = omega (arith, q.high) in
          let same = ap (rotation (length a - suc d)) (sym q.back)
          ∙ rotation_past a (length a - suc d) (period a) (omega arith) q.high (omega (arith, q.high))
          ∙ ap (λ j. rotation j a) w ∙ e in
          omega (arith, z, m.nearest (negsuc d) (gives_down a b d (omega (arith, q.high)) same))

  pub tied_half : (k : ℕ) → Nearest a b (pos k) → rotation_by (neg_ℤ (pos k)) a ≡ b → (k ≡ 0) ⊎ (k + k ≡ period a)
  tied_half zero m g = inl refl
  tied_half (suc k) m g =
      let l : suc k < length a = nearest_short a b (pos (suc k)) h m in
      let half = half_up (suc k) m in
      let again = up_again (suc k) (omega (arith, half, q.high)) (up_gives a b (suc k) l m.gives)
      (down_gives a b k l g) in
      inr (whole (le_or (period a) (suc k + suc k)) half again)
    where
      whole : (period a ≤ suc k + suc k) ⊎ (suc k + suc k < period a) → suc k + suc k ≤ period a
          → rotation (suc k + suc k) a ≡ a → suc k + suc k ≡ period a
      whole (inl y) i e = omega arith
      whole (inr y) i e = absurd (q.before (suc k + suc k) (omega arith) y e)

  -- half the period up is half the period down
  half_same : (k : ℕ) → k + k ≡ period a → rotation (length a - k) a ≡ rotation k a
  half_same k z =
      let w : period a + (length a - k) - length a ≡ k = omega (arith, q.high) in
      ap (rotation (length a - k)) (sym q.back)
      ∙ rotation_past a (length a - k) (period a) (omega arith) q.high (omega (arith, q.high))
      ∙ ap (λ j. rotation j a) w

  pub half_tied : (k : ℕ) → Nearest a b (pos k) → (k ≡ 0) ⊎ (k + k ≡ period a) → rotation_by (neg_ℤ (pos k)) a ≡ b
  half_tied zero m x = m.gives
  half_tied (suc k) m (inl z) = absurd (omega arith)
  half_tied (suc k) m (inr z) =
      let l : suc k < length a = nearest_short a b (pos (suc k)) h m in
      gives_down a b k l (half_same (suc k) z ∙ up_gives a b (suc k) l m.gives)

  -- below zero there is no tie
  pub never_tied : (k : ℕ) → Nearest a b (negsuc k) → (suc k ≡ 0) ⊎ (suc k + suc k ≡ period a) → ⊥
  never_tied k m (inl z) = omega arith
  never_tied k m (inr z) =
      let l : suc k < length a = nearest_short a b (negsuc k) h m in
      m.positive k refl (gives_up a b (suc k) l (sym (half_same (suc k) z) ∙ down_gives a b k l m.gives))

-- ---- turning over

-- the same turn takes the other row, turned over, back
over_gives : (a b : List ℕ) (s : ℤ) → 0 < length a → rotation_by s (reverse a) ≡ b → rotation_by s (reverse b) ≡ a
over_gives a b s h e =
    let j = turn_of (length (reverse a)) s in
    let size = length-reverse a in
    let inside : j < length (reverse a) = turn_inside (length (reverse a)) s (omega (arith, size)) in
    let long : length (reverse b) ≡ length (reverse a) = length-reverse b
    ∙ sym (sym (rotation-length j (reverse a)) ∙ ap length e) in
    let turned : reverse b ≡ rotation (length a - j) a =
    ap reverse (sym e ∙ rotation-reverse a j (omega (arith, inside, size)))
    ∙ reverse-reverse (rotation (length a - j) a) in
    ap (λ n. rotation (turn_of n s) (reverse b)) long
    ∙ ap (rotation j) turned
    ∙ rotation_again a j (length a - j) (omega (arith, inside, size))
    ∙ rotation_whole (length a - j + j) a (omega (arith, inside, size))

pub over_back : (a b : List ℕ) (s : ℤ) → 0 < length a → 0 < length b → Nearest (reverse a) b s → Nearest (reverse b) a s
over_back a b s h l m = record {
  gives = over_gives a b s h m.gives;
  nearest = λ t g. m.nearest t (over_gives b a t l g);
  positive = λ k q g. m.positive k q (over_gives b a (pos (suc k)) l g);
}
