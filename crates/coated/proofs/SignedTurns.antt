-- Turns from one row to another: whether there is one; signed turns, what they stand for, their opposites, and the
-- nearest.
use mathlib.Core.Bool.{Bool, cond, false, or-true, true, true≢false, ◌||◌}
use mathlib.Core.List.{List}
use mathlib.Core.Logic.{inl, inr, ◌⊎◌}
use mathlib.Core.Path.{ap, refl, subst, sym, ◌∙◌, ◌≡◌}
use Prim.Native.Nat.{suc, zero, ℕ, ◌%◌, ◌+◌, ◌-◌, ◌<◌, ◌≤◌}
use native.Mathlib.Nat.{mod-eq_of_lt, mod-lt, mod_self, zero-mod}
use native.Mathlib.Omega.{arith}
use lib.IntN.{ℤ, nat_abs, negsuc, neg_ℤ, pos, pos-ne-negsuc}
use lib.ListN.{length}
use Rattle.coated.specs.Claims.{Nearest}
use Rattle.coated.specs.Fitting.{nearest_amount, nearest_turn, rotates_to, rotation_by, turn_of, turns_to}
use Rattle.words.proofs.Below.{le_or}
use Rattle.words.proofs.Booleans.{or→}
use Rattle.words.proofs.Bounded.{FirstOf, first_of, some_below→, →some_below}
use Rattle.words.proofs.OrderTests.{same→, →same}
use Rattle.words.proofs.RotationAgain.{rotation_again, rotation_back}
use Rattle.words.proofs.Rotations.{rotation-length, rotation_whole, rotation_zero}
use Rattle.words.specs.Order.{same}
use Rattle.words.specs.Rotation.{IsRotation, rotation}

-- ---- whether some turn takes one row to another

pub rotates_to→ : (a b : List ℕ) → rotates_to a b ≡ true → IsRotation a b
unfolding rotates_to
rotates_to→ a b e =
    let r = some_below→ (length a) (λ j. same (rotation j a) b) e in
    record { by = r.0; inside = r.1; is = sym (same→ (rotation r.0 a) b r.2) }

pub →rotates_to : {a b : List ℕ} → IsRotation a b → rotates_to a b ≡ true
unfolding rotates_to
→rotates_to {a} {b} r =
    →some_below (length a) (λ j. same (rotation j a) b) r.by r.inside (→same (rotation r.by a) b (sym r.is))

-- ---- what a signed turn stands for

pub turn_inside : (n : ℕ) (s : ℤ) → 0 < n → turn_of n s < n
turn_inside n (pos k) h = mod-lt k h
turn_inside n (negsuc k) h = mod-lt (n - suc k % n) h

turn_up : (n k : ℕ) → k < n → turn_of n (pos k) ≡ k
turn_up n k h = mod-eq_of_lt h

turn_down : (n k : ℕ) → suc k < n → turn_of n (negsuc k) ≡ n - suc k
turn_down n k h = ap (λ m. (n - m) % n) (mod-eq_of_lt h) ∙ mod-eq_of_lt (omega arith)

module _ (a b : List ℕ) where
  -- a signed turn takes a row to one of its rotations
  pub gives_rotation : (s : ℤ) → 0 < length a → rotation_by s a ≡ b → IsRotation a b
  gives_rotation s h e = record { by = turn_of (length a) s; inside = turn_inside (length a) s h; is = sym e }

  -- the rotation by k, as a turn up and as a turn down
  pub gives_up : (k : ℕ) → k < length a → rotation k a ≡ b → rotation_by (pos k) a ≡ b
  gives_up k h e = ap (λ j. rotation j a) (turn_up (length a) k h) ∙ e

  pub gives_down : (k : ℕ) → suc k < length a → rotation (length a - suc k) a ≡ b → rotation_by (negsuc k) a ≡ b
  gives_down k h e = ap (λ j. rotation j a) (turn_down (length a) k h) ∙ e

  pub up_gives : (k : ℕ) → k < length a → rotation_by (pos k) a ≡ b → rotation k a ≡ b
  up_gives k h e = ap (λ j. rotation j a) (sym (turn_up (length a) k h)) ∙ e

  pub down_gives : (k : ℕ) → suc k < length a → rotation_by (negsuc k) a ≡ b → rotation (length a - suc k) a ≡ b
  down_gives k h e = ap (λ j. rotation j a) (sym (turn_down (length a) k h)) ∙ e

-- ---- the opposite turn takes the row back

pub abs_opposite : (s : ℤ) → nat_abs (neg_ℤ s) ≡ nat_abs s
abs_opposite (pos zero) = refl
abs_opposite (pos (suc k)) = refl
abs_opposite (negsuc k) = refl

-- j short of a whole turn
short_of : (w : List ℕ) (n j : ℕ) → length w ≡ n → j < n → rotation ((n - j) % n) w ≡ rotation (n - j) w
short_of w n zero l h =
    let e : (n - 0) % n ≡ 0 = ap (λ m. m % n) (omega arith) ∙ mod_self n in
    ap (λ i. rotation i w) e ∙ rotation_zero w ∙ sym (rotation_whole (n - 0) w (omega arith))
short_of w n (suc j) l h = ap (λ i. rotation i w) (mod-eq_of_lt (omega arith))

there_and_back : (w : List ℕ) (s : ℤ) → 0 < length w
    → rotation (turn_of (length w) (neg_ℤ s)) (rotation (turn_of (length w) s) w) ≡ w
there_and_back w (pos zero) h =
    let z = zero-mod (length w) in
    ap (λ i. rotation i (rotation (0 % length w) w)) z ∙ rotation_zero (rotation (0 % length w) w)
    ∙ ap (λ i. rotation i w) z ∙ rotation_zero w
there_and_back w (pos (suc k)) h =
    let j = suc k % length w in
    let l = mod-lt (suc k) h in
    short_of (rotation j w) (length w) j (rotation-length j w) l ∙ rotation_back w j (omega (arith, l))
there_and_back w (negsuc k) h =
    let j = suc k % length w in
    let l : j < length w = mod-lt (suc k) h in
    ap (rotation j) (short_of w (length w) j refl l)
    ∙ rotation_again w j (length w - j) (omega (arith, l))
    ∙ rotation_whole (length w - j + j) w (omega (arith, l))

pub opposite : (a b : List ℕ) (s : ℤ) → 0 < length a → rotation_by s a ≡ b → rotation_by (neg_ℤ s) b ≡ a
opposite a b s h e =
    ap (rotation_by (neg_ℤ s)) (sym e)
    ∙ ap (λ n. rotation (turn_of n (neg_ℤ s)) (rotation_by s a)) (rotation-length (turn_of (length a) s) a)
    ∙ there_and_back a s h

-- ---- the nearest turn

module _ (a b : List ℕ) where
  -- the same turn upwards
  upwards : (s : ℤ) → 0 < length a → rotation_by s a ≡ b → rotation_by (pos (turn_of (length a) s)) a ≡ b
  upwards s h e = gives_up a b (turn_of (length a) s) (turn_inside (length a) s h) e

  -- less than a whole turn
  pub nearest_short : (s : ℤ) → 0 < length a → Nearest a b s → nat_abs s < length a
  nearest_short s h m =
      omega (arith, m.nearest (pos (turn_of (length a) s)) (upwards s h m.gives), turn_inside (length a) s h)

  -- at most half a turn up, and less than that down
  pub nearest_up : (k : ℕ) → 0 < length a → Nearest a b (pos k) → k + k ≤ length a
  nearest_up zero h m = omega arith
  nearest_up (suc k) h m =
      let l : suc k < length a = nearest_short (pos (suc k)) h m in
      let d = length a - suc k - 1 in
      let z : suc d ≡ length a - suc k = omega arith in
      let back : length a - suc d ≡ suc k = omega arith in
      let e = up_gives a b (suc k) l m.gives in
      omega (arith, z, m.nearest (negsuc d) (gives_down a b d (omega arith) (ap (λ j. rotation j a) back ∙ e)))

  pub nearest_down : (k : ℕ) → 0 < length a → Nearest a b (negsuc k) → suc k + suc k < length a
  nearest_down k h m = go (le_or (length a - suc k) (suc k))
    where
      l : suc k < length a
      l = nearest_short (negsuc k) h m

      e : rotation (length a - suc k) a ≡ b
      e = down_gives a b k l m.gives

      low : suc k ≤ length a - suc k
      low = m.nearest (pos (length a - suc k)) (gives_up a b (length a - suc k) (omega arith) e)

      go : (length a - suc k ≤ suc k) ⊎ (suc k < length a - suc k) → suc k + suc k < length a
      go (inl q) =
          let z : length a - suc k ≡ suc k = omega (arith, low) in
          absurd (m.positive k refl (gives_up a b (suc k) l (ap (λ j. rotation j a) (sym z) ∙ e)))
      go (inr q) = omega arith

  -- there is one
  pub nearest_one : (s t : ℤ) → Nearest a b s → Nearest a b t → s ≡ t
  nearest_one (pos k) (pos i) m n =
      let z : k ≡ i = omega (arith, m.nearest (pos i) n.gives, n.nearest (pos k) m.gives) in
      ap pos z
  nearest_one (negsuc k) (negsuc i) m n =
      let z : k ≡ i = omega (arith, m.nearest (negsuc i) n.gives, n.nearest (negsuc k) m.gives) in
      ap negsuc z
  nearest_one (pos k) (negsuc i) m n =
      let z : k ≡ suc i = omega (arith, m.nearest (negsuc i) n.gives, n.nearest (pos k) m.gives) in
      absurd (n.positive i refl (rw z at m.gives))
  nearest_one (negsuc k) (pos i) m n =
      let z : i ≡ suc k = omega (arith, m.nearest (pos i) n.gives, n.nearest (negsuc k) m.gives) in
      absurd (m.positive k refl (rw z at n.gives))

  -- ---- the definition gives it

  abbrev either : ℕ → Bool
  either k = turns_to a b (pos k) || turns_to a b (neg_ℤ (pos k))

  -- a turn that takes a to b is found at its amount
  either_at : (t : ℤ) → rotation_by t a ≡ b → either (nat_abs t) ≡ true
  either_at (pos k) e = rw (→same (rotation_by (pos k) a) b e)
  either_at (negsuc k) e = rw (→same (rotation_by (negsuc k) a) b e) (or-true (turns_to a b (pos (suc k))))

  module _ (k : ℕ) (found : either k ≡ true) (far : (t : ℤ) → rotation_by t a ≡ b → k ≤ nat_abs t) where
    by_sign : (t : Bool) → turns_to a b (pos k) ≡ t → Nearest a b (cond t (pos k) (neg_ℤ (pos k)))
    by_sign true e = record
        { gives = same→ (rotation_by (pos k) a) b e; nearest = far; positive = λ i q g. absurd (pos-ne-negsuc k i q) }
    by_sign false e = down k refl (or→ (turns_to a b (pos k)) (turns_to a b (neg_ℤ (pos k))) found)
      where
        down : (i : ℕ) → k ≡ i →
            (turns_to a b (pos k) ≡ true) ⊎ (turns_to a b (neg_ℤ (pos k)) ≡ true) → Nearest a b (neg_ℤ (pos k))
        down i q (inl y) = absurd (true≢false (sym y ∙ e))
        down zero q (inr y) =
            absurd (true≢false (sym (subst (λ i. turns_to a b (neg_ℤ (pos i)) ≡ true) q y)
            ∙ subst (λ i. turns_to a b (pos i) ≡ false) q e))
        down (suc i) q (inr y) = record {
          gives = same→ (rotation_by (neg_ℤ (pos k)) a) b y;
          nearest = λ t g. subst (λ m. m ≤ nat_abs t) (sym (abs_opposite (pos k))) (far t g);
          positive = λ m z g. absurd
              (true≢false (sym (→same (rotation_by (pos k) a) b
              (subst (λ x. rotation_by (pos x) a ≡ b) (sym (sym (abs_opposite (pos k)) ∙ ap nat_abs z)) g)) ∙ e));
        }

  pub nearest_is : IsRotation a b → Nearest a b (nearest_turn a b)
  unfolding nearest_turn nearest_amount
  nearest_is r = by_sign k (f.at (omega (arith, low, r.inside))) far (turns_to a b (pos k)) refl
    where
      k : ℕ
      k = nearest_amount a b

      f : FirstOf (length a) 0 either k
      f = first_of (length a) 0 either

      far : (t : ℤ) → rotation_by t a ≡ b → k ≤ nat_abs t
      far t e = go (le_or k (nat_abs t))
        where
          go : (k ≤ nat_abs t) ⊎ (nat_abs t < k) → k ≤ nat_abs t
          go (inl q) = q
          go (inr q) = absurd (true≢false (sym (either_at t e) ∙ f.before (nat_abs t) (omega arith) q))

      low : k ≤ r.by
      low = far (pos r.by) (gives_up a b r.by r.inside (sym r.is))
