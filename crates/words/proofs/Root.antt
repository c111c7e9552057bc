-- Every necklace is a power of a Lyndon word, whose length is the period.
use mathlib.Core.Bool.{Bool, false, true, true≢false}
use mathlib.Core.List.{List, [], append_assoc, append-nil, nil≢cons, ◌++◌, ◌∷◌}
use mathlib.Core.Logic.{inl, inr, ◌⊎◌}
use mathlib.Core.Path.{ap, ap₂, refl, sym, ◌∙◌, ◌≡◌}
use Prim.Native.Nat.{pred, suc, zero, ℕ, ◌*◌, ◌+◌, ◌-◌, ◌<◌, ◌≤◌}
use native.Mathlib.Nat.{suc-add}
use native.Mathlib.Omega.{arith}
use lib.ListN.{drop, get_or, length, length-append, length-drop, take}
use lib.Seq.{drop-cons, length-take-le}
use Rattle.words.proofs.AtMost.{equal, lower, not_both, ≺-≼_trans, ≼-append, ≼_or, ◌≼◌}
use Rattle.words.proofs.Below.{◌≺◌}
use Rattle.words.proofs.Bounded.{fails_at, first_is, pred_size}
use Rattle.words.proofs.Induction.{strong}
use Rattle.words.proofs.Lyndon.{Lyndon, lyndon_size, suffix}
use Rattle.words.proofs.OrderTests.{not_same, →lt, →same}
use Rattle.words.proofs.Power.{commute, power, power_add, power_length, power_power, power_slide, power_snoc}
use Rattle.words.proofs.PowerOrder.{Necklace, power_strict}
use Rattle.words.proofs.Rotations.{cons_parts, is_lyndon→, rotation_parts, rotation_seam}
use Rattle.words.specs.Order.{lt, same}
use Rattle.words.specs.Rotation.{is_lyndon, period, rotation}

-- ---- a necklace is a Lyndon word, or has two parts that commute

record Halves (w : List ℕ) : Type 0 where
  a : ℕ
  x : List ℕ
  b : ℕ
  y : List ℕ
  whole : w ≡ (a ∷ x) ++ (b ∷ y)
  swap : (a ∷ x) ++ (b ∷ y) ≡ (b ∷ y) ++ (a ∷ x)

either : (c : ℕ) (w : List ℕ) → Necklace (c ∷ w) → Lyndon (c ∷ w) ⊎ Halves (c ∷ w)
unfolding is_lyndon rotation
either c w s = go (is_lyndon (c ∷ w)) refl
  where
    halves : (j : ℕ) × (j < length w) × (lt (c ∷ w) (rotation (suc j) (c ∷ w)) ≡ false) → Halves (c ∷ w)
    halves r = record { a = c; x = take j w; b = get_or w j 0; y = drop (suc j) w; whole = e; swap = sym e ∙ fixed (s (c ∷ take j w) (get_or w j 0 ∷ drop (suc j) w) e) }
      where
        j : ℕ
        j = r.0

        e : c ∷ w ≡ (c ∷ take j w) ++ (get_or w j 0 ∷ drop (suc j) w)
        e = cons_parts c w j r.1

        v : List ℕ
        v = (get_or w j 0 ∷ drop (suc j) w) ++ (c ∷ take j w)

        not_below : lt (c ∷ w) v ≡ false
        not_below = rw (drop-cons w j 0 r.1) at r.2

        fixed : (c ∷ w) ≼ v → c ∷ w ≡ v
        fixed (equal q) = q
        fixed (lower q) = absurd (true≢false (sym (→lt (c ∷ w) v q) ∙ not_below))

    go : (t : Bool) → is_lyndon (c ∷ w) ≡ t → Lyndon (c ∷ w) ⊎ Halves (c ∷ w)
    go true e = inl (is_lyndon→ (c ∷ w) e)
    go false e = inr (halves (fails_at (length w) (λ j. lt (c ∷ w) (rotation (suc j) (c ∷ w))) e))

-- ---- the root of a power that is a necklace is one

-- a power at or below the power of a row as long: so is the row
root_le : (k : ℕ) (u v : List ℕ) → length u ≡ length v → power (suc k) u ≼ power (suc k) v → u ≼ v
root_le k u v l h = go (≼_or u v)
  where
    go : (u ≼ v) ⊎ (v ≺ u) → u ≼ v
    go (inl q) = q
    go (inr q) = absurd (not_both (power_strict k (sym l) q) h)

pub root_necklace : (k : ℕ) (z : List ℕ) → Necklace (power (suc k) z) → Necklace z
unfolding power
root_necklace k z s x y e = root_le k z (y ++ x) long (rw round at (s x (y ++ power k z) cut_at))
  where
    long : length z ≡ length (y ++ x)
    long = omega (arith, simp length-append at (ap length e), length-append y x)

    cut_at : power (suc k) z ≡ x ++ (y ++ power k z)
    cut_at = ap (λ r. r ++ power k z) e ∙ append_assoc x y (power k z)

    round : (y ++ power k z) ++ x ≡ power (suc k) (y ++ x)
    round = append_assoc y (power k z) x ∙ ap (λ r. y ++ (power k r ++ x)) e ∙ ap (λ r. y ++ r) (sym (power_slide k x y)) ∙ sym (append_assoc y x (power k (y ++ x)))

-- ---- the root of a necklace

pub record Root (w : List ℕ) : Type 0 where
  pub u : List ℕ
  pub k : ℕ
  pub lyn : Lyndon u
  pub is : w ≡ power (suc k) u

-- a power of a power
lift : {w z : List ℕ} (m : ℕ) → w ≡ power (suc m) z → Root z → Root w
lift {w} {z} m e r = record {
  u = r.u;
  k = m * suc r.k + r.k;
  lyn = r.lyn;
  is = e ∙ ap (power (suc m)) r.is ∙ power_power (suc m) (suc r.k) r.u ∙ ap (λ t. power t r.u) (omega arith);
}

one_power : {w : List ℕ} → Lyndon w → Root w
unfolding power
one_power {w} l = record { u = w; k = 0; lyn = l; is = sym (append-nil w) }

factor_pos : (t i l : ℕ) → suc t ≡ i * l → 0 < l
factor_pos t i zero e = absurd (omega arith)
factor_pos t i (suc l) e = omega arith

pub root : (w : List ℕ) → 0 < length w → Necklace w → Root w
unfolding power
root w p s = strong P step (length w) w refl p s
  where
    P : ℕ → Type 0
    P n = (w : List ℕ) → length w ≡ n → 0 < length w → Necklace w → Root w

    step : (n : ℕ) → ((m : ℕ) → m < n → P m) → P n
    step n ih [] l p s = absurd (omega arith)
    step n ih (c ∷ w) l p s = pick (either c w s)
      where
        split : (h : Halves (c ∷ w)) (z : List ℕ) (i j : ℕ) → (h.a ∷ h.x) ≡ power i z → (h.b ∷ h.y) ≡ power j z → Root (c ∷ w)
        split h z zero j e f = absurd (nil≢cons (sym e))
        split h z (suc i) zero e f = absurd (nil≢cons (sym f))
        split h z (suc i) (suc j) e f = lift (i + suc j) whole (ih (length z) short_z z refl some (root_necklace (i + suc j) z (rw whole at s)))
          where
            whole : c ∷ w ≡ power (suc (i + suc j)) z
            whole = h.whole ∙ ap₂ (λ (s t : List ℕ). s ++ t) e f ∙ sym (power_add (suc i) (suc j) z) ∙ ap (λ t. power t z) (suc-add i (suc j))

            lx : length (h.a ∷ h.x) ≡ suc i * length z
            lx = ap length e ∙ power_length (suc i) z

            ly : length (h.b ∷ h.y) ≡ suc j * length z
            ly = ap length f ∙ power_length (suc j) z

            short_z : length z < n
            short_z = omega (arith, lx, ly, simp length-append at (ap length h.whole))

            some : 0 < length z
            some = factor_pos (length h.x) (suc i) (length z) lx

        pick : Lyndon (c ∷ w) ⊎ Halves (c ∷ w) → Root (c ∷ w)
        pick (inl q) = one_power q
        pick (inr h) = let m = commute (h.a ∷ h.x) (h.b ∷ h.y) h.swap in split h m.z m.i m.j m.left m.right

-- ---- the length of the root is the period

module _ (u : List ℕ) (l : Lyndon u) (k : ℕ) where
  root_back : rotation (length u) (power (suc k) u) ≡ power (suc k) u
  unfolding power
  root_back = rotation_seam u (power k u) ∙ sym (power_snoc k u)

  -- a rotation by less than the root lies above
  root_above : (i : ℕ) → 1 ≤ i → i < length u → power (suc k) u ≺ rotation i (power (suc k) u)
  unfolding power
  root_above i h q =
      let x = take i u in
      let y = drop i u in
      let e : u ≡ x ++ y = rotation_parts i u in
      let lx : length x ≡ i = length-take-le i u (omega arith) in
      let ly : length y ≡ length u - i = length-drop i u in
      let size : length u ≡ length (y ++ x) = omega (arith, length-append y x) in
      let up : u ≺ (y ++ x) = ≺-≼_trans (suffix l x y e (omega arith) (omega arith)) (≼-append y x) in
      let cut_at : power (suc k) u ≡ x ++ (y ++ power k u) = ap (λ r. r ++ power k u) e ∙ append_assoc x y (power k u) in
      let round : (y ++ power k u) ++ x ≡ power (suc k) (y ++ x) = append_assoc y (power k u) x ∙ ap (λ r. y ++ (power k r ++ x)) e ∙ ap (λ r. y ++ r) (sym (power_slide k x y)) ∙ sym (append_assoc y x (power k (y ++ x))) in
      let turned : rotation i (power (suc k) u) ≡ power (suc k) (y ++ x) = ap (rotation i) cut_at ∙ ap (λ j. rotation j (x ++ (y ++ power k u))) (sym lx) ∙ rotation_seam x (y ++ power k u) ∙ round in
      rw turned (power_strict k size up)

  pub root_period : period (power (suc k) u) ≡ length u
  unfolding period
  root_period =
      let n = power_length (suc k) u in
      let p = lyndon_size l in
      first_is (pred (length (power (suc k) u))) 1 (length u) (λ p. same (rotation p (power (suc k) u)) (power (suc k) u)) p (omega (arith, pred_size (length (power (suc k) u)) (omega arith)))
      (λ i h q. not_same _ _ (root_above i h q))
      (λ h. →same _ _ root_back)

-- w is the power of a Lyndon word whose length is w's period
pub root_of : (w : List ℕ) (r : Root w) → period w ≡ length r.u
root_of w r = ap period r.is ∙ root_period r.u r.lyn r.k
