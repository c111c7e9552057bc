-- The least of a row's first k rotations, none of which repeats it, and what its first repeat tells.
use mathlib.Core.List.{List}
use mathlib.Core.Logic.{inl, inr, ◌⊎◌}
use mathlib.Core.Path.{ap, sym, ◌∙◌, ◌≡◌}
use Prim.Native.Nat.{ℕ, ◌+◌, ◌-◌, ◌<◌, ◌≤◌}
use native.Mathlib.Nat.{eq-or-lt_of_le}
use native.Mathlib.Omega.{arith}
use lib.ListN.{length}
use Rattle.words.proofs.AtMost.{lower, ◌≼◌}
use Rattle.words.proofs.Below.{le_or, ≺_irrefl, ◌≺◌}
use Rattle.words.proofs.Induction.{strong}
use Rattle.words.proofs.LeastRotation.{LeastOf, least_is, least_keep, least_start, least_take}
use Rattle.words.proofs.Periods.{period_is}
use Rattle.words.proofs.RotationAgain.{fixed_rotation, rotation_again, rotation_fixed, rotation_past}
use Rattle.words.proofs.Rotations.{rotation_whole}
use Rattle.words.specs.Rotation.{least_index, period, rotation}

-- the first k rotations are seen: the least of them lies at b, and none behind it is its equal
pub record Seen (w : List ℕ) (k b : ℕ) : Type 0 where
  pub least : LeastOf w k b
  pub apart : (i : ℕ) → b < i → i < k → rotation b w ≺ rotation i w

pub seen_start : (w : List ℕ) → Seen w 1 0
seen_start w = record { least = least_start w; apart = λ i h l. absurd (omega arith) }

-- the next rotation is higher
pub seen_keep : {w : List ℕ} {k b : ℕ} → Seen w k b → rotation b w ≺ rotation k w → Seen w (k + 1) b
seen_keep {w} {k} {b} s q = record { least = least_keep s.least (lower q); apart = λ i h l. pick i (le_or k i) h l }
  where
    pick : (i : ℕ) → (k ≤ i) ⊎ (i < k) → b < i → i < k + 1 → rotation b w ≺ rotation i w
    pick i (inl m) h l = let e : i ≡ k = omega arith in rw e q
    pick i (inr m) h l = s.apart i h m

-- the next rotation is lower
pub seen_take : {w : List ℕ} {k b : ℕ} → Seen w k b → rotation k w ≺ rotation b w → Seen w (k + 1) k
seen_take s q = record { least = least_take s.least q; apart = λ i h l. absurd (omega arith) }

-- all rotations but the least lie above it
others : {w : List ℕ} {k b : ℕ} → Seen w k b → (i : ℕ) → i < k → (i ≡ b → ⊥) → rotation b w ≺ rotation i w
others {w} {k} {b} s i h n = go (le_or b i)
  where
    past : (b ≡ i) ⊎ (b < i) → rotation b w ≺ rotation i w
    past (inl e) = absurd (n (sym e))
    past (inr l) = s.apart i l h

    go : (b ≤ i) ⊎ (i < b) → rotation b w ≺ rotation i w
    go (inl l) = past (eq-or-lt_of_le l)
    go (inr l) = s.least.first i l

-- ---- all rotations are seen, and none repeats the least

pub seen_all : (w : List ℕ) (b : ℕ) → Seen w (length w) b → (least_index w ≡ b) × (period w ≡ length w)
seen_all w b s = (least_is w b s.least, period_is w (length w) (record { low = omega arith; high = omega arith; back = rotation_whole (length w) w (omega arith); before = before }))
  where
    inside : b < length w
    inside = s.least.inside

    before : (i : ℕ) → 1 ≤ i → i < length w → rotation i w ≡ w → ⊥
    before i a l e = go (le_or (length w) (b + i))
      where
        back : rotation i (rotation b w) ≡ rotation b w
        back = fixed_rotation w i b (omega arith) (omega (arith, inside)) e

        bad : (k : ℕ) → k < length w → (k ≡ b → ⊥) → rotation i (rotation b w) ≡ rotation k w → ⊥
        bad k h n f = ≺_irrefl (rw (sym f ∙ back) at (others s k h n))

        go : (length w ≤ b + i) ⊎ (b + i < length w) → ⊥
        go (inl h) = bad (b + i - length w) (omega (arith, inside)) (λ q. omega arith) (rotation_past w i b (omega arith) (omega (arith, inside)) h)
        go (inr h) = bad (b + i) h (λ q. omega arith) (rotation_again w i b (omega arith))

-- ---- a rotation repeats the least

module _ (w : List ℕ) (k b : ℕ) (s : Seen w k b) (hk : k < length w) (e : rotation k w ≡ rotation b w) where
  inside : b < k
  inside = s.least.inside

  -- from b to k the row comes back
  back : rotation (k - b) w ≡ w
  back =
      let q : rotation (k - b) (rotation b w) ≡ rotation b w = rotation_again w (k - b) b (omega (arith, inside)) ∙ ap (λ j. rotation j w) (omega (arith, inside)) ∙ e in
      rotation_fixed w (k - b) b (omega arith) (omega (arith, inside)) q

  before : (i : ℕ) → 1 ≤ i → i < k - b → rotation i w ≡ w → ⊥
  before i a l f =
      let q : rotation (b + i) w ≡ rotation b w = sym (rotation_again w i b (omega arith)) ∙ fixed_rotation w i b (omega arith) (omega (arith, inside)) f in
      ≺_irrefl (rw q at (s.apart (b + i) (omega arith) (omega arith)))

  -- each later rotation is an earlier one
  low : (i : ℕ) → i < length w → rotation b w ≼ rotation i w
  low = strong P step
    where
      P : ℕ → Type 0
      P i = i < length w → rotation b w ≼ rotation i w

      step : (i : ℕ) → ((m : ℕ) → m < i → P m) → P i
      step i ih h = go (le_or k i)
        where
          again : k ≤ i → rotation (i - (k - b)) w ≡ rotation i w
          again l = ap (rotation (i - (k - b))) (sym back) ∙ rotation_again w (i - (k - b)) (k - b) (omega arith) ∙ ap (λ j. rotation j w) (omega (arith, inside))

          go : (k ≤ i) ⊎ (i < k) → rotation b w ≼ rotation i w
          go (inl l) = rw (again l) at (ih (i - (k - b)) (omega (arith, inside)) (omega arith))
          go (inr l) = s.least.low i l

  pub seen_repeat : (least_index w ≡ b) × (period w ≡ k - b)
  seen_repeat =
      (least_is w b (record { inside = omega (arith, inside); low = low; first = s.least.first }), period_is w (k - b) (record { low = omega (arith, inside); high = omega arith; back = back; before = before }))
