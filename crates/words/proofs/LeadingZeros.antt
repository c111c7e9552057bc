-- With how many zeros a row begins: one symbol more, and fewer symbols.
use mathlib.Core.List.{List, [], ◌∷◌}
use mathlib.Core.Logic.{inl, inr, ◌⊎◌}
use mathlib.Core.Path.{ap, refl, sym, ◌∙◌, ◌≡◌}
use Prim.Native.Nat.{suc, zero, ℕ, ◌+◌, ◌<◌, ◌≤◌}
use native.Mathlib.Omega.{arith}
use lib.ListN.{get_or-append, length, length-append, take}
use lib.Seq.{get_or_at, get_or-take, length-take-le, take-append-le, take-take}
use Rattle.words.proofs.Below.{le_or}
use Rattle.words.proofs.Zeros.{zeros_more}
use Rattle.words.specs.InnerScan.{Leading, ◌▹◌}
use Rattle.words.specs.Symbols.{zeros}

-- ---- one symbol more

module _ (a : List ℕ) (z : ℕ) (q : Leading a z) where
  more_by : (b : ℕ) → length (a ▹ b) ≡ suc (length a)
  more_by b = length-append a (b ∷ []) ∙ omega arith

  still : (b : ℕ) → take z (a ▹ b) ≡ zeros z
  still b = take-append-le z a (b ∷ []) q.within ∙ q.front

  pub lead_keep : (b : ℕ) → z < length a → Leading (a ▹ b) z
  lead_keep b h = record { within = omega (arith, more_by b); front = still b; then = λ k. rw (get_or-append a (b ∷ []) 0 z h) (q.then h) }

  pub lead_up : Leading (a ▹ 1) z
  lead_up = go (le_or (length a) z)
    where
      go : (length a ≤ z) ⊎ (z < length a) → Leading (a ▹ 1) z
      go (inl k) = record { within = omega (arith, more_by 1, q.within); front = still 1; then = λ l. rw (get_or_at a 1 [] 0 z (omega (arith, q.within))) (omega arith) }
      go (inr h) = lead_keep 1 h

  pub lead_more : z ≡ length a → Leading (a ▹ 0) (z + 1)
  lead_more e = record {
    within = omega (arith, more_by 0);
    front = zeros_more (a ▹ 0) z (omega (arith, more_by 0)) (still 0) (get_or_at a 0 [] 0 z (sym e));
    then = λ k. absurd (omega (arith, more_by 0));
  }

-- ---- the zeros at the front, of fewer symbols

module _ (a : List ℕ) (z q : ℕ) (l : Leading a z) (h : q ≤ length a) where
  size : length (take q a) ≡ q
  size = length-take-le q a h

  take-zeros : (i j : ℕ) → i ≤ j → take i (zeros j) ≡ zeros i
  take-zeros zero j k = refl
  take-zeros (suc i) zero k = absurd (omega arith)
  take-zeros (suc i) (suc j) k = ap (λ w. 0 ∷ w) (take-zeros i j (omega arith))

  pub lead_all : q < z → Leading (take q a) q
  lead_all k = record {
    within = omega (arith, size);
    front = take-take q q a (omega arith) ∙ sym (take-take q z a (omega arith)) ∙ ap (take q) l.front ∙ take-zeros q z (omega arith);
    then = λ m. absurd (omega (arith, size));
  }

  pub lead_some : z ≤ q → Leading (take q a) z
  lead_some k = record {
    within = omega (arith, size);
    front = take-take z q a k ∙ l.front;
    then = λ m. rw (get_or-take q a z 0 (omega (arith, size))) (l.then (omega (arith, size)));
  }

-- ---- a symbol that is put behind i others: a 0 behind zeros, any behind another symbol, a 1
pub lead_on : {a : List ℕ} {z : ℕ} (c i z' : ℕ) → Leading a z → length a ≡ i → c ≡ 0 → z ≡ i → z' ≡ i + 1 → Leading (a ▹ c) z'
lead_on {a} {z} c i z' q l e f g = rw (e, g, ← f) (lead_more a z q (omega arith))

pub lead_past : {a : List ℕ} {z : ℕ} (c i z' : ℕ) → Leading a z → length a ≡ i → (z ≡ i → ⊥) → z' ≡ z → Leading (a ▹ c) z'
lead_past {a} {z} c i z' q l f g = rw g (lead_keep a z q c (omega (arith, f, q.within)))

pub lead_one : {a : List ℕ} {z : ℕ} (c z' : ℕ) → Leading a z → c ≤ 1 → (c ≡ 0 → ⊥) → z' ≡ z → Leading (a ▹ c) z'
lead_one {a} {z} c z' q l f g = let one : c ≡ 1 = omega (arith, f) in rw (one, g) (lead_up a z q)
