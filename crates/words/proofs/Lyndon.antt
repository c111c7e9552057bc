-- Lyndon words by rotations and by suffixes, and joined.
use mathlib.Core.List.{List, [], ◌++◌, ◌∷◌}
use mathlib.Core.Logic.{inl, inr, ◌⊎◌}
use mathlib.Core.Path.{ap, refl, subst, sym, ◌∙◌, ◌≡◌}
use Prim.Native.Nat.{Ordering, ℕ, ◌<◌}
use native.Mathlib.Omega.{arith}
use lib.ListN.{length, length-append}
use Rattle.words.proofs.Below.{Means, cmp_means, is_eq, is_gt, is_less, longer, ≺_asym, ≺_strip, ≺_trans, ≺_under, ◌≺◌}
use Rattle.words.proofs.Cut.{Cut, levi}
use Rattle.words.proofs.FirstDifference.{More, ext, ext_left, same_length, ≺_cases, ◌≪◌}

-- w is below each of its rotations but the whole, written by its two parts
abbrev pub ByRotations : List ℕ → Type 0
ByRotations w = (a : ℕ) (x : List ℕ) (b : ℕ) (y : List ℕ) → w ≡ (a ∷ x) ++ (b ∷ y) → w ≺ ((b ∷ y) ++ (a ∷ x))

-- w is below each of its proper suffixes that is not empty
abbrev pub BySuffixes : List ℕ → Type 0
BySuffixes w = (a : ℕ) (x : List ℕ) (b : ℕ) (y : List ℕ) → w ≡ (a ∷ x) ++ (b ∷ y) → w ≺ (b ∷ y)

-- ---- by rotations exactly if by suffixes

pub suffixes→rotations : (w : List ℕ) → BySuffixes w → ByRotations w
suffixes→rotations w s a x b y e = ≺_trans (s a x b y e) (longer (b ∷ y) a x)

pub rotations→suffixes : (w : List ℕ) → ByRotations w → BySuffixes w
rotations→suffixes w t a x b y e = go (cmp_means w (b ∷ y))
  where
    bad : More (b ∷ y) w ⊎ (◌≪◌ (b ∷ y) w) → ⊥
    bad (inl m) =
        let zx : (m.c ∷ m.z) ≺ (a ∷ x) = ≺_strip (b ∷ y) {a = m.c ∷ m.z} {b = a ∷ x} (rw m.is at (t a x b y e)) in
        let same : length (m.c ∷ m.z) ≡ length (a ∷ x) = omega (arith, simp length-append at (ap length (sym e ∙ m.is))) in
        let xz : ((a ∷ x) ++ (b ∷ y)) ≺ ((m.c ∷ m.z) ++ (b ∷ y)) = rw e at (t b y m.c m.z m.is) in
        ≺_asym xz (ext (same_length zx same) (b ∷ y) (b ∷ y))
    bad (inr h) = ≺_asym (t a x b y e) (ext_left h (a ∷ x))

    go : {o : Ordering} → Means ◌≺◌ w (b ∷ y) o → w ≺ (b ∷ y)
    go (is_less h) = h
    go (is_eq p) = absurd (omega (arith, simp length-append at (ap length (sym e ∙ p))))
    go (is_gt h) = absurd (bad (≺_cases h))

-- ---- Lyndon words

pub record Lyndon (w : List ℕ) : Type 0 where
  pub head : ℕ
  pub tail : List ℕ
  pub whole : w ≡ head ∷ tail
  pub least : BySuffixes w

pub lyndon_size : {w : List ℕ} → Lyndon w → 0 < length w
lyndon_size l = omega (arith, ap length l.whole)

pub lyndon_of : (w : List ℕ) → 0 < length w → BySuffixes w → Lyndon w
lyndon_of [] h s = absurd (omega arith)
lyndon_of (a ∷ w) h s = record { head = a; tail = w; whole = refl; least = s }

pub suffix : {w : List ℕ} → Lyndon w → (x y : List ℕ) → w ≡ x ++ y → 0 < length x → 0 < length y → w ≺ y
suffix l [] y e h k = absurd (omega arith)
suffix l (a ∷ x) [] e h k = absurd (omega arith)
suffix l (a ∷ x) (b ∷ y) e h k = l.least a x b y e

-- a Lyndon word and its suffix differ within the suffix
pub suffix_differs : {w : List ℕ} → Lyndon w → (x y : List ℕ) → w ≡ x ++ y → 0 < length x → 0 < length y → ◌≪◌ w y
suffix_differs {w} l x y e h k = go (≺_cases (suffix l x y e h k))
  where
    go : More w y ⊎ (◌≪◌ w y) → ◌≪◌ w y
    go (inl m) = absurd (omega (arith, simp length-append at (ap length e), simp length-append at (ap length m.is)))
    go (inr d) = d

-- ---- u ≺ v, both Lyndon: u v is a Lyndon word, below v

pub join_below : {u v : List ℕ} → Lyndon u → Lyndon v → u ≺ v → (u ++ v) ≺ v
join_below {u} {v} lu lv h = go (≺_cases h)
  where
    go : More u v ⊎ (◌≪◌ u v) → (u ++ v) ≺ v
    go (inl m) =
        let vz : v ≺ (m.c ∷ m.z) = lv.least lu.head lu.tail m.c m.z (m.is ∙ ap (λ r. r ++ (m.c ∷ m.z)) lu.whole) in
        let k : (u ++ v) ≺ (u ++ (m.c ∷ m.z)) = ≺_under u vz in
        rw (← m.is) at k
    go (inr k) = ext_left k v

pub join : {u v : List ℕ} → Lyndon u → Lyndon v → u ≺ v → Lyndon (u ++ v)
join {u} {v} lu lv h = record { head = lu.head; tail = lu.tail ++ v; whole = ap (λ r. r ++ v) lu.whole; least = least }
  where
    in_u : (a : ℕ) (x : List ℕ) (b : ℕ) (y : List ℕ) (c : ℕ) (r : List ℕ) → u ≡ (a ∷ x) ++ (c ∷ r) → (b ∷ y) ≡ (c ∷ r) ++ v → (u ++ v) ≺ (b ∷ y)
    in_u a x b y c r e f = rw f (go (≺_cases (lu.least a x c r e)))
      where
        go : More u (c ∷ r) ⊎ (◌≪◌ u (c ∷ r)) → (u ++ v) ≺ ((c ∷ r) ++ v)
        go (inl m) = absurd (omega (arith, simp length-append at (ap length e), simp length-append at (ap length m.is)))
        go (inr k) = ext k v v

    whole_v : (b : ℕ) (y : List ℕ) → v ≡ (b ∷ y) → (u ++ v) ≺ (b ∷ y)
    whole_v b y f = subst (λ s. (u ++ v) ≺ s) f (join_below lu lv h)

    in_v : (a : ℕ) (x : List ℕ) (b : ℕ) (y : List ℕ) (r : List ℕ) → (a ∷ x) ≡ u ++ r → v ≡ r ++ (b ∷ y) → (u ++ v) ≺ (b ∷ y)
    in_v a x b y [] e f = whole_v b y f
    in_v a x b y (c ∷ r) e f = ≺_trans (join_below lu lv h) (lv.least c r b y f)

    in_u₀ : (a : ℕ) (x : List ℕ) (b : ℕ) (y : List ℕ) (r : List ℕ) → u ≡ (a ∷ x) ++ r → (b ∷ y) ≡ r ++ v → (u ++ v) ≺ (b ∷ y)
    in_u₀ a x b y [] e f = whole_v b y (sym f)
    in_u₀ a x b y (c ∷ r) e f = in_u a x b y c r e f

    pick : (a : ℕ) (x : List ℕ) (b : ℕ) (y : List ℕ) → Cut (a ∷ x) u v (b ∷ y) ⊎ Cut u (a ∷ x) (b ∷ y) v → (u ++ v) ≺ (b ∷ y)
    pick a x b y (inl k) = in_v a x b y k.r k.left k.right
    pick a x b y (inr k) = in_u₀ a x b y k.r k.left k.right

    least : BySuffixes (u ++ v)
    least a x b y e = pick a x b y (levi u v (a ∷ x) (b ∷ y) e)
