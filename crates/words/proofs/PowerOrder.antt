-- Necklaces by their parts; powers and the order.
use mathlib.Core.List.{List, [], append_assoc, append-nil, nil≢cons, ◌++◌, ◌∷◌}
use mathlib.Core.Logic.{inl, inr, ◌⊎◌}
use mathlib.Core.Path.{ap, refl, sym, ◌∙◌, ◌≡◌}
use Prim.Native.Nat.{suc, zero, ℕ, ◌+◌}
use native.Mathlib.Omega.{arith}
use lib.ListN.{length, length-append}
use Rattle.words.proofs.AtMost.{equal, lower, ≼_ext, ◌≼◌}
use Rattle.words.proofs.Below.{◌≺◌}
use Rattle.words.proofs.Cut.{Cut, levi}
use Rattle.words.proofs.FirstDifference.{ext, same_length}
use Rattle.words.proofs.Lyndon.{Lyndon, suffixes→rotations}
use Rattle.words.proofs.Power.{power, power_add, power_slide}

-- w is at or below each of its rotations, written by its two parts
abbrev pub Necklace : List ℕ → Type 0
Necklace w = (x y : List ℕ) → w ≡ x ++ y → w ≼ (y ++ x)

pub lyndon→necklace : {w : List ℕ} → Lyndon w → Necklace w
lyndon→necklace l [] y e = equal (e ∙ sym (append-nil y))
lyndon→necklace l (a ∷ x) [] e = equal (e ∙ append-nil (a ∷ x))
lyndon→necklace {w} l (a ∷ x) (b ∷ y) e = lower (suffixes→rotations w l.least a x b y e)

-- ---- powers keep the order of rows of one length

pub power_mono : (k : ℕ) {u v : List ℕ} → length u ≡ length v → u ≼ v → power k u ≼ power k v
unfolding power
power_mono zero e h = equal refl
power_mono (suc k) e h = ≼_ext e h (power_mono k e h)

pub power_strict : (k : ℕ) {u v : List ℕ} → length u ≡ length v → u ≺ v → power (suc k) u ≺ power (suc k) v
unfolding power
power_strict k {u} {v} e h = ext (same_length h e) (power k u) (power k v)

-- ---- rotations of a power

-- where a power is cut in two: i copies and p before, q and j copies behind
pub record PowerCut (u x y : List ℕ) (k : ℕ) : Type 0 where
  pub i : ℕ
  pub j : ℕ
  pub p : List ℕ
  pub q : List ℕ
  pub copies : k ≡ suc (j + i)
  pub left : x ≡ power i u ++ p
  pub right : y ≡ q ++ power j u
  pub whole : u ≡ p ++ q

pub cut_power : (k : ℕ) (u x : List ℕ) (b : ℕ) (y : List ℕ) → power k u ≡ x ++ (b ∷ y) → PowerCut u x (b ∷ y) k
unfolding power
cut_power zero u [] b y e = absurd (nil≢cons e)
cut_power zero u (a ∷ x) b y e = absurd (nil≢cons e)
cut_power (suc k) u x b y e = go (cut_power k u) (levi u (power k u) x (b ∷ y) e)
  where
    deeper : (r : List ℕ) → x ≡ u ++ r → PowerCut u r (b ∷ y) k → PowerCut u x (b ∷ y) (suc k)
    deeper r f c = record {
      i = suc c.i;
      j = c.j;
      p = c.p;
      q = c.q;
      copies = omega (arith, c.copies);
      left = f ∙ ap (λ w. u ++ w) c.left ∙ sym (append_assoc u (power c.i u) c.p);
      right = c.right;
      whole = c.whole;
    }

    go : ((x : List ℕ) (b : ℕ) (y : List ℕ) → power k u ≡ x ++ (b ∷ y) → PowerCut u x (b ∷ y) k)
        → Cut x u (power k u) (b ∷ y) ⊎ Cut u x (b ∷ y) (power k u) → PowerCut u x (b ∷ y) (suc k)
    go ih (inl c) = deeper c.r c.left (ih c.r b y c.right)
    go ih (inr c) = record { i = 0; j = k; p = x; q = c.r; copies = omega arith; left = refl; right = c.right; whole = c.left }

-- a rotation of a power is the power of a rotation
pub rotate_power : {u x y : List ℕ} {k : ℕ} (c : PowerCut u x y k) → y ++ x ≡ power k (c.q ++ c.p)
unfolding power
rotate_power {u} {x} {y} {k} c =
    let mid : y ++ x ≡ c.q ++ (power (c.j + c.i) u ++ c.p) = rw (c.right, c.left, power_add c.j c.i u) (simp append_assoc) in
    let slid : power (c.j + c.i) u ++ c.p ≡ c.p ++ power (c.j + c.i) (c.q ++ c.p) = ap (λ w. power (c.j + c.i) w ++ c.p) c.whole ∙ sym (power_slide (c.j + c.i) c.p c.q) in
    mid ∙ ap (λ w. c.q ++ w) slid ∙ sym (append_assoc c.q c.p (power (c.j + c.i) (c.q ++ c.p))) ∙ ap (λ t. power t (c.q ++ c.p)) (sym c.copies)

-- ---- a power of a Lyndon word is a necklace

pub power_necklace : {u : List ℕ} → Lyndon u → (k : ℕ) → Necklace (power k u)
power_necklace l k x [] e = equal (e ∙ append-nil x)
power_necklace {u} l k x (b ∷ y) e =
    let c = cut_power k u x b y e in
    let same : length u ≡ length (c.q ++ c.p) = omega (arith, simp length-append at (ap length c.whole), length-append c.q c.p) in
    rw (rotate_power c) (power_mono k same (lyndon→necklace l c.p c.q c.whole))
