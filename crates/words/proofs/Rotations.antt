-- Rotations by number and by parts: the tests of necklaces and Lyndon words, and what they mean.
use mathlib.Core.Bool.{false≢true, true}
use mathlib.Core.List.{List, [], append-nil, ◌++◌, ◌∷◌}
use mathlib.Core.Path.{ap, refl, subst, sym, ◌∙◌, ◌≡◌}
use Prim.Native.Nat.{suc, ℕ, ◌<◌, ◌≤◌}
use native.Mathlib.Omega.{arith}
use lib.ListN.{drop, drop_of_length-le, get_or, length, length-append, length-drop, length-take, take, take-append-drop}
use lib.Seq.{drop-append_seam, drop-cons, take_all, take-append_seam}
use Rattle.words.proofs.AtMost.{equal, ◌≼◌}
use Rattle.words.proofs.Below.{◌≺◌}
use Rattle.words.proofs.Bounded.{all_below→, →all_below}
use Rattle.words.proofs.Lyndon.{ByRotations, Lyndon, lyndon_size, rotations→suffixes, suffixes→rotations}
use Rattle.words.proofs.OrderTests.{le→, lt→, →le, →lt}
use Rattle.words.proofs.PowerOrder.{Necklace}
use Rattle.words.specs.Order.{le, lt}
use Rattle.words.specs.Rotation.{is_lyndon, is_necklace, rotation}

pub rotation-length : (i : ℕ) (w : List ℕ) → length (rotation i w) ≡ length w
unfolding rotation
rotation-length i w = simp (length-append, length-drop, length-take) (omega arith)

-- from the length on a rotation gives the row back
pub rotation_whole : (i : ℕ) (w : List ℕ) → length w ≤ i → rotation i w ≡ w
unfolding rotation
rotation_whole i w h = rw (drop_of_length-le w h, take_all i w h)

pub rotation_zero : (w : List ℕ) → rotation 0 w ≡ w
unfolding rotation
rotation_zero w = append-nil w

pub rotation_seam : (x y : List ℕ) → rotation (length x) (x ++ y) ≡ y ++ x
unfolding rotation
rotation_seam x y = rw (take-append_seam, drop-append_seam)

pub rotation_parts : (j : ℕ) (w : List ℕ) → w ≡ take j w ++ drop j w
rotation_parts j w = sym (take-append-drop j w)

-- w cut behind its first 1 + j symbols, both parts not empty
pub cons_parts : (c : ℕ) (w : List ℕ) (j : ℕ) → j < length w → c ∷ w ≡ (c ∷ take j w) ++ (get_or w j 0 ∷ drop (suc j) w)
cons_parts c w j h = rw (← drop-cons w j 0 h) (ap (λ r. c ∷ r) (sym (take-append-drop j w)))

-- ---- necklaces

-- at or below each rotation, by its number
abbrev pub ByIndex : List ℕ → Type 0
ByIndex w = (j : ℕ) → j < length w → w ≼ rotation j w

pub index→necklace : (w : List ℕ) → ByIndex w → Necklace w
index→necklace w s x [] e = equal (e ∙ append-nil x)
index→necklace w s x (b ∷ y) e =
    let l : length x < length w = omega (arith, simp length-append at (ap length e)) in
    let t : rotation (length x) w ≡ (b ∷ y) ++ x = ap (rotation (length x)) e ∙ rotation_seam x (b ∷ y) in
    subst (λ r. w ≼ r) t (s (length x) l)

pub necklace→index : (w : List ℕ) → Necklace w → ByIndex w
unfolding rotation
necklace→index w s j h = s (take j w) (drop j w) (rotation_parts j w)

pub is_necklace→ : (w : List ℕ) → is_necklace w ≡ true → Necklace w
unfolding is_necklace
is_necklace→ w e = index→necklace w (λ j h. le→ w (rotation j w) (all_below→ (length w) (λ j. le w (rotation j w)) e j h))

pub →is_necklace : (w : List ℕ) → Necklace w → is_necklace w ≡ true
unfolding is_necklace
→is_necklace w s = →all_below (length w) (λ j. le w (rotation j w)) (λ j h. →le w (rotation j w) (necklace→index w s j h))

-- ---- Lyndon words

pub is_lyndon→ : (w : List ℕ) → is_lyndon w ≡ true → Lyndon w
unfolding is_lyndon
is_lyndon→ [] e = absurd (false≢true e)
is_lyndon→ (c ∷ w) e = record { head = c; tail = w; whole = refl; least = rotations→suffixes (c ∷ w) rotations }
  where
    rotations : ByRotations (c ∷ w)
    rotations a x b y f =
        let l : length x < length w = omega (arith, simp length-append at (ap length f)) in
        let k = lt→ (c ∷ w) (rotation (suc (length x)) (c ∷ w)) (all_below→ (length w) (λ j. lt (c ∷ w) (rotation (suc j) (c ∷ w))) e (length x) l) in
        let t : rotation (suc (length x)) (c ∷ w) ≡ (b ∷ y) ++ (a ∷ x) = ap (rotation (suc (length x))) f ∙ rotation_seam (a ∷ x) (b ∷ y) in
        subst (λ r. (c ∷ w) ≺ r) t k

pub →is_lyndon : (w : List ℕ) → Lyndon w → is_lyndon w ≡ true
unfolding is_lyndon rotation
→is_lyndon [] l = absurd (omega (arith, lyndon_size l))
→is_lyndon (c ∷ w) l = →all_below (length w) (λ j. lt (c ∷ w) (rotation (suc j) (c ∷ w))) (λ j h. →lt (c ∷ w) (rotation (suc j) (c ∷ w)) (at j h))
  where
    at : (j : ℕ) → j < length w → (c ∷ w) ≺ (drop j w ++ (c ∷ take j w))
    at j h = rw (drop-cons w j 0 h) (suffixes→rotations (c ∷ w) l.least c (take j w) (get_or w j 0) (drop (suc j) w) (cons_parts c w j h))
