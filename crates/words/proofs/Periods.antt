-- The period of a row: it divides the length, is the same for all rotations, and is the length in Lyndon words alone.
use mathlib.Core.Bool.{Bool, and-eq-true_iff, false, true, true≢false, ◌&&◌}
use mathlib.Core.List.{List, ◌++◌, ◌∷◌}
use mathlib.Core.Logic.{inl, inr, ◌⊎◌}
use mathlib.Core.Path.{ap, refl, sym, ◌∙◌, ◌≡◌}
use Prim.Native.Nat.{pred, ℕ, ◌+◌, ◌-◌, ◌<◌, ◌≤◌}
use native.Mathlib.Omega.{arith}
use lib.Dec.{eqb}
use lib.ListN.{drop, length, length-append, length-drop, take}
use lib.Seq.{length-take-le}
use borrow.Author.Tests.{eq-eqb, eqb-true}
use Rattle.words.proofs.AtMost.{equal, lower, ≺-≼_trans, ≼-append, ◌≼◌}
use Rattle.words.proofs.Below.{le_or, ≺_irrefl, ◌≺◌}
use Rattle.words.proofs.Booleans.{never}
use Rattle.words.proofs.Bounded.{FirstOf, first_is, first_of, pred_size}
use Rattle.words.proofs.Lyndon.{Lyndon, lyndon_of, lyndon_size, rotations→suffixes, suffix}
use Rattle.words.proofs.OrderTests.{same→, →same}
use Rattle.words.proofs.PowerOrder.{Necklace, lyndon→necklace}
use Rattle.words.proofs.Rotations.{is_lyndon→, is_necklace→, rotation_parts, rotation_seam, rotation_whole, →is_lyndon, →is_necklace}
use Rattle.words.specs.Order.{same}
use Rattle.words.specs.Rotation.{is_lyndon, is_necklace, period, rotation}

-- ---- the definition's number

-- p is the first of 1, 2, .. whose rotation gives the row back
pub record PeriodOf (w : List ℕ) (p : ℕ) : Type 0 where
  pub low : 1 ≤ p
  pub high : p ≤ length w
  pub back : rotation p w ≡ w
  pub before : (i : ℕ) → 1 ≤ i → i < p → rotation i w ≡ w → ⊥

pub period_is : (w : List ℕ) (p : ℕ) → PeriodOf w p → period w ≡ p
unfolding period
period_is w p m =
    let size = pred_size (length w) (omega (arith, m.low, m.high)) in
    first_is (pred (length w)) 1 p (λ p. same (rotation p w) w) m.low (omega (arith, m.high))
    (λ i h l. never (same (rotation i w) w) (λ e. m.before i h l (same→ (rotation i w) w e)))
    (λ h. →same (rotation p w) w m.back)

pub period_of : (w : List ℕ) → 0 < length w → PeriodOf w (period w)
unfolding period
period_of w h = record { low = f.low; high = omega (arith, f.high); back = back (le_or (length w) (period w)); before = before }
  where
    size : 1 + pred (length w) ≡ length w
    size = pred_size (length w) h

    f : FirstOf (pred (length w)) 1 (λ p. same (rotation p w) w) (period w)
    f = first_of (pred (length w)) 1 (λ p. same (rotation p w) w)

    back : (length w ≤ period w) ⊎ (period w < length w) → rotation (period w) w ≡ w
    back (inl l) = rotation_whole (period w) w l
    back (inr l) = same→ (rotation (period w) w) w (f.at (omega arith))

    before : (i : ℕ) → 1 ≤ i → i < period w → rotation i w ≡ w → ⊥
    before i a l e = true≢false (sym (→same (rotation i w) w e) ∙ f.before i a l)

-- ---- Lyndon words

pub lyndon_period : (w : List ℕ) → Lyndon w → period w ≡ length w
unfolding rotation
lyndon_period w l = period_is w (length w) (record { low = lyndon_size l; high = omega arith; back = rotation_whole (length w) w (omega arith); before = before })
  where
    before : (i : ℕ) → 1 ≤ i → i < length w → rotation i w ≡ w → ⊥
    before i a b e =
        let lx : length (take i w) ≡ i = length-take-le i w (omega arith) in
        let ly : length (drop i w) ≡ length w - i = length-drop i w in
        let up : w ≺ rotation i w = ≺-≼_trans (suffix l (take i w) (drop i w) (rotation_parts i w) (omega arith) (omega arith)) (≼-append (drop i w) (take i w)) in
        ≺_irrefl (rw e at up)

-- a necklace whose period is its length is a Lyndon word
pub period_lyndon : (w : List ℕ) → 0 < length w → Necklace w → period w ≡ length w → Lyndon w
period_lyndon w h s e = lyndon_of w h (rotations→suffixes w (λ a x b y f. go a x b y f (s (a ∷ x) (b ∷ y) f)))
  where
    go : (a : ℕ) (x : List ℕ) (b : ℕ) (y : List ℕ) → w ≡ (a ∷ x) ++ (b ∷ y) → w ≼ ((b ∷ y) ++ (a ∷ x)) → w ≺ ((b ∷ y) ++ (a ∷ x))
    go a x b y f (lower q) = q
    go a x b y f (equal q) =
        let l : length w ≡ length (a ∷ x) + length (b ∷ y) = ap length f ∙ length-append (a ∷ x) (b ∷ y) in
        let t : rotation (length (a ∷ x)) w ≡ w = ap (rotation (length (a ∷ x))) f ∙ rotation_seam (a ∷ x) (b ∷ y) ∙ sym q in
        absurd ((period_of w h).before (length (a ∷ x)) (omega arith) (omega arith) t)

-- the test of a Lyndon word, by the test of a necklace and the period
pub lyndon_test : (w : List ℕ) → 0 < length w → is_lyndon w ≡ (is_necklace w && eqb (period w) (length w))
lyndon_test w h = go (is_necklace w && eqb (period w) (length w)) refl
  where
    go : (t : Bool) → (is_necklace w && eqb (period w) (length w)) ≡ t → is_lyndon w ≡ t
    go true e =
        let b = (and-eq-true_iff (is_necklace w) (eqb (period w) (length w))).0 e in
        →is_lyndon w (period_lyndon w h (is_necklace→ w b.0) (eqb-true (period w) (length w) b.1))
    go false e = never (is_lyndon w) (λ q. true≢false (sym (both (is_lyndon→ w q)) ∙ e))
      where
        both : Lyndon w → (is_necklace w && eqb (period w) (length w)) ≡ true
        both l = (and-eq-true_iff (is_necklace w) (eqb (period w) (length w))).1 (→is_necklace w (lyndon→necklace l), eq-eqb (period w) (length w) (lyndon_period w l))
