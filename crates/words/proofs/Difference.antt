-- The place where two rows first differ, and what it means.
use mathlib.Core.Bool.{Bool, cond, false, true}
use mathlib.Core.List.{List, [], ◌∷◌}
use mathlib.Core.Logic.{inl, inr, ◌⊎◌}
use mathlib.Core.Path.{ap, refl, sym, ◌∙◌, ◌≡◌}
use Prim.Native.Nat.{suc, zero, ℕ}
use native.Mathlib.Omega.{arith}
use lib.Dec.{eqb}
use lib.ListN.{take}
use borrow.Author.Tests.{eq-eqb, eqb-false, eqb-true, ne_eqb}
use Rattle.words.proofs.FirstPlaces.{none-later}
use Rattle.words.proofs.Lists.{cons_head, cons_tail}
use Rattle.words.specs.Claims.{Apart, DifferenceBothWays, DifferencePlace, FirstApart, NoDifference, OnePlace}
use Rattle.words.specs.Difference.{first_difference}
use Rattle.words.specs.Symbols.{later}

-- ---- what the place means

self_difference : (a : List ℕ) → first_difference a a ≡ 0
unfolding first_difference
self_difference [] = refl
self_difference (x ∷ a) = rw (eq-eqb x x refl, self_difference a)

no_difference→ : (a b : List ℕ) → first_difference a b ≡ 0 → a ≡ b
unfolding first_difference
no_difference→ [] [] e = refl
no_difference→ [] (y ∷ b) e = absurd (omega arith)
no_difference→ (x ∷ a) [] e = absurd (omega arith)
no_difference→ (x ∷ a) (y ∷ b) e = go (eqb x y) refl (no_difference→ a b) e
  where
    go : (t : Bool) → eqb x y ≡ t → (first_difference a b ≡ 0 → a ≡ b) → cond t (later (first_difference a b)) 1 ≡ 0 → (x ∷ a) ≡ (y ∷ b)
    go true q ih e = rw (eqb-true x y q, ih (none-later (first_difference a b) e))
    go false q ih e = absurd (omega arith)

-- "0 if equal"
pub no_difference : NoDifference
no_difference a b = (no_difference→ a b, λ e. rw e (self_difference b))

pub difference_both_ways : DifferenceBothWays
unfolding first_difference
difference_both_ways [] [] = refl
difference_both_ways [] (y ∷ b) = refl
difference_both_ways (x ∷ a) [] = refl
difference_both_ways (x ∷ a) (y ∷ b) = go (eqb x y) refl (difference_both_ways a b)
  where
    go : (t : Bool) → eqb x y ≡ t → first_difference a b ≡ first_difference b a → cond t (later (first_difference a b)) 1 ≡ cond (eqb y x) (later (first_difference b a)) 1
    go true q ih = rw (eq-eqb y x (sym (eqb-true x y q))) (ap later ih)
    go false q ih = rw (ne_eqb y x (λ e. eqb-false x y q (sym e)))

-- one symbol more in front
module _ (x y : ℕ) (a b : List ℕ) (e : x ≡ y) where
  apart_later : (i : ℕ) → Apart a b i → Apart (x ∷ a) (y ∷ b) (suc i)
  apart_later i (inl h) = inl (omega (arith, h.0), omega (arith, h.1), h.2)
  apart_later i (inr (inl h)) = inr (inl (omega (arith, h.0), omega (arith, h.1)))
  apart_later i (inr (inr h)) = inr (inr (omega (arith, h.0), omega (arith, h.1)))

  first_later : (p : ℕ) → FirstApart a b p → FirstApart (x ∷ a) (y ∷ b) (later p)
  first_later p f = record { before = suc f.before; place = ap later f.place; agree = rw (e, f.agree); apart = apart_later f.before f.apart }

some_difference : (a b : List ℕ) → (first_difference a b ≡ 0) ⊎ FirstApart a b (first_difference a b)
unfolding first_difference
some_difference [] [] = inl refl
some_difference [] (y ∷ b) = inr (record { before = 0; place = refl; agree = refl; apart = inr (inl (refl, omega arith)) })
some_difference (x ∷ a) [] = inr (record { before = 0; place = refl; agree = refl; apart = inr (inr (refl, omega arith)) })
some_difference (x ∷ a) (y ∷ b) = go (eqb x y) refl (first_difference a b) (some_difference a b)
  where
    go : (t : Bool) → eqb x y ≡ t → (p : ℕ) → (p ≡ 0) ⊎ FirstApart a b p → (cond t (later p) 1 ≡ 0) ⊎ FirstApart (x ∷ a) (y ∷ b) (cond t (later p) 1)
    go true q p (inl z) = inl (ap later z)
    go true q p (inr f) = inr (first_later x y a b (eqb-true x y q) p f)
    go false q p ih = inr (record { before = 0; place = refl; agree = refl; apart = inl (omega arith, omega arith, eqb-false x y q) })

pub difference_place : DifferencePlace
difference_place a b n = go (some_difference a b)
  where
    go : (first_difference a b ≡ 0) ⊎ FirstApart a b (first_difference a b) → FirstApart a b (first_difference a b)
    go (inl z) = absurd (n (no_difference→ a b z))
    go (inr f) = f

-- ---- only there

pub one_place : OnePlace
unfolding first_difference
one_place a b p f = go a b f.before f.agree f.apart ∙ sym f.place
  where
    go : (a b : List ℕ) (i : ℕ) → take i a ≡ take i b → Apart a b i → first_difference a b ≡ suc i
    go [] [] i e (inl h) = absurd (omega (arith, h.0))
    go [] [] i e (inr (inl h)) = absurd (omega (arith, h.1))
    go [] [] i e (inr (inr h)) = absurd (omega (arith, h.1))
    go [] (y ∷ b) i e (inl h) = absurd (omega (arith, h.0))
    go [] (y ∷ b) i e (inr (inl h)) = omega (arith, h.0)
    go [] (y ∷ b) i e (inr (inr h)) = absurd (omega (arith, h.1))
    go (x ∷ a) [] i e (inl h) = absurd (omega (arith, h.1))
    go (x ∷ a) [] i e (inr (inl h)) = absurd (omega (arith, h.1))
    go (x ∷ a) [] i e (inr (inr h)) = omega (arith, h.0)
    go (x ∷ a) (y ∷ b) zero e (inl h) = rw (ne_eqb x y h.2)
    go (x ∷ a) (y ∷ b) zero e (inr (inl h)) = absurd (omega (arith, h.0))
    go (x ∷ a) (y ∷ b) zero e (inr (inr h)) = absurd (omega (arith, h.0))
    go (x ∷ a) (y ∷ b) (suc i) e h = rw (eq-eqb x y (cons_head e)) (ap later (go a b i (cons_tail e) (earlier h)))
      where
        earlier : Apart (x ∷ a) (y ∷ b) (suc i) → Apart a b i
        earlier (inl h) = inl (omega (arith, h.0), omega (arith, h.1), h.2)
        earlier (inr (inl h)) = inr (inl (omega (arith, h.0), omega (arith, h.1)))
        earlier (inr (inr h)) = inr (inr (omega (arith, h.0), omega (arith, h.1)))
