-- The place of the first symbol that passes a test: by its index, and what it means.
use mathlib.Core.Bool.{Bool, cond, false, true}
use mathlib.Core.List.{List, [], ◌∷◌}
use mathlib.Core.Logic.{inl, inr, ⊎_elim, ◌⊎◌}
use mathlib.Core.Path.{ap, refl, sym, ◌∙◌, ◌≡◌}
use Prim.Native.Nat.{suc, zero, ℕ, ◌+◌, ◌<◌}
use native.Mathlib.Numerals.{add-one}
use native.Mathlib.Omega.{arith}
use lib.Dec.{eqb}
use lib.ListN.{get_or, length}
use borrow.Author.Tests.{eqb-false, eqb-true}
use Rattle.std.proofs.lemmas.Iterator.Adapters.{position_from-zero}
use Rattle.std.specs.List.{position, position_from}
use Rattle.std.specs.Prelude.{Option, Some, None}
use Rattle.words.specs.Claims.{FirstSo}
use Rattle.std.specs.Option.{option_map}
use Rattle.words.proofs.Booleans.{clash}
use Rattle.words.specs.Symbols.{first_where, later, place_found}

-- ---- places

-- the place of what is found from place i on: 0 stays 0
abbrev pub from_place : ℕ → ℕ → ℕ
from_place i zero = zero
from_place i (suc p) = suc (i + p)

pub from_later : (i p : ℕ) → from_place i (later p) ≡ from_place (suc i) p
from_later i zero = refl
from_later i (suc p) = ap suc (omega arith)

pub none-later : (p : ℕ) → later p ≡ 0 → p ≡ 0
none-later zero e = refl
none-later (suc p) e = absurd (omega arith)

pub from_start : (p : ℕ) → from_place 0 p ≡ p
from_start zero = refl
from_start (suc p) = ap suc (omega arith)

-- ---- by the index of the first, as `position` finds it

-- the place, from 1, of an index; 0 for none
abbrev pub place_of : Option ℕ → ℕ
place_of (Some i) = i + 1
place_of None = 0

indexed : (test : ℕ → Bool) (i : ℕ) (w : List ℕ) → from_place i (first_where test w) ≡ place_of (position_from test i w)
unfolding first_where
indexed test i [] = refl
indexed test i (x ∷ w) = go (test x) (rw add-one at (indexed test (i + 1) w))
  where
    go : (b : Bool) → from_place (suc i) (first_where test w) ≡ place_of (position_from test (suc i) w)
        → from_place i (cond b 1 (later (first_where test w))) ≡ place_of (cond b (Some i) (position_from test (i + 1) w))
    go true e = omega arith
    go false e = from_later i (first_where test w) ∙ rw add-one e

-- that place, as the code tells it
place_indexed : (o : Option ℕ) → place_found (place_of o) ≡ option_map (λ i. i + 1) o
place_indexed (Some i) = rw (add-one i)
place_indexed None = refl

pub first_index : (test : ℕ → Bool) (w : List ℕ) → place_of (position test w) ≡ first_where test w
first_index test w = ap place_of (position_from-zero test w) ∙ sym (indexed test 0 w) ∙ from_start (first_where test w)

pub first_found : (test : ℕ → Bool) (w : List ℕ) → option_map (λ i. i + 1) (position test w) ≡ place_found (first_where test w)
first_found test w = sym (place_indexed (position test w)) ∙ ap place_found (first_index test w)

-- a place that is told, or none
pub found_place : (n p : ℕ) → place_found n ≡ Some p → (p ≡ n) × (p ≡ 0 → ⊥)
found_place zero p e = clash (cc)
found_place (suc n) p e = let q : suc n ≡ p = cc in (sym q, λ z. omega arith)

pub found_none : (n : ℕ) → place_found n ≡ None → n ≡ 0
found_none zero e = refl
found_none (suc n) e = clash (cc)

-- ---- what it means

-- the test passes exactly what is so
abbrev pub Decides : (ℕ → Bool) → (ℕ → Type 0) → Type 0
Decides test So = (x : ℕ) → (test x ≡ true → So x) × (test x ≡ false → So x → ⊥)

-- no symbol is so
abbrev pub NoneSo : (ℕ → Type 0) → List ℕ → Type 0
NoneSo So w = (i : ℕ) → i < length w → So (get_or w i 0) → ⊥

module _ (So : ℕ → Type 0) (x : ℕ) (w : List ℕ) (n : So x → ⊥) where
  none-later_so : NoneSo So w → NoneSo So (x ∷ w)
  none-later_so h zero l = n
  none-later_so h (suc i) l = h i (omega arith)

  first_later : (p : ℕ) → FirstSo So w p → FirstSo So (x ∷ w) (later p)
  first_later p f = record { before = suc f.before; place = ap later f.place; inside = omega (arith, f.inside); here = f.here; first = first }
    where
      first : (i : ℕ) → i < suc f.before → So (get_or (x ∷ w) i 0) → ⊥
      first zero l = n
      first (suc i) l = f.first i (omega arith)

module _ (test : ℕ → Bool) (So : ℕ → Type 0) (d : Decides test So) where
  pub first_so : (w : List ℕ) → (NoneSo So w × (first_where test w ≡ 0)) ⊎ FirstSo So w (first_where test w)
  unfolding first_where
  first_so [] = inl (λ i l. absurd (omega arith), refl)
  first_so (x ∷ w) = go (test x) refl (first_where test w) (first_so w)
    where
      go : (b : Bool) → test x ≡ b → (p : ℕ) → (NoneSo So w × (p ≡ 0)) ⊎ FirstSo So w p
          → (NoneSo So (x ∷ w) × (cond b 1 (later p) ≡ 0)) ⊎ FirstSo So (x ∷ w) (cond b 1 (later p))
      go true e p ih = inr (record { before = 0; place = refl; inside = omega arith; here = (d x).0 e; first = λ i l. absurd (omega arith) })
      go false e p (inl a) = inl (none-later_so So x w ((d x).1 e) a.0, ap later a.1)
      go false e p (inr f) = inr (first_later So x w ((d x).1 e) p f)

  -- the test of the operations: the place is 0
  pub first_tells : (w : List ℕ) → let p = first_where test w in (eqb p 0 ≡ false → FirstSo So w p) × (eqb p 0 ≡ true → FirstSo So w p → ⊥)
  first_tells w = (λ e. ⊎_elim (λ a. absurd (eqb-false _ _ e a.1)) (λ f. f) (first_so w), λ e f. omega (arith, f.place, eqb-true (first_where test w) 0 e))
