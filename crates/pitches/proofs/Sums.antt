-- Pitch lists that add up to n stations.
use mathlib.Core.Bool.{Bool, false, true}
use mathlib.Core.List.{List, [], ◌∷◌}
use mathlib.Core.Path.{refl, sym, ◌∙◌, ◌≡◌}
use Prim.Native.Nat.{suc, ℕ, ◌+◌, ◌-◌, ◌<◌, ◌≤◌}
use native.Mathlib.Numerals.{add-one}
use native.Mathlib.Omega.{arith}
use lib.Dec.{eqb}
use lib.ListN.{drop, drop_of_length-le, get_or, length}
use lib.Seq.{drop-cons}
use borrow.Author.Tests.{eq-eqb, eqb-false, eqb-true, ne_eqb}
use Rattle.pitches.specs.Pitches.{adds_up}
use Rattle.words.specs.Symbols.{sum}

-- two tests of numbers that mean the same give the same
eqb_same : (a b c d : ℕ) → (a ≡ b → c ≡ d) → (c ≡ d → a ≡ b) → eqb a b ≡ eqb c d
eqb_same a b c d f g = go (eqb a b) refl
  where
    go : (t : Bool) → eqb a b ≡ t → t ≡ eqb c d
    go true e = sym (eq-eqb c d (f (eqb-true a b e)))
    go false e = sym (ne_eqb c d (λ h. eqb-false a b e (g h)))

module _ (n : ℕ) where
  pub adds_some : (pitches : List ℕ) → 0 < length pitches → adds_up n pitches ≡ eqb (sum pitches) n
  unfolding adds_up
  adds_some [] h = absurd (omega arith)
  adds_some (p ∷ pitches) h = refl

  pub adds_none : (pitches : List ℕ) → length pitches ≡ 0 → adds_up n pitches ≡ true
  unfolding adds_up
  adds_none [] h = refl
  adds_none (p ∷ pitches) h = absurd (omega arith)

  pub adds→ : (pitches : List ℕ) → adds_up n pitches ≡ true → 0 < length pitches → sum pitches ≡ n
  adds→ pitches e h = eqb-true _ _ (sym (adds_some pitches h) ∙ e)

-- ---- from pitch k on

module _ (pitches : List ℕ) (k : ℕ) (h : k < length pitches) where
  pub sum_on : sum (drop k pitches) ≡ get_or pitches k 0 + sum (drop (suc k) pitches)
  unfolding sum
  sum_on = rw (drop-cons pitches k 0 h)

  -- the pitch fits what is left
  pub fit_on : (left : ℕ) → get_or pitches k 0 ≤ left → eqb (sum (drop k pitches)) left ≡ eqb (sum (drop (k + 1) pitches)) (left - get_or pitches k 0)
  fit_on left l = rw add-one (eqb_same (sum (drop k pitches)) left (sum (drop (suc k) pitches)) (left - get_or pitches k 0) (λ e. omega (arith, sum_on)) (λ e. omega (arith, sum_on)))

  -- it doesn't
  pub fit_not : (left : ℕ) → left < get_or pitches k 0 → eqb (sum (drop k pitches)) left ≡ false
  fit_not left l = ne_eqb _ _ (λ (e : sum (drop k pitches) ≡ left). omega (arith, sum_on))

pub sum_end : (pitches : List ℕ) (k : ℕ) → length pitches ≤ k → sum (drop k pitches) ≡ 0
unfolding sum
sum_end pitches k h = rw (drop_of_length-le pitches h)

pub fit_end : (pitches : List ℕ) (k left : ℕ) → length pitches ≤ k → eqb (sum (drop k pitches)) left ≡ eqb left 0
fit_end pitches k left h = let none_left = sum_end pitches k h in eqb_same (sum (drop k pitches)) left left 0 (λ e. omega arith) (λ e. omega arith)
