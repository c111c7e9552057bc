-- The test that no symbol is above a number; the highest symbol of a row, passed symbol by symbol.
use mathlib.Core.Bool.{Bool, and-false, and-true, and_assoc, false, true, ◌&&◌}
use mathlib.Core.List.{List, [], ◌∷◌}
use mathlib.Core.Path.{ap, refl, sym, ◌∙◌, ◌≡◌}
use Prim.Native.Nat.{max, suc, zero, ℕ, ◌+◌, ◌<◌, ◌≤◌}
use native.Mathlib.Numerals.{add-one}
use native.Mathlib.Omega.{arith}
use lib.Dec.{leb}
use lib.ListN.{drop, drop_of_length-le, get_or, length}
use lib.Seq.{drop-cons}
use borrow.Author.Tests.{le-leb, leb-false, leb-true, lt-leb}
use Rattle.std.proofs.Math.Nat.{le-max_left, le-max_right, max-le}
use Rattle.words.proofs.Booleans.{and→, →and}
use Rattle.words.specs.Symbols.{all_up_to, zeros}

pub up_to→ : (b : ℕ) (x : List ℕ) → all_up_to b x ≡ true → (i : ℕ) → get_or x i 0 ≤ b
unfolding all_up_to
up_to→ b [] e i = omega arith
up_to→ b (y ∷ x) e zero = leb-true y b (and→ (leb y b) (all_up_to b x) e).0
up_to→ b (y ∷ x) e (suc i) = up_to→ b x (and→ (leb y b) (all_up_to b x) e).1 i

pub →up_to : (b : ℕ) (x : List ℕ) → ((i : ℕ) → get_or x i 0 ≤ b) → all_up_to b x ≡ true
unfolding all_up_to
→up_to b [] h = refl
→up_to b (y ∷ x) h = →and (le-leb y b (h 0)) (→up_to b x (λ i. h (suc i)))

pub zeros_clean : (n k : ℕ) → all_up_to 0 (drop n (zeros k)) ≡ true
unfolding all_up_to
zeros_clean zero zero = refl
zeros_clean zero (suc k) = zeros_clean zero k
zeros_clean (suc n) zero = refl
zeros_clean (suc n) (suc k) = zeros_clean n k

-- ---- the highest symbol, passed symbol by symbol

-- the higher of two numbers is at most b where both are
leb_max : (m x b : ℕ) → leb (max m x) b ≡ (leb m b && leb x b)
leb_max m x b = go (leb m b) (leb x b) refl refl
  where
    go : (s t : Bool) → leb m b ≡ s → leb x b ≡ t → leb (max m x) b ≡ (s && t)
    go true true e f = le-leb (max m x) b (max-le (leb-true m b e) (leb-true x b f))
    go true false e f = lt-leb (max m x) b (omega (arith, leb-false x b f, le-max_right m x))
    go false t e f = lt-leb (max m x) b (omega (arith, leb-false m b e, le-max_left m x))

-- m is the highest of the symbols passed: P, the test of all symbols, is whether m passes and those to come do, which Q tests
abbrev pub Passed : (ℕ → Bool) → ℕ → (ℕ → Bool) → Type 0
Passed P m Q = (b : ℕ) → P b ≡ (leb m b && Q b)

-- x is passed next
module _ (P Q : ℕ → Bool) (m x : ℕ) where
  pub passed_max : Passed P m (λ b. leb x b && Q b) → Passed P (max m x) Q
  passed_max so b = so b ∙ sym (and_assoc (leb m b) (leb x b) (Q b)) ∙ ap (λ t. t && Q b) (sym (leb_max m x b))

-- ---- of two rows

abbrev pub HighestOfTwo : List ℕ → List ℕ → ℕ → ℕ → Type 0
HighestOfTwo s t m i = Passed (λ b. all_up_to b s && all_up_to b t) m (λ b. all_up_to b (drop i s) && all_up_to b (drop i t))

pub two_start : (s t : List ℕ) → HighestOfTwo s t 0 0
two_start s t b = rw (le-leb 0 b (omega arith))

apart : (x u y v : Bool) → ((x && u) && (y && v)) ≡ (x && (y && (u && v)))
apart false u y v = refl
apart true true y v = refl
apart true false y v = sym (and-false y)

-- from place i on, the first row is passed and then the second
module _ (s t : List ℕ) (i : ℕ) where
  abbrev whole : ℕ → Bool
  whole b = all_up_to b s && all_up_to b t

  abbrev rest : ℕ → Bool
  rest b = all_up_to b (drop (i + 1) s) && all_up_to b (drop (i + 1) t)

  abbrev second : ℕ → Bool
  second b = leb (get_or t i 0) b && rest b

  opened : (m : ℕ) → i < length s → i < length t → HighestOfTwo s t m i → Passed whole m (λ b. leb (get_or s i 0) b && second b)
  unfolding all_up_to
  opened m h l so b = so b ∙ rw (add-one, drop-cons s i 0 h, drop-cons t i 0 l, apart (leb (get_or s i 0) b) (all_up_to b (drop (suc i) s)) (leb (get_or t i 0) b) (all_up_to b (drop (suc i) t)))

  pub two_next : (m : ℕ) → i < length s → i < length t → HighestOfTwo s t m i → HighestOfTwo s t (max (max m (get_or s i 0)) (get_or t i 0)) (i + 1)
  two_next m h l so = passed_max whole rest (max m (get_or s i 0)) (get_or t i 0) (passed_max whole second m (get_or s i 0) (opened m h l so))

  pub two_end : (m : ℕ) → length s ≤ i → length t ≤ i → HighestOfTwo s t m i → (b : ℕ) → (all_up_to b s && all_up_to b t) ≡ leb m b
  unfolding all_up_to
  two_end m h l so b = so b ∙ rw (drop_of_length-le s h, drop_of_length-le t l) (and-true (leb m b))
