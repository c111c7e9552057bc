-- The dictionary order as a family to match on, and what each answer of the three-way comparison means.
use mathlib.Core.List.{List, [], ◌++◌, ◌∷◌}
use mathlib.Core.Logic.{inl, inr, ⊎_elim, ◌⊎◌}
use mathlib.Core.Path.{ap, refl, ◌≡◌}
use Prim.Native.Nat.compare
use Prim.Native.Nat.{Ordering, compare, suc, suc-le-suc, zero, ℕ, ◌<◌, ◌≤◌}
use native.Mathlib.Nat.{lt_irrefl, lt_trans}
use native.Mathlib.Omega.{arith}
use lib.ListN.{drop, get_or, length}
use Rattle.words.specs.Order.{cmp, head_first}

infix 50 ◌≺◌
-- a lies below b
pub data ◌≺◌ : List ℕ → List ℕ → Type 0 where
  short : {y : ℕ} {ys : List ℕ} → [] ≺ (y ∷ ys)
  here : {x y : ℕ} {xs ys : List ℕ} → x < y → (x ∷ xs) ≺ (y ∷ ys)
  there : {x : ℕ} {xs ys : List ℕ} → xs ≺ ys → (x ∷ xs) ≺ (x ∷ ys)

pub ≺_trans : {a b c : List ℕ} → a ≺ b → b ≺ c → a ≺ c
≺_trans short (here h) = short
≺_trans short (there h) = short
≺_trans (here h) (here k) = here (lt_trans h k)
≺_trans (here h) (there k) = here h
≺_trans (there h) (here k) = here k
≺_trans (there h) (there k) = there (≺_trans h k)

≺_differ : {a b : List ℕ} → a ≺ b → a ≡ b → ⊥
≺_differ (short {y = y} {ys = ys}) e = omega (arith, ap length e)
≺_differ (here h) e = omega (arith, ap (λ w. get_or w 0 0) e)
≺_differ (there h) e = ≺_differ h (ap (λ w. drop 1 w) e)

pub ≺_irrefl : {a : List ℕ} → a ≺ a → ⊥
≺_irrefl h = ≺_differ h refl

pub ≺_asym : {a b : List ℕ} → a ≺ b → b ≺ a → ⊥
≺_asym h k = ≺_irrefl (≺_trans h k)

-- a common beginning cancels
pub ≺_under : (p : List ℕ) {a b : List ℕ} → a ≺ b → (p ++ a) ≺ (p ++ b)
≺_under [] h = h
≺_under (x ∷ p) h = there (≺_under p h)

-- where a head is a call, a match on `≺` is refused: this instead
pub ≺-uncons : {x y : ℕ} {xs ys : List ℕ} → (x ∷ xs) ≺ (y ∷ ys) → (x < y) ⊎ ((x ≡ y) × (xs ≺ ys))
≺-uncons (here h) = inl h
≺-uncons (there h) = inr (refl, h)

pub ≺_strip : (p : List ℕ) {a b : List ℕ} → (p ++ a) ≺ (p ++ b) → a ≺ b
≺_strip [] h = h
≺_strip (x ∷ p) h = ≺_strip p (⊎_elim (λ q. absurd (lt_irrefl x q)) (λ q. q.1) (≺-uncons h))

-- a beginning of a row is below it
pub longer : (a : List ℕ) (c : ℕ) (z : List ℕ) → a ≺ (a ++ (c ∷ z))
longer [] c z = short
longer (x ∷ a) c z = there (longer a c z)

pub ≺-append : (a z : List ℕ) → 0 < length z → a ≺ (a ++ z)
≺-append a [] h = absurd (omega arith)
≺-append a (c ∷ z) h = longer a c z

pub ≺-size : {a b : List ℕ} → a ≺ b → 0 < length b
≺-size short = omega arith
≺-size (here h) = omega arith
≺-size (there h) = omega arith

-- ---- the three-way comparison

-- what each answer means
pub data Means {A : Type 0} (L : A → A → Type 0) (a b : A) : Ordering → Type 0 where
  is_less : L a b → Means L a b Ordering.lt
  is_eq : a ≡ b → Means L a b Ordering.eq
  is_gt : L b a → Means L a b Ordering.gt

suc_means : {x y : ℕ} {o : Ordering} → Means ◌<◌ x y o → Means ◌<◌ (suc x) (suc y) o
suc_means (is_less h) = is_less (suc-le-suc h)
suc_means (is_eq e) = is_eq (ap suc e)
suc_means (is_gt h) = is_gt (suc-le-suc h)

pub compare_means : (x y : ℕ) → Means ◌<◌ x y (compare x y)
compare_means zero zero = is_eq refl
compare_means zero (suc y) = rw compare.zero-suc (is_less (omega arith))
compare_means (suc x) zero = rw compare.suc-zero (is_gt (omega arith))
compare_means (suc x) (suc y) = rw compare.suc-suc (suc_means (compare_means x y))

-- of two numbers; the library's `le_total` is truncated, and this can be matched
pub le_or : (m n : ℕ) → (m ≤ n) ⊎ (n < m)
le_or m n = go (compare_means m n)
  where
    go : {o : Ordering} → Means ◌<◌ m n o → (m ≤ n) ⊎ (n < m)
    go (is_less h) = inl (omega arith)
    go (is_eq e) = inl (omega arith)
    go (is_gt h) = inr h

tail_means : {x : ℕ} {xs ys : List ℕ} {o : Ordering} → Means ◌≺◌ xs ys o → Means ◌≺◌ (x ∷ xs) (x ∷ ys) o
tail_means (is_less h) = is_less (there h)
tail_means {x} (is_eq e) = is_eq (ap {B = List ℕ} (λ w. x ∷ w) e)
tail_means (is_gt h) = is_gt (there h)

cons_means : {x y : ℕ} {xs ys : List ℕ} {o r : Ordering} → Means ◌<◌ x y o → Means ◌≺◌ xs ys r → Means ◌≺◌ (x ∷ xs) (y ∷ ys) (head_first o r)
cons_means (is_less h) m = is_less (here h)
cons_means {x} {y} {xs} {ys} {r = r} (is_eq e) m = rw (← e) (tail_means m)
cons_means (is_gt h) m = is_gt (here h)

pub cmp_means : (a b : List ℕ) → Means ◌≺◌ a b (cmp a b)
unfolding cmp
cmp_means [] [] = is_eq refl
cmp_means [] (y ∷ ys) = is_less short
cmp_means (x ∷ xs) [] = is_gt short
cmp_means (x ∷ xs) (y ∷ ys) = cons_means (compare_means x y) (cmp_means xs ys)

-- what has an answer's meaning has that answer
pub cmp_is : {a b : List ℕ} {o : Ordering} → Means ◌≺◌ a b o → cmp a b ≡ o
cmp_is {a} {b} m = go m (cmp_means a b)
  where
    go : {o q : Ordering} → Means ◌≺◌ a b o → Means ◌≺◌ a b q → q ≡ o
    go (is_less h) (is_less k) = refl
    go (is_less h) (is_eq e) = absurd (≺_irrefl (rw e at h))
    go (is_less h) (is_gt k) = absurd (≺_asym h k)
    go (is_eq e) (is_less k) = absurd (≺_irrefl (rw e at k))
    go (is_eq e) (is_eq f) = refl
    go (is_eq e) (is_gt k) = absurd (≺_irrefl (rw e at k))
    go (is_gt h) (is_less k) = absurd (≺_asym h k)
    go (is_gt h) (is_eq e) = absurd (≺_irrefl (rw e at h))
    go (is_gt h) (is_gt k) = refl

-- and what an answer means
means_lt : {a b : List ℕ} → Means ◌≺◌ a b Ordering.lt → a ≺ b
means_lt (is_less h) = h

means_eq : {a b : List ℕ} → Means ◌≺◌ a b Ordering.eq → a ≡ b
means_eq (is_eq e) = e

means_gt : {a b : List ℕ} → Means ◌≺◌ a b Ordering.gt → b ≺ a
means_gt (is_gt h) = h

pub cmp-lt : (a b : List ℕ) → cmp a b ≡ Ordering.lt → a ≺ b
cmp-lt a b e = means_lt (rw e at (cmp_means a b))

pub cmp_eq : (a b : List ℕ) → cmp a b ≡ Ordering.eq → a ≡ b
cmp_eq a b e = means_eq (rw e at (cmp_means a b))

pub cmp_gt : (a b : List ℕ) → cmp a b ≡ Ordering.gt → b ≺ a
cmp_gt a b e = means_gt (rw e at (cmp_means a b))

pub compare_self : (x : ℕ) → compare x x ≡ Ordering.eq
compare_self x = go (compare_means x x)
  where
    go : {o : Ordering} → Means ◌<◌ x x o → o ≡ Ordering.eq
    go (is_less h) = absurd (lt_irrefl x h)
    go (is_eq e) = refl
    go (is_gt h) = absurd (lt_irrefl x h)

-- a common beginning doesn't count
pub cmp_under : (p a b : List ℕ) → cmp (p ++ a) (p ++ b) ≡ cmp a b
unfolding cmp
cmp_under [] a b = refl
cmp_under (x ∷ p) a b = rw (compare_self x) (cmp_under p a b)
