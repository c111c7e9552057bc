-- Tests over the numbers below a bound, and the first number that passes one.
use mathlib.Core.Bool.{Bool, and-eq-true_iff, cond, false, false≢true, or-true, true, true≢false, ◌&&◌, ◌||◌}
use mathlib.Core.Logic.{inl, inr, ◌⊎◌}
use mathlib.Core.Path.{ap, refl, sym, ◌∙◌, ◌≡◌}
use Prim.Native.Nat.{pred, suc, zero, ℕ, ◌+◌, ◌<◌, ◌≤◌}
use native.Mathlib.Nat.{eq-or-lt_of_le, le_of_suc-le-suc, le_refl, not-suc-le-zero}
use native.Mathlib.Omega.{arith}
use Rattle.words.proofs.Booleans.{or→}
use Rattle.words.specs.Tests.{all_below, first_from, some_below}

pub pred_size : (n : ℕ) → 0 < n → 1 + pred n ≡ n
pred_size zero h = absurd (omega arith)
pred_size (suc n) h = omega arith

pub all_below→ : (n : ℕ) (f : ℕ → Bool) → all_below n f ≡ true → (j : ℕ) → j < n → f j ≡ true
unfolding all_below
all_below→ zero f e j h = absurd (not-suc-le-zero h)
all_below→ (suc n) f e j h = go ((and-eq-true_iff (f n) (all_below n f)).0 e).0 (all_below→ n f ((and-eq-true_iff (f n) (all_below n f)).0 e).1) (eq-or-lt_of_le (le_of_suc-le-suc h))
  where
    go : f n ≡ true → ((j : ℕ) → j < n → f j ≡ true) → (j ≡ n) ⊎ (j < n) → f j ≡ true
    go l r (inl p) = rw p l
    go l r (inr k) = r j k

pub →all_below : (n : ℕ) (f : ℕ → Bool) → ((j : ℕ) → j < n → f j ≡ true) → all_below n f ≡ true
unfolding all_below
→all_below zero f h = refl
→all_below (suc n) f h = (and-eq-true_iff (f n) (all_below n f)).1 (h n (omega arith), →all_below n f (λ j k. h j (omega arith)))

-- a test that fails, fails somewhere
pub fails_at : (n : ℕ) (f : ℕ → Bool) → all_below n f ≡ false → (j : ℕ) × (j < n) × (f j ≡ false)
unfolding all_below
fails_at zero f e = absurd (true≢false e)
fails_at (suc n) f e = go (f n) refl (fails_at n f) e
  where
    go : (b : Bool) → f n ≡ b → (all_below n f ≡ false → (j : ℕ) × (j < n) × (f j ≡ false)) → (b && all_below n f) ≡ false → (j : ℕ) × (j < suc n) × (f j ≡ false)
    go true q ih e = let r = ih e in (r.0, omega (arith, r.1), r.2)
    go false q ih e = (n, le_refl (suc n), q)

-- a test that holds somewhere
pub some_below→ : (n : ℕ) (f : ℕ → Bool) → some_below n f ≡ true → (j : ℕ) × (j < n) × (f j ≡ true)
unfolding some_below
some_below→ zero f e = absurd (false≢true e)
some_below→ (suc n) f e = go (or→ (f n) (some_below n f) e) (some_below→ n f)
  where
    go : (f n ≡ true) ⊎ (some_below n f ≡ true) → (some_below n f ≡ true → (j : ℕ) × (j < n) × (f j ≡ true)) → (j : ℕ) × (j < suc n) × (f j ≡ true)
    go (inl q) ih = (n, le_refl (suc n), q)
    go (inr q) ih = let r = ih q in (r.0, omega (arith, r.1), r.2)

pub →some_below : (n : ℕ) (f : ℕ → Bool) (j : ℕ) → j < n → f j ≡ true → some_below n f ≡ true
unfolding some_below
→some_below zero f j h e = absurd (omega arith)
→some_below (suc n) f j h e = go (eq-or-lt_of_le (le_of_suc-le-suc h)) (→some_below n f j)
  where
    go : (j ≡ n) ⊎ (j < n) → (j < n → f j ≡ true → some_below n f ≡ true) → (f n || some_below n f) ≡ true
    go (inl q) ih = rw (ap f (sym q) ∙ e)
    go (inr q) ih = rw (ih q e) (or-true (f n))

-- the first that passes: it is found wherever it stands
pub first_is : (f k j : ℕ) (test : ℕ → Bool) → k ≤ j → j ≤ k + f → ((i : ℕ) → k ≤ i → i < j → test i ≡ false) → ((j < k + f) → test j ≡ true) → first_from f k test ≡ j
unfolding first_from
first_is zero k j test h l before at = omega arith
first_is (suc f) k j test h l before at = go (eq-or-lt_of_le h) (λ q. first_is f (suc k) j test q (omega arith) (λ i a b. before i (omega arith) b) (λ a. at (omega arith)))
  where
    go : (k ≡ j) ⊎ (k < j) → (k < j → first_from f (suc k) test ≡ j) → cond (test k) k (first_from f (suc k) test) ≡ j
    go (inl e) ih = let t : test k ≡ true = rw (← e) at (at (omega arith)) in rw t e
    go (inr q) ih = rw (before k (le_refl k) q) (ih q)

-- and what stands there passes, unless none does before the last
pub record FirstOf (f k : ℕ) (test : ℕ → Bool) (r : ℕ) : Type 0 where
  pub low : k ≤ r
  pub high : r ≤ k + f
  pub before : (i : ℕ) → k ≤ i → i < r → test i ≡ false
  pub at : r < k + f → test r ≡ true

pub first_of : (f k : ℕ) (test : ℕ → Bool) → FirstOf f k test (first_from f k test)
unfolding first_from
first_of zero k test = record { low = le_refl k; high = omega arith; before = λ i a b. absurd (omega arith); at = λ a. absurd (omega arith) }
first_of (suc f) k test = go (test k) refl (first_from f (suc k) test) (first_of f (suc k) test)
  where
    go : (b : Bool) → test k ≡ b → (r : ℕ) → FirstOf f (suc k) test r → FirstOf (suc f) k test (cond b k r)
    go true e r q = record { low = le_refl k; high = omega arith; before = λ i a b. absurd (omega arith); at = λ a. e }
    go false e r q = record { low = omega (arith, q.low); high = omega (arith, q.high); before = λ i a b. pick i (eq-or-lt_of_le a) b; at = λ a. q.at (omega arith) }
      where
        pick : (i : ℕ) → (k ≡ i) ⊎ (k < i) → i < r → test i ≡ false
        pick i (inl p) b = rw (← p) e
        pick i (inr p) b = q.before i p b
