-- The tests of the order, and what they mean. The comparison at a place of two rows, for loops.
use mathlib.Core.Bool.{false, false≢true, true}
use mathlib.Core.List.{List}
use mathlib.Core.Path.{refl, sym, ◌≡◌}
use Prim.Native.Nat.{Ordering, ℕ, ◌<◌, ◌≤◌}
use lib.Dec.{compare_is_eq, is_le}
use lib.ListN.{drop, drop_of_length-le, get_or, length}
use lib.Seq.{drop-cons}
use Rattle.words.proofs.AtMost.{equal, lower, ◌≼◌}
use Rattle.words.proofs.Below.{Means, cmp_is, cmp_means, here, is_eq, is_gt, is_less, short, ◌≺◌}
use Rattle.words.specs.Order.{cmp, is_lt, le, lt, order_of, same}
use Rattle.std.specs.declared.cmp.Ordering.TheVariants.{Equal, Greater, Less}

pub lt→ : (a b : List ℕ) → lt a b ≡ true → a ≺ b
unfolding lt
lt→ a b e = go (cmp_means a b) e
  where
    go : {o : Ordering} → Means ◌≺◌ a b o → is_lt o ≡ true → a ≺ b
    go (is_less h) e = h
    go (is_eq p) e = absurd (false≢true e)
    go (is_gt h) e = absurd (false≢true e)

pub →lt : (a b : List ℕ) → a ≺ b → lt a b ≡ true
unfolding lt
→lt a b h = rw (cmp_is (is_less h))

pub not_lt : (a b : List ℕ) → b ≼ a → lt a b ≡ false
unfolding lt
not_lt a b (equal e) = rw (cmp_is (is_eq (sym e)))
not_lt a b (lower h) = rw (cmp_is (is_gt h))

pub le→ : (a b : List ℕ) → le a b ≡ true → a ≼ b
unfolding le
le→ a b e = go (cmp_means a b) e
  where
    go : {o : Ordering} → Means ◌≺◌ a b o → is_le o ≡ true → a ≼ b
    go (is_less h) e = lower h
    go (is_eq p) e = equal p
    go (is_gt h) e = absurd (false≢true e)

pub →le : (a b : List ℕ) → a ≼ b → le a b ≡ true
unfolding le
→le a b (equal e) = rw (cmp_is (is_eq e))
→le a b (lower h) = rw (cmp_is (is_less h))

pub not_le : (a b : List ℕ) → b ≺ a → le a b ≡ false
unfolding le
not_le a b h = rw (cmp_is (is_gt h))

pub same→ : (a b : List ℕ) → same a b ≡ true → a ≡ b
unfolding same
same→ a b e = go (cmp_means a b) e
  where
    go : {o : Ordering} → Means ◌≺◌ a b o → compare_is_eq o ≡ true → a ≡ b
    go (is_less h) e = absurd (false≢true e)
    go (is_eq p) e = p
    go (is_gt h) e = absurd (false≢true e)

pub →same : (a b : List ℕ) → a ≡ b → same a b ≡ true
unfolding same
→same a b e = rw (cmp_is (is_eq e))

pub not_same : (a b : List ℕ) → b ≺ a → same a b ≡ false
unfolding same
not_same a b h = rw (cmp_is (is_gt h))

-- ---- the answers as the code names them

pub order_lower : (o : Ordering) → order_of o ≡ Less → o ≡ Ordering.lt
order_lower Ordering.lt e = refl
order_lower Ordering.eq e = cc
order_lower Ordering.gt e = cc

pub order_equal : (o : Ordering) → order_of o ≡ Equal → o ≡ Ordering.eq
order_equal Ordering.lt e = cc
order_equal Ordering.eq e = refl
order_equal Ordering.gt e = cc

pub order_higher : (o : Ordering) → order_of o ≡ Greater → o ≡ Ordering.gt
order_higher Ordering.lt e = cc
order_higher Ordering.eq e = cc
order_higher Ordering.gt e = refl

-- ---- the comparison of what is left of two rows, from a place of each

module _ (a b : List ℕ) (i k : ℕ) (ha : i < length a) (hb : k < length b) where
  pub cmp_lower : get_or a i 0 < get_or b k 0 → cmp (drop i a) (drop k b) ≡ Ordering.lt
  cmp_lower h = rw (drop-cons a i 0 ha, drop-cons b k 0 hb) (cmp_is (is_less (here h)))

  pub cmp_higher : get_or b k 0 < get_or a i 0 → cmp (drop i a) (drop k b) ≡ Ordering.gt
  cmp_higher h = rw (drop-cons a i 0 ha, drop-cons b k 0 hb) (cmp_is (is_gt (here h)))

-- a row has ended
pub cmp_short : (a b : List ℕ) (i k : ℕ) → length a ≤ i → k < length b → cmp (drop i a) (drop k b) ≡ Ordering.lt
cmp_short a b i k h l = rw (drop_of_length-le a h, drop-cons b k 0 l) (cmp_is (is_less short))

pub cmp_long : (a b : List ℕ) (i k : ℕ) → i < length a → length b ≤ k → cmp (drop i a) (drop k b) ≡ Ordering.gt
cmp_long a b i k h l = rw (drop-cons a i 0 h, drop_of_length-le b l) (cmp_is (is_gt short))

pub cmp_ended : (a b : List ℕ) (i k : ℕ) → length a ≤ i → length b ≤ k → cmp (drop i a) (drop k b) ≡ Ordering.eq
cmp_ended a b i k h l = rw (drop_of_length-le a h, drop_of_length-le b l) (cmp_is (is_eq refl))
