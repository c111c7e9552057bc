-- At or below: a total order on rows.
use mathlib.Core.List.{List, [], append_cancel_left, append-nil, ◌++◌, ◌∷◌}
use mathlib.Core.Logic.{inl, inr, ◌⊎◌}
use mathlib.Core.Path.{ap, refl, sym, ◌≡◌}
use Prim.Native.Nat.{Ordering, ℕ, ◌<◌}
use native.Mathlib.Omega.{arith}
use lib.ListN.{length}
use Rattle.words.proofs.Below.{Means, cmp_means, is_eq, is_gt, is_less, longer, there, ≺_asym, ≺_irrefl, ≺-size, ≺_strip, ≺_trans, ≺-uncons, ◌≺◌}
use Rattle.words.proofs.FirstDifference.{ext, same_length}

infix 50 ◌≼◌
pub data ◌≼◌ (a b : List ℕ) : Type 0 where
  equal : a ≡ b → a ≼ b
  lower : a ≺ b → a ≼ b

pub ≼_refl : (a : List ℕ) → a ≼ a
≼_refl a = equal refl

pub ≼_trans : {a b c : List ℕ} → a ≼ b → b ≼ c → a ≼ c
≼_trans (equal e) k = rw e k
≼_trans (lower h) (equal f) = lower (rw f at h)
≼_trans (lower h) (lower k) = lower (≺_trans h k)

pub ≺-≼_trans : {a b c : List ℕ} → a ≺ b → b ≼ c → a ≺ c
≺-≼_trans h (equal f) = rw f at h
≺-≼_trans h (lower k) = ≺_trans h k

pub ≼_antisym : {a b : List ℕ} → a ≼ b → b ≼ a → a ≡ b
≼_antisym (equal e) k = e
≼_antisym (lower h) (equal f) = sym f
≼_antisym (lower h) (lower k) = absurd (≺_asym h k)

-- one of two rows is at or below the other, or strictly above
pub ≼_or : (a b : List ℕ) → (a ≼ b) ⊎ (b ≺ a)
≼_or a b = go (cmp_means a b)
  where
    go : {o : Ordering} → Means ◌≺◌ a b o → (a ≼ b) ⊎ (b ≺ a)
    go (is_less h) = inl (lower h)
    go (is_eq e) = inl (equal e)
    go (is_gt h) = inr h

pub not_both : {a b : List ℕ} → a ≺ b → b ≼ a → ⊥
not_both h (equal e) = ≺_irrefl (rw e at h)
not_both h (lower k) = ≺_asym h k

pub ≼_there : (x : ℕ) {a b : List ℕ} → a ≼ b → (x ∷ a) ≼ (x ∷ b)
≼_there x (equal e) = equal (cc)
≼_there x (lower h) = lower (there h)

pub ≼_under : (p : List ℕ) {a b : List ℕ} → a ≼ b → (p ++ a) ≼ (p ++ b)
≼_under [] h = h
≼_under (x ∷ p) h = ≼_there x (≼_under p h)

pub ≼-append : (a z : List ℕ) → a ≼ (a ++ z)
≼-append a [] = equal (sym (append-nil a))
≼-append a (c ∷ z) = lower (longer a c z)

pub ≼_strip : (p : List ℕ) {a b : List ℕ} → (p ++ a) ≼ (p ++ b) → a ≼ b
≼_strip p {a} {b} (equal e) = equal (append_cancel_left p a b e)
≼_strip p (lower h) = lower (≺_strip p h)

pub ≼-nil : {a : List ℕ} → a ≼ [] → length a ≡ 0
≼-nil (equal e) = ap length e
≼-nil (lower h) = absurd (omega (arith, ≺-size h))

pub ≼-uncons : {x y : ℕ} {xs ys : List ℕ} → (x ∷ xs) ≼ (y ∷ ys) → (x < y) ⊎ ((x ≡ y) × (xs ≼ ys))
≼-uncons (equal e) = inr (cc, equal (cc))
≼-uncons (lower h) = go (≺-uncons h)
  where
    go : {x y : ℕ} {xs ys : List ℕ} → (x < y) ⊎ ((x ≡ y) × (xs ≺ ys)) → (x < y) ⊎ ((x ≡ y) × (xs ≼ ys))
    go (inl k) = inl k
    go (inr k) = inr (k.0, lower k.1)

-- rows of one length: what follows keeps them in order
pub ≼_ext : {a b : List ℕ} → length a ≡ length b → a ≼ b → {u v : List ℕ} → u ≼ v → (a ++ u) ≼ (b ++ v)
≼_ext {a} {b} l (equal e) {u} {v} k = rw e (≼_under b k)
≼_ext l (lower h) {u} {v} k = lower (ext (same_length h l) u v)

-- between two rows with a common beginning
pub squeezed : (p x y b : List ℕ) → (p ++ x) ≺ b → b ≼ (p ++ y) → (t : List ℕ) × (b ≡ p ++ t)
squeezed [] x y b h k = (b, refl)
squeezed (c ∷ p) x y [] h k = absurd (omega (arith, ≺-size h))
squeezed (c ∷ p) x y (e ∷ b) h k = go (squeezed p x y b) (≺-uncons h) (≼-uncons k)
  where
    go : ((p ++ x) ≺ b → b ≼ (p ++ y) → (t : List ℕ) × (b ≡ p ++ t))
        → (c < e) ⊎ ((c ≡ e) × ((p ++ x) ≺ b)) → (e < c) ⊎ ((e ≡ c) × (b ≼ (p ++ y))) → (t : List ℕ) × (e ∷ b ≡ c ∷ (p ++ t))
    go ih (inl m) (inl n) = absurd (omega arith)
    go ih (inl m) (inr n) = absurd (omega (arith, n.0))
    go ih (inr m) (inl n) = absurd (omega (arith, m.0))
    go ih (inr m) (inr n) = let t = ih m.1 n.1 in (t.0, cc (n.0, t.1))
