-- One step of the search over the places behind the prefix; the question in terms of the period found.
use mathlib.Core.Bool.{and-false, false, true, ◌&&◌}
use mathlib.Core.List.{List, [], ◌∷◌}
use mathlib.Core.Path.{◌≡◌}
use Prim.Native.Nat.{suc, zero, ℕ, ◌%◌, ◌+◌, ◌-◌, ◌<◌, ◌≤◌}
use native.Mathlib.Numerals.{add-one}
use native.Mathlib.Omega.{arith}
use lib.Dec.{eqb}
use lib.ListN.{get_or, length, set, take}
use lib.Seq.{length-take-le, set-set, take-suc-set}
use borrow.Author.Tests.{eq-eqb, ne_eqb}
use Rattle.extension.specs.InnerSearch.{extends, continues, fits}
use Rattle.words.proofs.ScanSteps.{next_at}
use Rattle.words.specs.InnerScan.{barred, coded, scan, ◌▹◌}
use Rattle.words.specs.Symbols.{sum}

-- ---- a symbol is stored at place i

pub put : (x : List ℕ) (i b : ℕ) → i < length x → take (i + 1) (set x i b) ≡ take i x ▹ b
put x i b h = rw add-one (take-suc-set x i b h)

pub put_over : (x : List ℕ) (i a b : ℕ) → i < length x → take (i + 1) (set (set x i a) i b) ≡ take i x ▹ b
put_over x i a b h = rw set-set (put x i b h)

-- ---- at place i of x, with period p, of n places in all

module _ (n d p : ℕ) (x : List ℕ) (i : ℕ) (h : i < length x) (k : p ≤ i) (l : 0 < p) (q : i < n) where
  abbrev c : ℕ
  c = get_or x (i - p) 0

  more : n - i ≡ suc (n - (i + 1))
  more = omega arith

  pub leaves_up : c ≡ 0 → fits d (n - (i + 1)) (take (i + 1) (set x i 1)) ≡ true → continues d p (n - i) (take i x) ≡ true
  unfolding continues
  leaves_up e f = rw (more, next_at x p i h k l, e, ← put x i 1 h, f)

  pub stays_low : fits d (n - (i + 1)) (take (i + 1) (set x i 1)) ≡ false → continues d p (n - i) (take i x) ≡ continues d p (n - (i + 1)) (take (i + 1) (set (set x i 1) i c))
  unfolding continues
  stays_low f = rw (more, next_at x p i h k l, ← put x i 1 h, f, and-false (eqb (get_or x (i - p) 0) 0), put_over x i 1 (get_or x (i - p) 0) h)

  pub stays_high : (c ≡ 0 → ⊥) → continues d p (n - i) (take i x) ≡ continues d p (n - (i + 1)) (take (i + 1) (set (set x i 1) i c))
  unfolding continues
  stays_high f = rw (more, next_at x p i h k l, ne_eqb (get_or x (i - p) 0) 0 f, put_over x i 1 (get_or x (i - p) 0) h)

-- no place is left
module _ (n d p : ℕ) (x : List ℕ) (i : ℕ) (h : n ≤ length x) (e : i ≡ n) where
  at_end : continues d p (n - i) (take i x) ≡ (eqb (n % p) 0 && eqb (sum (take i x)) d)
  unfolding continues
  at_end =
      let ended : n - n ≡ 0 = omega arith in
      rw (e, ended, length-take-le n x h)

  pub whole_end : n % p ≡ 0 → continues d p (n - i) (take i x) ≡ eqb (sum (take i x)) d
  whole_end f = rw (at_end, eq-eqb (n % p) 0 f)

  pub broken_end : (n % p ≡ 0 → ⊥) → continues d p (n - i) (take i x) ≡ false
  broken_end f = rw (at_end, ne_eqb (n % p) 0 f)

-- ---- the question

pub extends-none : (n d : ℕ) (a : List ℕ) → 0 < length a → barred ≡ scan a → extends n d a ≡ false
unfolding extends
extends-none n d [] h e = absurd (omega arith)
extends-none n d (b ∷ a) h e = rw (← e)

pub extends-period : (n d p : ℕ) (a : List ℕ) → 0 < length a → 0 < p → coded p ≡ scan a → extends n d a ≡ continues d p (n - length a) a
unfolding extends
extends-period n d p [] h l e = absurd (omega arith)
extends-period n d zero (b ∷ a) h l e = absurd (omega arith)
extends-period n d (suc p) (b ∷ a) h l e = rw (← e)
