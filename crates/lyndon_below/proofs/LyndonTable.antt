-- The table of Lyndon words: each entry from the shorter ones.
use mathlib.Core.Bool.{Bool, false, true}
use mathlib.Core.List.{List}
use mathlib.Core.Path.{ap, sym, ◌∙◌, ◌≡◌}
use Prim.Native.Nat.{pred, suc, zero, ℕ, ◌%◌, ◌*◌, ◌+◌, ◌-◌, ◌/◌, ◌<◌, ◌^◌, ◌≤◌}
use native.Mathlib.Nat.{div-add-mod, div-add-mod', mul-mod_right, div-lt_self, mul-div_right}
use native.Mathlib.Numerals.{add-one}
use native.Mathlib.Omega.{arith}
use lib.ListN.{get_or, length}
use Rattle.counting.proofs.Ceilings.{choose-fits, rows_few}
use Rattle.counting.proofs.Recursion.{commonly_both, factor_pos, lyndon_recursion, quotient, shorter}
use Rattle.counting.proofs.Sums.{total_same}
use Rattle.counting.specs.InnerRoots.{lyndon_below, rows_below}
use Rattle.counting.specs.InnerSums.{commonly, divides, flag, total, upto}
use Rattle.lyndon_below.specs.InnerTables.{Given, Known, named, taken}

-- ---- sums

scaled : (m e : ℕ) (f : ℕ → ℕ) (j : ℕ) → commonly m e (λ k. m / suc k * f k) j ≡ m / suc j * commonly m e f j
scaled m e f j = go (divides (suc j) m) (divides (suc j) e)
  where
    go : (a b : Bool) → flag a * (flag b * (m / suc j * f j)) ≡ m / suc j * (flag a * (flag b * f j))
    go true true = omega arith
    go true false = omega arith
    go false b = omega arith

-- what an entry takes
pub taken_is : (t : List ℕ) (m e i : ℕ) → m / (suc i + 1) * named t m e (suc i) ≡ taken t m e i
taken_is t m e i = rw (add-one (suc i)) (sym (scaled m e (λ k. get_or t (m / suc k) 0) (suc i)))

-- ---- divisors, by remainders

factor : (n m : ℕ) → n % m ≡ 0 → n / m * m ≡ n
factor n m e = omega (arith, div-add-mod' n m, e)

factor' : (n m : ℕ) → n % m ≡ 0 → m * (n / m) ≡ n
factor' n m e = omega (arith, div-add-mod n m, e)

-- d is no multiple of n / m
pub no_density : (n m d k c : ℕ) → 0 < m → (d % (n / m) ≡ 0 → ⊥) → k * m ≡ n → k * c ≡ d → ⊥
no_density n m d k c z f a b = let e : n / m ≡ k = quotient m k n z (omega (arith, a)) in f (rw e (ap (λ x. x % k) (sym b) ∙ mul-mod_right k c))

-- ---- the entry of m symbols, from the shorter ones

module _ (w : List ℕ) (d : ℕ) (g : Given w d) (t : List ℕ) where
  abbrev n : ℕ
  n = length w

  taken_right : (m e k : ℕ) → k * suc m ≡ n → k * e ≡ d → Known t w d (suc m) → total (taken t (suc m) e) (upto m) ≡ total (shorter (lyndon_below n w) m e) (upto m)
  taken_right m e k p q s =
      total_same (taken t (suc m) e) (shorter (lyndon_below n w) m e) (upto m)
      (λ j. commonly_both (suc m) e (λ i. suc m / suc i * get_or t (suc m / suc i) 0) (λ i. suc m / suc i * lyndon_below n w (suc m / suc i) (e / suc i)) (suc j)
      (λ a b. ap (λ x. suc m / suc (suc j) * x)
      (s (k * suc (suc j)) (suc m / suc (suc j)) (e / suc (suc j)) (omega (arith, ap (λ x. k * x) a, p)) (omega (arith, ap (λ x. k * x) b, q))
      (div-lt_self {n = suc m} {k = suc (suc j)} (omega arith) (omega arith)))))

  whole : (m k : ℕ) → 0 < m → k * m ≡ n → m * (n / m) ≡ n
  whole m k p e = rw (quotient m k n p (omega (arith, e))) (omega (arith, e))

  rows_split : (m e k : ℕ) → 0 < m → k * m ≡ n → k * e ≡ d → Known t w d m → m * lyndon_below n w m e + total (taken t m e) (upto (pred m)) ≡ rows_below n w m e
  rows_split zero e k z p q s = absurd (omega arith)
  rows_split (suc m) e k z p q s =
      let h : suc m * (n / suc m) ≡ n = whole (suc m) k z p in
      omega (arith, taken_right m e k p q s, lyndon_recursion n w m e h)

  -- m divides n, and n / m the density
  module _ (m : ℕ) (z : 0 < m) (small : m ≤ n) (divides-n : n % m ≡ 0) (divides-d : d % (n / m) ≡ 0) (s : Known t w d m) where
    abbrev k : ℕ
    k = n / m

    abbrev e : ℕ
    e = d / (n / m)

    p : k * m ≡ n
    p = factor n m divides-n

    q : k * e ≡ d
    q = factor' d k divides-d

    pub taken_few : total (taken t m e) (upto (pred m)) ≤ rows_below n w m e
    taken_few = omega (arith, rows_split m e k z p q s)

    pub taken_fits : total (taken t m e) (upto (pred m)) < 2 ^ 64
    taken_fits = omega (arith, taken_few, rows_few n w m e, choose-fits m e (omega (arith, small, g.few)))

    k_pos : 0 < k
    k_pos = factor_pos m k n g.some (omega (arith, p))

    -- the entry; at no other density does m fit
    pub entry_right : (j c : ℕ) → j * m ≡ n → j * c ≡ d → (rows_below n w m e - total (taken t m e) (upto (pred m))) / m ≡ lyndon_below n w m c
    entry_right j c a b =
        let left : rows_below n w m e - total (taken t m e) (upto (pred m)) ≡ m * lyndon_below n w m e = omega (arith, rows_split m e k z p q s) in
        let same-k : j ≡ k = sym (quotient m j n z (omega (arith, a))) ∙ quotient m k n z (omega (arith, p)) in
        let same-e : c ≡ e = sym (quotient j c d (rw same-k k_pos) b) ∙ ap (λ x. d / x) same-k ∙ quotient k e d k_pos q in
        ap (λ x. x / m) left ∙ mul-div_right (lyndon_below n w m e) z ∙ ap (lyndon_below n w m) (sym same-e)

-- ---- the numbers below m

pub not_last : (m j : ℕ) → j < m → j ≤ pred m
not_last zero j p = absurd (omega arith)
not_last (suc m) j p = omega arith
