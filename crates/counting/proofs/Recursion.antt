-- The necklaces at or below a row in terms of Lyndon words, and the recursion for these.
use mathlib.Core.Bool.{Bool, false, true}
use mathlib.Core.List.{List}
use mathlib.Core.Path.{ap, refl, sym, ◌∙◌, ◌≡◌}
use Prim.Native.Nat.{suc, zero, ℕ, ◌%◌, ◌*◌, ◌+◌, ◌/◌, ◌<◌, ◌≤◌}
use native.Mathlib.Nat.{div-add-mod, div-one, mod-one, mul-div_right, mul-le-mul_left}
use native.Mathlib.Omega.{arith}
use lib.ListN.{length}
use borrow.Author.Tests.{eqb-true}
use Rattle.counting.proofs.LyndonSums.{divisor_term, necklace_sum}
use Rattle.counting.proofs.Orbits.{orbits}
use Rattle.counting.proofs.Sums.{total_on, total_same, total_scale, upto_first}
use Rattle.counting.specs.InnerRoots.{lyndon_below, lyndon_sum, rows_below}
use Rattle.counting.specs.InnerSums.{commonly, divides, flag, total, upto, has_density}
use Rattle.density.proofs.Enumeration.{out_rows}
use Rattle.density.specs.Density.{all_rows}
use Rattle.density.specs.Necklaces.{necklaces}
use Rattle.words.proofs.Power.{power, power_power}
use Rattle.words.proofs.Root.{root_period}
use Rattle.words.proofs.Rotations.{is_lyndon→}
use Rattle.words.specs.Order.{le}
use Rattle.words.specs.Rotation.{is_lyndon, period}

pub commonly_both : (m e : ℕ) (f g : ℕ → ℕ) (j : ℕ) → (suc j * (m / suc j) ≡ m → suc j * (e / suc j) ≡ e → f j ≡ g j) → commonly m e f j ≡ commonly m e g j
commonly_both m e f g j h = go (divides (suc j) m) refl (divides (suc j) e) refl
  where
    go : (a : Bool) → divides (suc j) m ≡ a → (b : Bool) → divides (suc j) e ≡ b → flag a * (flag b * f j) ≡ flag a * (flag b * g j)
    go true p true q = rw (h (omega (arith, div-add-mod m (suc j), eqb-true (m % suc j) 0 p)) (omega (arith, div-add-mod e (suc j), eqb-true (e % suc j) 0 q)))
    go true p false q = omega arith
    go false p b q = omega arith

pub quotient : (a b n : ℕ) → 0 < a → a * b ≡ n → n / a ≡ b
quotient a b n p e = ap (λ t. t / a) (sym e) ∙ mul-div_right b p

pub factor_pos : (a b n : ℕ) → 0 < n → a * b ≡ n → 0 < b
factor_pos a zero n p e = absurd (omega arith)
factor_pos a (suc b) n p e = omega arith

pub factor_fits : (a b n : ℕ) → 0 < n → a * b ≡ n → a ≤ n
factor_fits a b n p e = omega (arith, e, mul-le-mul_left a (factor_pos a b n p e))

-- a divisor of a divisor
pub part_of_part : (n m k : ℕ) → 0 < m → m * (n / m) ≡ n → suc k * (m / suc k) ≡ m → n / m * suc k ≡ n / (m / suc k)
part_of_part n m k p e f = sym (quotient (m / suc k) (n / m * suc k) n (factor_pos (suc k) (m / suc k) m p f) (omega (arith, ap (λ t. t * (n / m)) f)))

-- ---- the necklaces at or below w, by their roots

pub below_sum : (n d : ℕ) (w : List ℕ) → 0 < n → total (λ r. flag (le r w)) (necklaces n d) ≡ total (commonly n d (λ k. lyndon_below n w (n / suc k) (d / suc k))) (upto n)
unfolding lyndon_below
below_sum n d w p =
    necklace_sum n d (λ r. flag (le r w)) p
    ∙ total_same (commonly n d (λ k. lyndon_sum (λ u. flag (le (power (suc k) u) w)) (n / suc k) (d / suc k))) (commonly n d (λ k. lyndon_below n w (n / suc k) (d / suc k))) (upto n)
    (λ k. commonly_both n d (λ k. lyndon_sum (λ u. flag (le (power (suc k) u) w)) (n / suc k) (d / suc k)) (λ k. lyndon_below n w (n / suc k) (d / suc k)) k
    (λ h i. ap (λ t. lyndon_sum (λ u. flag (le (power t u) w)) (n / suc k) (d / suc k)) (sym (quotient (n / suc k) (suc k) n (factor_pos (suc k) (n / suc k) n p h) (omega arith)))))

-- ---- the rows with a rotation at or below w, by the roots of their least rotations

module _ (n : ℕ) (w : List ℕ) (m e : ℕ) (p : 0 < m) (whole : m * (n / m) ≡ n) where
  -- each Lyndon word of m / k symbols stands for an orbit of m / k rows
  weight : (k : ℕ) → suc k * (m / suc k) ≡ m
      → lyndon_sum (λ u. flag (le (power (n / m) (power (suc k) u)) w) * period (power (suc k) u)) (m / suc k) (e / suc k) ≡ m / suc k * lyndon_below n w (m / suc k) (e / suc k)
  unfolding lyndon_sum lyndon_below
  weight k h =
      total_on (λ u. flag (is_lyndon u) * (flag (has_density c u) * Q (power (suc k) u))) (λ u. q * (flag (is_lyndon u) * (flag (has_density c u) * f u))) (all_rows q) (λ u i. go u (out_rows (m / suc k) u i).0 (is_lyndon u) refl)
      ∙ total_scale q (λ u. flag (is_lyndon u) * (flag (has_density c u) * f u)) (all_rows q)
    where
      q : ℕ
      q = m / suc k

      c : ℕ
      c = e / suc k

      Q : List ℕ → ℕ
      Q r = flag (le (power (n / m) r) w) * period r

      f : List ℕ → ℕ
      f u = flag (le (power (n / (m / suc k)) u) w)

      same_power : (u : List ℕ) → power (n / m) (power (suc k) u) ≡ power (n / (m / suc k)) u
      same_power u = power_power (n / m) (suc k) u ∙ ap (λ t. power t u) (part_of_part n m k p whole h)

      go : (u : List ℕ) → length u ≡ m / suc k → (b : Bool) → is_lyndon u ≡ b → flag b * (flag (has_density c u) * Q (power (suc k) u)) ≡ q * (flag b * (flag (has_density c u) * f u))
      go u l true i = rw (same_power u, root_period u (is_lyndon→ u i) k, l) (omega arith)
      go u l false i = omega arith

  pub orbit_sizes : total (commonly m e (λ k. m / suc k * lyndon_below n w (m / suc k) (e / suc k))) (upto m) ≡ rows_below n w m e
  unfolding rows_below
  orbit_sizes =
      total_same (commonly m e sizes) (divisor_term m e Q) (upto m) (λ k. commonly_both m e sizes sums k (λ h i. sym (weight k h)))
      ∙ sym (necklace_sum m e Q p)
      ∙ orbits m e p (λ r. flag (le (power (n / m) r) w))
    where
      Q : List ℕ → ℕ
      Q r = flag (le (power (n / m) r) w) * period r

      sizes : ℕ → ℕ
      sizes k = m / suc k * lyndon_below n w (m / suc k) (e / suc k)

      sums : ℕ → ℕ
      sums k = lyndon_sum (λ u. Q (power (suc k) u)) (m / suc k) (e / suc k)

-- what the Lyndon words of (m + 1) / (k + 2) symbols take from the rows of m + 1
abbrev pub shorter : (ℕ → ℕ → ℕ) → ℕ → ℕ → ℕ → ℕ
shorter L m e k = commonly (suc m) e (λ k. suc m / suc k * L (suc m / suc k) (e / suc k)) (suc k)

-- the Lyndon words of m + 1 symbols apart from the shorter ones
pub lyndon_recursion : (n : ℕ) (w : List ℕ) (m e : ℕ) → suc m * (n / suc m) ≡ n
    → suc m * lyndon_below n w (suc m) e + total (shorter (lyndon_below n w) m e) (upto m) ≡ rows_below n w (suc m) e
lyndon_recursion n w m e h = omega (arith, upto_first (commonly (suc m) e g) m, first, orbit_sizes n w (suc m) e (omega arith) h)
  where
    g : ℕ → ℕ
    g k = suc m / suc k * lyndon_below n w (suc m / suc k) (e / suc k)

    first : commonly (suc m) e g 0 ≡ suc m * lyndon_below n w (suc m) e
    first = rw (mod-one (suc m), mod-one e, div-one (suc m), div-one e) (omega arith)
