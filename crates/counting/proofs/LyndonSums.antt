-- A sum over the necklaces of (n, d) is a sum over Lyndon words, for each common divisor of n and d.
use mathlib.Core.Bool.{Bool, false, true, ◌&&◌}
use mathlib.Core.List.{List, Memᴰ}
use mathlib.Core.Path.{ap, refl, sym, ◌∙◌, ◌≡◌}
use Prim.Native.Nat.{suc, zero, ℕ, ◌%◌, ◌*◌, ◌+◌, ◌/◌, ◌<◌}
use native.Mathlib.Nat.{div-add-mod, mul-div_right, mul-mod_right}
use native.Mathlib.Omega.{arith}
use lib.Dec.{eqb}
use lib.ListN.{length}
use borrow.Author.Tests.{eq-eqb, eqb-false, eqb-true, ne_eqb}
use Rattle.counting.proofs.Roots.{root_sum, roots_of}
use Rattle.counting.proofs.Sums.{delta, delta_comm, once, total-keep, total_on, total_same, total_scale, total_swap, total_zero}
use Rattle.counting.specs.InnerSums.{divides, flag, total, upto, has_density}
use Rattle.counting.specs.InnerRoots.{lyndon_sum}
use Rattle.density.proofs.Binary.{Binary, binary_append, empty}
use Rattle.density.proofs.Counts.{density-append}
use Rattle.density.proofs.Enumeration.{in_rows, out_rows, rows_falling}
use Rattle.density.specs.Density.{all_rows, density}
use Rattle.density.specs.Necklaces.{is_necklace_of, necklaces}
use Rattle.words.proofs.Power.{power, power_length}
use Rattle.words.specs.Rotation.{is_lyndon, is_necklace}

pub power_density : (k : ℕ) (u : List ℕ) → density (power k u) ≡ k * density u
unfolding power density
power_density zero u = omega arith
power_density (suc k) u = omega (arith, density-append u (power k u), power_density k u)

pub power_binary : (k : ℕ) {u : List ℕ} → Binary u → Binary (power k u)
unfolding power
power_binary zero b = empty
power_binary (suc k) b = binary_append b (power_binary k b)

-- a power of density d: k divides d, and the root has density d / k
pub power_dense : (k d : ℕ) (u : List ℕ) → flag (has_density d (power (suc k) u)) ≡ flag (divides (suc k) d) * flag (has_density (d / suc k) u)
power_dense k d u = rw (power_density (suc k) u) (go (eqb (suc k * density u) d) refl)
  where
    split : suc k * (d / suc k) + d % suc k ≡ d
    split = div-add-mod d (suc k)

    go : (b : Bool) → eqb (suc k * density u) d ≡ b → flag b ≡ flag (divides (suc k) d) * flag (has_density (d / suc k) u)
    go true e =
        let q : suc k * density u ≡ d = eqb-true _ _ e in
        rw (← q, mul-mod_right (suc k) (density u), mul-div_right (density u) {m = suc k} (omega arith), eq-eqb (density u) (density u) refl)
    go false e = pick (divides (suc k) d) refl
      where
        pick : (c : Bool) → divides (suc k) d ≡ c → 0 ≡ flag c * flag (has_density (d / suc k) u)
        pick true f =
            let z : d % suc k ≡ 0 = eqb-true _ _ f in
            rw (ne_eqb (density u) (d / suc k) (λ i. eqb-false _ _ e (ap (λ t. suc k * t) i ∙ omega (arith, split))))
        pick false f = omega arith

module _ (n d : ℕ) (Q : List ℕ → ℕ) where
  -- the weight of a row of the density
  abbrev g : List ℕ → ℕ
  g r = flag (has_density d r) * Q r

  -- a sum over the powers u ^ k of n symbols
  over_powers : (k : ℕ) → suc k * (n / suc k) ≡ n
      → total (λ r. g r * total (λ u. flag (is_lyndon u) * delta (power (suc k) u) r) (all_rows (n / suc k))) (all_rows n) ≡ total (λ u. flag (is_lyndon u) * g (power (suc k) u)) (all_rows (n / suc k))
  over_powers k h =
      total_same (λ r. g r * total (λ u. flag (is_lyndon u) * delta (power (suc k) u) r) (all_rows m)) (λ r. total (λ u. g r * (flag (is_lyndon u) * delta (power (suc k) u) r)) (all_rows m)) (all_rows n)
      (λ r. sym (total_scale (g r) (λ u. flag (is_lyndon u) * delta (power (suc k) u) r) (all_rows m)))
      ∙ total_swap (λ r u. g r * (flag (is_lyndon u) * delta (power (suc k) u) r)) (all_rows n) (all_rows m)
      ∙ total_on (λ u. total (λ r. g r * (flag (is_lyndon u) * delta (power (suc k) u) r)) (all_rows n)) (λ u. flag (is_lyndon u) * g (power (suc k) u)) (all_rows m) at
    where
      m : ℕ
      m = n / suc k

      at : (u : List ℕ) → Memᴰ u (all_rows (n / suc k)) → total (λ r. g r * (flag (is_lyndon u) * delta (power (suc k) u) r)) (all_rows n) ≡ flag (is_lyndon u) * g (power (suc k) u)
      at u i =
          let o = out_rows (n / suc k) u i in
          let long : length (power (suc k) u) ≡ n = power_length (suc k) u ∙ ap (λ t. suc k * t) o.0 ∙ h in
          let order : (r : List ℕ) → g r * (flag (is_lyndon u) * delta (power (suc k) u) r) ≡ flag (is_lyndon u) * (g r * delta r (power (suc k) u)) = λ r. rw (delta_comm (power (suc k) u) r) (omega arith) in
          total_same (λ r. g r * (flag (is_lyndon u) * delta (power (suc k) u) r)) (λ r. flag (is_lyndon u) * (g r * delta r (power (suc k) u))) (all_rows n) order
          ∙ total_scale (flag (is_lyndon u)) (λ r. g r * delta r (power (suc k) u)) (all_rows n)
          ∙ ap (λ t. flag (is_lyndon u) * t) (once g (power (suc k) u) (rows_falling n) (rw long at (in_rows (power_binary (suc k) o.1))))

  -- those powers have density d where k divides d and the roots have density d / k
  of_density : (k : ℕ) → total (λ u. flag (is_lyndon u) * g (power (suc k) u)) (all_rows (n / suc k)) ≡ flag (divides (suc k) d) * lyndon_sum (λ u. Q (power (suc k) u)) (n / suc k) (d / suc k)
  unfolding lyndon_sum
  of_density k =
      total_same (λ u. flag (is_lyndon u) * g (power (suc k) u)) (λ u. c * (flag (is_lyndon u) * (flag (has_density (d / suc k) u) * Q (power (suc k) u)))) (all_rows (n / suc k))
      (λ u. ap (λ t. flag (is_lyndon u) * (t * Q (power (suc k) u))) (power_dense k d u) ∙ omega arith)
      ∙ total_scale c (λ u. flag (is_lyndon u) * (flag (has_density (d / suc k) u) * Q (power (suc k) u))) (all_rows (n / suc k))
    where
      c : ℕ
      c = flag (divides (suc k) d)

  abbrev pub divisor_term : ℕ → ℕ
  divisor_term k = flag (divides (suc k) n) * (flag (divides (suc k) d) * lyndon_sum (λ u. Q (power (suc k) u)) (n / suc k) (d / suc k))

  by_divisor : (k : ℕ) → total (λ r. g r * roots_of n r k) (all_rows n) ≡ divisor_term k
  unfolding roots_of
  by_divisor k = go (divides (suc k) n) refl
    where
      found : List ℕ → ℕ
      found r = total (λ u. flag (is_lyndon u) * delta (power (suc k) u) r) (all_rows (n / suc k))

      go : (b : Bool) → divides (suc k) n ≡ b → total (λ r. g r * (flag b * found r)) (all_rows n) ≡ flag b * (flag (divides (suc k) d) * lyndon_sum (λ u. Q (power (suc k) u)) (n / suc k) (d / suc k))
      go true e =
          let h : suc k * (n / suc k) ≡ n = omega (arith, div-add-mod n (suc k), eqb-true (n % suc k) 0 e) in
          total_same (λ r. g r * (1 * found r)) (λ r. g r * found r) (all_rows n) (λ r. omega arith)
          ∙ over_powers k h ∙ of_density k ∙ omega arith
      go false e = total_zero (λ r. g r * (0 * found r)) (all_rows n) (λ r m. omega arith) ∙ omega arith

  -- a test of two parts, as a product
  both : (a b : Bool) (q : ℕ) → flag (a && b) * q ≡ (flag a * q) * flag b
  both true true q = omega arith
  both true false q = omega arith
  both false b q = omega arith

  pub necklace_sum : 0 < n → total Q (necklaces n d) ≡ total divisor_term (upto n)
  unfolding necklaces is_necklace_of
  necklace_sum p =
      total-keep Q (is_necklace_of d) (all_rows n)
      ∙ total_on (λ r. flag (is_necklace_of d r) * Q r) (λ r. total (λ k. g r * roots_of n r k) (upto n)) (all_rows n)
      (λ r m. both (has_density d r) (is_necklace r) (Q r) ∙ ap (λ t. g r * t) (sym (root_sum n r p m)) ∙ sym (total_scale (g r) (roots_of n r) (upto n)))
      ∙ total_swap (λ r k. g r * roots_of n r k) (all_rows n) (upto n)
      ∙ total_same (λ k. total (λ r. g r * roots_of n r k) (all_rows n)) divisor_term (upto n) by_divisor
