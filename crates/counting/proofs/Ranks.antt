-- The rank of a row, from the Lyndon words whose power is at or below it: of kind 1 a sum over the common divisors of n and d, of kind 2 the
-- Lyndon words of n symbols.
use mathlib.Core.Bool.{Bool, and-false, and-true, false, true, ◌&&◌}
use mathlib.Core.List.{List, append-nil}
use mathlib.Core.Path.{ap, refl, ◌∙◌, ◌≡◌}
use Prim.Native.Nat.{suc, zero, ℕ, ◌*◌, ◌/◌, ◌<◌}
use native.Mathlib.Nat.{div-one, mod-one}
use native.Mathlib.Omega.{arith}
use Rattle.counting.proofs.LyndonSums.{divisor_term, necklace_sum}
use Rattle.counting.proofs.Recursion.{below_sum, quotient}
use Rattle.counting.proofs.Sums.{length-keep, total_same, total_zero, upto_first}
use Rattle.counting.specs.InnerRoots.{lyndon_below, lyndon_sum}
use Rattle.counting.specs.InnerSums.{commonly, flag, has_density, total, upto}
use Rattle.density.specs.Density.{all_rows}
use Rattle.density.specs.Necklaces.{necklaces, of_kind}
use Rattle.density.specs.Ranks.{rank}
use Rattle.words.proofs.Booleans.{never}
use Rattle.words.proofs.Lyndon.{Lyndon, lyndon_size}
use Rattle.words.proofs.Periods.{lyndon_period}
use Rattle.words.proofs.Power.{power, power_length}
use Rattle.words.proofs.Root.{root_period}
use Rattle.words.proofs.Rotations.{is_lyndon→}
use Rattle.words.specs.Order.{le}
use Rattle.words.specs.Rotation.{is_lyndon}

-- ---- kind 1

pub rank_one : (n d : ℕ) (w : List ℕ) → 0 < n → rank n d 1 w ≡ total (commonly n d (λ k. lyndon_below n w (n / suc k) (d / suc k))) (upto n)
unfolding rank of_kind
rank_one n d w p =
    length-keep (λ r. le r w && true) (necklaces n d)
    ∙ total_same (λ r. flag (le r w && true)) (λ r. flag (le r w)) (necklaces n d) (λ r. ap flag (and-true (le r w)))
    ∙ below_sum n d w p

-- ---- kind 2: of the powers of a Lyndon word, only the word itself is one

abbrev lyndon_to : List ℕ → List ℕ → ℕ
lyndon_to w r = flag (le r w && is_lyndon r)

module _ (n d : ℕ) (w : List ℕ) where
  no_power : (k m e : ℕ) → lyndon_sum (λ u. lyndon_to w (power (suc (suc k)) u)) m e ≡ 0
  unfolding lyndon_sum
  no_power k m e = total_zero (λ u. flag (is_lyndon u) * (flag (has_density e u) * lyndon_to w (power (suc (suc k)) u))) (all_rows m) (λ u i. go u (is_lyndon u) refl)
    where
      not_lyndon : (u : List ℕ) → Lyndon u → is_lyndon (power (suc (suc k)) u) ≡ true → ⊥
      not_lyndon u l q = omega (arith, lyndon_period (power (suc (suc k)) u) (is_lyndon→ (power (suc (suc k)) u) q), root_period u l (suc k), power_length (suc (suc k)) u, lyndon_size l)

      go : (u : List ℕ) (b : Bool) → is_lyndon u ≡ b → flag b * (flag (has_density e u) * lyndon_to w (power (suc (suc k)) u)) ≡ 0
      go u true i =
          let x = power (suc (suc k)) u in
          rw (never (is_lyndon x) (not_lyndon u (is_lyndon→ u i)), and-false (le x w)) (omega arith)
      go u false i = omega arith

  only_word : 0 < n → lyndon_sum (λ u. lyndon_to w (power 1 u)) n d ≡ lyndon_below n w n d
  unfolding lyndon_sum lyndon_below power
  only_word p =
      total_same (λ u. flag (is_lyndon u) * (flag (has_density d u) * lyndon_to w (power 1 u))) (λ u. flag (is_lyndon u) * (flag (has_density d u) * flag (le (power (n / n) u) w))) (all_rows n) (λ u. go u (is_lyndon u) refl)
    where
      one : n / n ≡ 1
      one = quotient n 1 n p (omega arith)

      go : (u : List ℕ) (b : Bool) → is_lyndon u ≡ b → flag b * (flag (has_density d u) * lyndon_to w (power 1 u)) ≡ flag b * (flag (has_density d u) * flag (le (power (n / n) u) w))
      go u true i = rw (one, append-nil u, i, and-true (le u w))
      go u false i = omega arith

lyndon_below_lem : (n d : ℕ) (w : List ℕ) → total (lyndon_to w) (necklaces (suc n) d) ≡ lyndon_below (suc n) w (suc n) d
lyndon_below_lem n d w =
    let first : divisor_term (suc n) d (lyndon_to w) 0 ≡ lyndon_below (suc n) w (suc n) d = rw (mod-one (suc n), mod-one d, div-one (suc n), div-one d, only_word (suc n) d w (omega arith)) (omega arith) in
    let rest = total_zero (λ k. divisor_term (suc n) d (lyndon_to w) (suc k)) (upto n) (λ k i. rw (no_power (suc n) d w k (suc n / suc (suc k)) (d / suc (suc k))) (omega arith)) in
    omega (arith, necklace_sum (suc n) d (lyndon_to w) (omega arith), upto_first (divisor_term (suc n) d (lyndon_to w)) n, first, rest)

pub rank_two : (n d : ℕ) (w : List ℕ) → 0 < n → rank n d 2 w ≡ lyndon_below n w n d
unfolding rank of_kind
rank_two zero d w p = absurd (omega arith)
rank_two (suc n) d w p = length-keep (λ r. le r w && is_lyndon r) (necklaces (suc n) d) ∙ lyndon_below_lem n d w
