-- A row is a necklace exactly if it is a power of a Lyndon word, and then of one only.
use mathlib.Core.Bool.{Bool, false, true, true≢false}
use mathlib.Core.List.{List, Memᴰ}
use mathlib.Core.Path.{ap, refl, subst, sym, ◌∙◌, ◌≡◌}
use Prim.Native.Nat.{suc, ℕ, ◌%◌, ◌*◌, ◌/◌, ◌<◌}
use native.Mathlib.Nat.{eq_of_mul-eq-mul_right, mul-div_right, mul-le-mul_right, mul-mod_right, mul-zero}
use native.Mathlib.Omega.{arith}
use lib.ListN.{length, take}
use lib.Seq.{take_at}
use borrow.Author.Tests.{eq-eqb}
use Rattle.counting.proofs.Sums.{delta, delta_differ, delta_iff, once, one_index, total_on, total_zero}
use Rattle.counting.specs.InnerSums.{divides, flag, total, upto}
use Rattle.density.proofs.Binary.{Binary, binary_front}
use Rattle.density.proofs.Enumeration.{in_rows, out_rows, rows_falling}
use Rattle.density.specs.Density.{all_rows}
use Rattle.words.proofs.Lyndon.{Lyndon, lyndon_size}
use Rattle.words.proofs.Power.{power, power_length}
use Rattle.words.proofs.PowerOrder.{Necklace, power_necklace}
use Rattle.words.proofs.Root.{Root, root, root_period}
use Rattle.words.proofs.Rotations.{is_lyndon→, is_necklace→, →is_lyndon, →is_necklace}
use Rattle.words.specs.Rotation.{is_lyndon, is_necklace, period}

-- a power tells its root, of a given length
pub power_root : (k : ℕ) (u v : List ℕ) → length u ≡ length v → power (suc k) u ≡ power (suc k) v → u ≡ v
unfolding power
power_root k u v l e = sym (take_at u (power k u) (length v) l) ∙ ap (take (length v)) e ∙ take_at v (power k v) (length v) refl

-- two Lyndon words with a common power
pub one_root : {u v : List ℕ} → Lyndon u → Lyndon v → (i j : ℕ) → power (suc i) u ≡ power (suc j) v → (i ≡ j) × (u ≡ v)
one_root {u} {v} lu lv i j e = (copies, power_root i u v long (e ∙ ap (λ t. power (suc t) v) (sym copies)))
  where
    long : length u ≡ length v
    long = sym (root_period u lu i) ∙ ap period e ∙ root_period v lv j

    sizes : suc i * length v ≡ suc j * length v
    sizes = ap (λ t. suc i * t) (sym long) ∙ sym (power_length (suc i) u) ∙ ap length e ∙ power_length (suc j) v

    copies : i ≡ j
    copies = let q = eq_of_mul-eq-mul_right (length v) (lyndon_size lv) (suc i) (suc j) sizes in omega arith

-- the Lyndon words of n / k symbols whose power is r
unfoldable pub roots_of : ℕ → List ℕ → ℕ → ℕ
roots_of n r i = flag (divides (suc i) n) * total (λ u. flag (is_lyndon u) * delta (power (suc i) u) r) (all_rows (n / suc i))

module _ (n : ℕ) (r : List ℕ) where
  no_root : (i : ℕ) → ((u : List ℕ) → Lyndon u → power (suc i) u ≡ r → ⊥) → roots_of n r i ≡ 0
  unfolding roots_of
  no_root i h = rw (total_zero (λ u. flag (is_lyndon u) * delta (power (suc i) u) r) (all_rows (n / suc i)) (λ u m. go u (is_lyndon u) refl)) (mul-zero (flag (divides (suc i) n)))
    where
      go : (u : List ℕ) (b : Bool) → is_lyndon u ≡ b → flag b * delta (power (suc i) u) r ≡ 0
      go u true e = rw (delta_differ (power (suc i) u) r (h u (is_lyndon→ u e)))
      go u false e = omega arith

  module _ (long : length r ≡ n) (binary : Binary r) (t : Root r) where
    abbrev k : ℕ
    k = t.k

    abbrev u : List ℕ
    u = t.u

    size : suc k * length u ≡ n
    size = sym (power_length (suc k) u) ∙ ap length (sym t.is) ∙ long

    part : n / suc k ≡ length u
    part = ap (λ m. m / suc k) (sym size) ∙ mul-div_right (length u) (omega arith)

    whole : n % suc k ≡ 0
    whole = ap (λ m. m % suc k) (sym size) ∙ mul-mod_right (suc k) (length u)

    inside : k < n
    inside = omega (arith, size, mul-le-mul_right (suc k) (lyndon_size t.lyn))

    u_binary : Binary u
    unfolding power
    u_binary = binary_front u (power k u) (subst Binary t.is binary)

    that_root : roots_of n r k ≡ 1
    unfolding roots_of
    that_root =
        rw (eq-eqb (n % suc k) 0 whole, part)
        (ap (λ m. 1 * m) (total_on (λ v. flag (is_lyndon v) * delta (power (suc k) v) r) (λ v. flag (is_lyndon v) * delta v u) (all_rows (length u))
        (λ v m. ap (λ s. flag (is_lyndon v) * s) (alike v (out_rows (length u) v m).0))
        ∙ once (λ v. flag (is_lyndon v)) u (rows_falling (length u)) (in_rows u_binary) ∙ ap flag (→is_lyndon u t.lyn)))
      where
        alike : (v : List ℕ) → length v ≡ length u → delta (power (suc k) v) r ≡ delta v u
        alike v l = delta_iff (power (suc k) v) r v u (λ e. power_root k v u l (e ∙ t.is)) (λ e. ap (power (suc k)) e ∙ sym t.is)

    roots_one : total (roots_of n r) (upto n) ≡ 1
    roots_one = one_index (roots_of n r) n k inside that_root (λ j h d. no_root j (λ v l e. d (one_root l t.lyn j k (e ∙ t.is)).0))

-- each necklace is the power of one Lyndon word, and no other row is
pub root_sum : (n : ℕ) (r : List ℕ) → 0 < n → Memᴰ r (all_rows n) → total (roots_of n r) (upto n) ≡ flag (is_necklace r)
root_sum n r p m = go (is_necklace r) refl
  where
    o : (length r ≡ n) × Binary r
    o = out_rows n r m

    go : (b : Bool) → is_necklace r ≡ b → total (roots_of n r) (upto n) ≡ flag b
    go true e = roots_one n r o.0 o.1 (root r (omega (arith, o.0)) (is_necklace→ r e))
    go false e = total_zero (roots_of n r) (upto n) (λ i k. no_root n r i (λ u l q. true≢false (sym (→is_necklace r (subst Necklace q (power_necklace l (suc i)))) ∙ e)))
