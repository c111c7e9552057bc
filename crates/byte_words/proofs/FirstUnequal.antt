-- Bytes as one number, the first the highest: equal numbers have equal bytes, and of unequal ones the first unequal byte decides.
use mathlib.Core.Bool.{Bool, false, true}
use mathlib.Core.Logic.{inl, inr, ⊎_elim, ◌⊎◌}
use mathlib.Core.Path.{ap, ap₂, refl, sym, ◌∙◌, ◌≡◌}
use Prim.Native.Nat.{suc, zero, ℕ, ◌*◌, ◌+◌, ◌/◌, ◌<◌, ◌^◌, ◌≤◌}
use native.Mathlib.Nat.{eq-or-lt_of_le, eq-zero-or-pos, le_of_suc-le-suc, lt_of_not-le, pow-suc}
use native.Mathlib.Omega.{arith}
use lib.Bits.{and_le_l, and_le_r, bit_xor, xor_add_and, xor_block, xor_lt, xor_self}
use lib.Count.{leading_top, leading_unique, count_leading_zeros}
use lib.Dec.{eqb}
use lib.Pow.{pow-add, pow_mono}
use borrow.Author.Tests.{eqb-false, eqb-true}
use Rattle.byte_words.specs.Number.{high_first}

-- ---- bits

xor_none : (x y : ℕ) → bit_xor x y ≡ 0 → x ≡ y
xor_none x y e = omega (arith, xor_add_and x y, and_le_l x y, and_le_r x y)

-- the number z of k bits is not 0: eight bits behind it leave its zeros in front as they are
zeros-behind : (k z u : ℕ) → 0 < z → z < 2 ^ k → u < 256 → count_leading_zeros (k + 8) (z * 256 + u) ≡ count_leading_zeros k z
zeros-behind k z u p h l =
    let t = leading_top k z p h in
    let j = t.0 in
    let high : 2 ^ (suc j + 8) ≡ 2 ^ suc j * 256 = pow-add 2 (suc j) 8 in
    let twice : 2 ^ suc j ≡ 2 ^ j * 2 = pow-suc 2 j in
    sym (leading_unique (k + 8) (z * 256 + u) (count_leading_zeros k z) (suc j + 8) (omega (arith, t.1)) (omega (arith, high, t.3)) (omega (arith, high, twice, t.2)))

-- a byte that is not 0, as a number of k more bits
zeros_before : (k u : ℕ) → 0 < u → u < 256 → (k ≤ count_leading_zeros (k + 8) u) × (count_leading_zeros (k + 8) u < k + 8)
zeros_before k u p h =
    let high : 2 ^ 8 ≤ 2 ^ (k + 8) = pow_mono {i = 8} {j = k + 8} (omega arith) in
    let t = leading_top (k + 8) u p (omega (arith, high)) in
    let low : t.0 < 8 = lt_of_not-le (λ q. omega (arith, t.2, pow_mono {i = 8} {j = t.0} q)) in
    (omega (arith, t.1), omega (arith, t.1))

-- ---- bytes

-- the byte where two numbers of n bytes first differ, behind `before` others: it decides their order, and the zeros in front of their difference
-- tell where it is
pub record FirstByte (n : ℕ) (f g : ℕ → ℕ) : Type 0 where
  pub before : ℕ
  pub inside : before < n
  pub equal : (k : ℕ) → k < before → f k ≡ g k
  pub lower : high_first n f < high_first n g → f before < g before
  pub higher : high_first n g < high_first n f → g before < f before
  pub counted : count_leading_zeros (n * 8) (bit_xor (high_first n f) (high_first n g)) / 8 ≡ before

module _ (f g : ℕ → ℕ) (hf : (k : ℕ) → f k < 256) (hg : (k : ℕ) → g k < 256) where
  high_lt : (h : ℕ → ℕ) → ((k : ℕ) → h k < 256) → (n : ℕ) → high_first n h < 2 ^ (n * 8)
  high_lt h l zero = omega arith
  high_lt h l (suc n) =
      let e : 2 ^ (suc n * 8) ≡ 2 ^ (n * 8) * 256 = ap (λ k. 2 ^ k) (omega arith) ∙ pow-add 2 (n * 8) 8 in
      omega (arith, e, high_lt h l n, l n)

  pub equal_bytes : (n : ℕ) → high_first n f ≡ high_first n g → (k : ℕ) → k < n → f k ≡ g k
  equal_bytes zero e k h = absurd (omega arith)
  equal_bytes (suc n) e k h = go (equal_bytes n (omega (arith, hf n, hg n))) (eq-or-lt_of_le (le_of_suc-le-suc h))
    where
      go : ((k : ℕ) → k < n → f k ≡ g k) → (k ≡ n) ⊎ (k < n) → f k ≡ g k
      go ih (inl q) = rw q (omega (arith, hf n, hg n))
      go ih (inr l) = ih k l

  pub first_byte : (n : ℕ) → (high_first n f ≡ high_first n g → ⊥) → FirstByte n f g
  first_byte zero d = absurd (d refl)
  first_byte (suc n) d = go (eqb (high_first n f) (high_first n g)) refl (first_byte n)
    where
      x : ℕ
      x = bit_xor (high_first n f) (high_first n g)

      u : ℕ
      u = bit_xor (f n) (g n)

      whole : bit_xor (high_first (suc n) f) (high_first (suc n) g) ≡ x * 256 + u
      whole = xor_block 8 (high_first n f) (high_first n g) (f n) (g n) (hf n) (hg n)

      bits : suc n * 8 ≡ n * 8 + 8
      bits = omega arith

      -- they differ further in front
      earlier : (high_first n f ≡ high_first n g → ⊥) → FirstByte n f g → FirstByte (suc n) f g
      earlier d r =
          let some : 0 < x = ⊎_elim (λ (q : x ≡ 0). absurd (d (xor_none (high_first n f) (high_first n g) q))) (λ (q : 0 < x). q) (eq-zero-or-pos x) in
          record {
            before = r.before;
            inside = omega (arith, r.inside);
            equal = r.equal;
            lower = λ l. r.lower (omega (arith, hf n, hg n));
            higher = λ l. r.higher (omega (arith, hf n, hg n));
            counted =
                rw (whole, bits, zeros-behind (n * 8) x u some (xor_lt (n * 8) (high_first n f) (high_first n g) (high_lt f hf n) (high_lt g hg n)) (xor_lt 8 (f n) (g n) (hf n) (hg n)))
                r.counted;
          }

      -- they differ in the last byte
      last : high_first n f ≡ high_first n g → FirstByte (suc n) f g
      last e =
          let none : x ≡ 0 = ap (λ k. bit_xor k (high_first n g)) e ∙ xor_self (high_first n g) in
          let some : 0 < u = ⊎_elim (λ (q : u ≡ 0). absurd (d (ap₂ (λ k m. k * 256 + m) e (xor_none (f n) (g n) q)))) (λ (q : 0 < u). q) (eq-zero-or-pos u) in
          let z = zeros_before (n * 8) u some (xor_lt 8 (f n) (g n) (hf n) (hg n)) in
          let only : x * 256 + u ≡ u = omega arith in
          record {
            before = n;
            inside = omega arith;
            equal = equal_bytes n e;
            lower = λ l. omega arith;
            higher = λ l. omega arith;
            counted = rw (whole, bits, only) (omega (arith, z));
          }

      go : (t : Bool) → eqb (high_first n f) (high_first n g) ≡ t → ((high_first n f ≡ high_first n g → ⊥) → FirstByte n f g) → FirstByte (suc n) f g
      go true e ih = last (eqb-true (high_first n f) (high_first n g) e)
      go false e ih = let d = eqb-false (high_first n f) (high_first n g) e in earlier d (ih d)
