-- The rule for many holes gives the balanced row: where its blocks start, and what they hold. It has z zeros.
use mathlib.Core.List.{List, ◌++◌, ◌∷◌}
use mathlib.Core.Path.{ap, refl, ◌≡◌}
use Prim.Native.Nat.{suc, zero, ℕ, ◌%◌, ◌*◌, ◌+◌, ◌-◌, ◌/◌, ◌<◌, ◌≤◌}
use native.Mathlib.Nat.{div-add-mod', div-mul-le_self, le-div_iff_mul-le, le_of_mul-le-mul_right, lt-div-mul-add, mod-lt, mul-div_right, mul-le-mul_left, mul-le-mul_right, suc-add, zero-add, zero-div, zero-mul}
use native.Mathlib.Omega.{arith}
use lib.ListN.{get_or, replicate, take}
use Rattle.density.proofs.BalancedRow.{balanced-append}
use Rattle.largest.proofs.RowSymbols.{balanced-run, symbol, symbol_in, symbol_one, symbol_step, symbol_zero}
use Rattle.density.specs.InnerBalanced.{balanced, balanced_from}
use Rattle.largest.specs.Top.{many_row}

-- block k starts behind p symbols
abbrev pub ManyAt : ℕ → ℕ → ℕ → ℕ → Type 0
ManyAt n z p k = p ≡ k * (n / z) + k * (n % z) / z

-- it has a 0 and g ones
pub record ManyBlock (n d z p k g : ℕ) : Type 0 where
  pub next : ManyAt n z (suc (p + g)) (suc k)
  pub room : suc (p + g) ≤ n
  pub zero_first : symbol n d p ≡ 0
  pub ones : (i : ℕ) → suc p ≤ i → i < suc p + g → symbol n d i ≡ 1

-- p is k n / z, rounded down
floor : (n z s r C p k : ℕ) → s * z + r ≡ n → C * z ≤ k * r → k * r < C * z + z → p ≡ k * s + C → (p * z ≤ k * n) × (k * n < p * z + z)
floor n z s r C p k hn l u h =
    let a : p * z ≡ (k * s + C) * z = ap (λ (x : ℕ). x * z) h in
    let b : k * (s * z + r) ≡ k * n = ap (λ (x : ℕ). k * x) hn in
    omega arith

pub many_start : (n z : ℕ) → ManyAt n z 0 0
many_start n z = simp (zero-mul, zero-div, zero-add)

module _ (n d z : ℕ) (pos : 0 < z) (e : d + z ≡ n) (h : 2 * z ≤ n) where
  at_floor : (p k : ℕ) → ManyAt n z p k → (p * z ≤ k * n) × (k * n < p * z + z)
  at_floor p k a = floor n z (n / z) (n % z) (k * (n % z) / z) p k (div-add-mod' n z) (div-mul-le_self (k * (n % z)) z) (lt-div-mul-add pos) a

  pub least_run : 2 ≤ n / z
  least_run = (le-div_iff_mul-le pos).1 h

  -- the smaller row's symbol k, b, makes block k
  pub many_block : (p k b : ℕ) → k < z → ManyAt n z p k → b ≡ symbol z (n % z) k → (b ≤ 1) × ManyBlock n d z p k (n / z - 1 + b)
  many_block p k b k< a eb =
      let r : n % z < z = mod-lt n pos in
      let t = least_run in
      let s = symbol_step z (n % z) k pos (omega arith) in
      let small : b ≤ 1 = omega arith in
      let next : ManyAt n z (suc (p + (n / z - 1 + b))) (suc k) = omega arith in
      let c = at_floor p k a in
      let c' = at_floor (suc (p + (n / z - 1 + b))) (suc k) next in
      let under : suc k * n ≤ z * n = mul-le-mul_right n (omega arith) in
      let kt : k * 1 ≤ k * (n / z) = mul-le-mul_left k (omega arith) in
      let low : k ≤ p = omega arith in
      let whole : (i : ℕ) → i * (d + z) ≡ i * n = λ i. ap (λ (x : ℕ). i * x) e in (
        small,
        record {
          next = next;
          room = le_of_mul-le-mul_right {k = z} (omega arith) pos;
          zero_first =
              let m : (p - k + k) * n ≡ p * n = ap (λ (x : ℕ). x * n) (omega arith) in
              symbol_zero n d p (p - k) (omega (arith, whole p)) (omega (arith, whole p));
          ones = λ i lo hi.
              let m : (i - k - 1 + 1 + k) * n ≡ i * n = ap (λ (x : ℕ). x * n) (omega arith) in
              let x : suc p * z ≤ i * z = mul-le-mul_right z lo in
              let y : suc i * z ≤ suc (p + (n / z - 1 + b)) * z = mul-le-mul_right z (omega arith) in
              symbol_one n d i (i - k - 1) (omega arith) (omega (arith, whole i)) (omega (arith, whole i));
        },
      )

  -- with the smaller row in an array w
  pub many_turn : (p k : ℕ) (w : List ℕ) → take z w ≡ balanced z (n % z) → k < z → ManyAt n z p k → (get_or w k 0 ≤ 1) × ManyBlock n d z p k (n / z - 1 + get_or w k 0)
  many_turn p k w s k< a = many_block p k (get_or w k 0) k< a (symbol_in z (n % z) k w s k<)

  -- the row ends with block z
  pub many_ends : (p : ℕ) → ManyAt n z p z → p ≡ n
  many_ends p a =
      let m = div-add-mod' n z in
      let q : z * (n % z) / z ≡ n % z = mul-div_right (n % z) pos in
      omega arith

  some : 0 < n
  some = omega arith

  -- a block, and a row w behind it
  pub many_block_row : (p k g m r : ℕ) (w : List ℕ) → ManyBlock n d z p k g → suc (g + m) ≡ r → w ≡ balanced_from n d (suc (p + g)) m → 0 ∷ (replicate g 1 ++ w) ≡ balanced_from n d p r
  unfolding balanced_from symbol
  many_block_row p k g m r w b s f = rw (← s, b.zero_first, balanced-append n d some g m (suc p), balanced-run n d 1 g (suc p) b.ones, suc-add p g, f)

  blocks : (m k p r : ℕ) → k + m ≡ z → p + r ≡ n → ManyAt n z p k → many_row (n / z) (balanced_from z (n % z) k m) ≡ balanced_from n d p r
  unfolding many_row balanced_from symbol
  blocks zero k p r s f a =
      let k≡z : k ≡ z = omega arith in
      let p≡n = many_ends p (rw k≡z at a) in
      let r≡0 : r ≡ 0 = omega arith in
      rw r≡0
  blocks (suc m) k p r s f a =
      let t = (many_block p k (symbol z (n % z) k) (omega arith) a refl).1 in
      let g : ℕ = n / z - 1 + symbol z (n % z) k in
      let r' : ℕ = n - suc (p + g) in
      many_block_row p k g r' r _ t (omega (arith, t.room)) (blocks m (suc k) (suc (p + g)) r' (omega arith) (omega (arith, t.room)) t.next)

  pub many_balanced : many_row (n / z) (balanced z (n % z)) ≡ balanced n d
  many_balanced = blocks z 0 0 n (omega arith) (omega arith) (many_start n z)
