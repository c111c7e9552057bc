-- The rule for few holes gives the balanced row: where its blocks start, and what they hold.
use mathlib.Core.List.{List, ◌++◌, ◌∷◌}
use mathlib.Core.Path.{ap, refl, ◌≡◌}
use Prim.Native.Nat.{suc, zero, ℕ, ◌%◌, ◌*◌, ◌+◌, ◌-◌, ◌/◌, ◌<◌, ◌≤◌}
use native.Mathlib.Nat.{div-add-mod', div-mul-le_self, le-div_iff_mul-le, lt-div-mul-add, lt_of_mul-lt-mul_right, mod-lt, mul-div_right, mul-le-mul_right, zero-add, zero-div, zero-mul}
use native.Mathlib.Omega.{arith}
use lib.ListN.{get_or, replicate, take}
use Rattle.density.proofs.BalancedRow.{balanced-append}
use Rattle.largest.proofs.RowSymbols.{balanced-run, symbol, symbol_in, symbol_one, symbol_step, symbol_zero}
use Rattle.density.specs.InnerBalanced.{balanced, balanced_from}
use Rattle.density.specs.Blocks.{blocks}
use Rattle.largest.specs.Top.{few_row}

-- block k starts behind p symbols
abbrev pub FewAt : ℕ → ℕ → ℕ → ℕ → Type 0
FewAt n d p k = p + k * (d - n % d) / d ≡ k * (n / d + 1)

-- it has g zeros and a 1
pub record FewBlock (n d p k g : ℕ) : Type 0 where
  pub next : FewAt n d (suc (p + g)) (suc k)
  pub room : suc (p + g) ≤ n
  pub zeros : (i : ℕ) → p ≤ i → i < p + g → symbol n d i ≡ 0
  pub one : symbol n d (p + g) ≡ 1

-- p is k n / d, rounded up
ceiling : (n d t r e B p k : ℕ) → t * d + r ≡ n → e + r ≡ d → B * d ≤ k * e → k * e < B * d + d → p + B ≡ k * (t + 1) → (k * n ≤ p * d) × (p * d < k * n + d)
ceiling n d t r e B p k hn he l u h =
    let a : (p + B) * d ≡ k * (t + 1) * d = ap (λ (x : ℕ). x * d) h in
    let b : k * (t * d + r) ≡ k * n = ap (λ (x : ℕ). k * x) hn in
    let c : k * (e + r) ≡ k * d = ap (λ (x : ℕ). k * x) he in
    omega arith

pub few_start : (n d : ℕ) → FewAt n d 0 0
few_start n d = simp (zero-mul, zero-div, zero-add)

module _ (n d : ℕ) (z : 0 < d) (h : 2 * d ≤ n) where
  at_ceiling : (p k : ℕ) → FewAt n d p k → (k * n ≤ p * d) × (p * d < k * n + d)
  at_ceiling p k a =
      let r : n % d < d = mod-lt n z in
      ceiling n d (n / d) (n % d) (d - n % d) (k * (d - n % d) / d) p k (div-add-mod' n d) (omega arith) (div-mul-le_self (k * (d - n % d)) d) (lt-div-mul-add z) a

  pub least_quotient : 2 ≤ n / d
  least_quotient = (le-div_iff_mul-le z).1 h

  -- the smaller row's symbol k, b, makes block k
  pub few_block : (p k b : ℕ) → k < d → FewAt n d p k → b ≡ symbol d (d - n % d) k → (b ≤ 1) × FewBlock n d p k (n / d - b)
  few_block p k b k< a e =
      let r : n % d < d = mod-lt n z in
      let t = least_quotient in
      let s = symbol_step d (d - n % d) k z (omega arith) in
      let small : b ≤ 1 = omega arith in
      let next : FewAt n d (suc (p + (n / d - b))) (suc k) = omega arith in
      let c = at_ceiling p k a in
      let c' = at_ceiling (suc (p + (n / d - b))) (suc k) next in
      let under : suc k * n ≤ d * n = mul-le-mul_right n (omega arith) in (
        small,
        record {
          next = next;
          room =
              let x : suc (p + (n / d - b)) * d < (n + 1) * d = omega arith in
              let y = lt_of_mul-lt-mul_right d x in
              omega arith;
          zeros = λ i lo hi.
              let x : p * d ≤ i * d = mul-le-mul_right d lo in
              let y : (i + 2) * d ≤ suc (p + (n / d - b)) * d = mul-le-mul_right d (omega arith) in
              symbol_zero n d i k (omega arith) (omega arith);
          one = symbol_one n d (p + (n / d - b)) k (omega arith) (omega arith) (omega arith);
        },
      )

  -- with the smaller row in an array w
  pub few_turn : (p k : ℕ) (w : List ℕ) → take d w ≡ balanced d (d - n % d) → k < d → FewAt n d p k → (get_or w k 0 ≤ 1) × FewBlock n d p k (n / d - get_or w k 0)
  few_turn p k w e k< a = few_block p k (get_or w k 0) k< a (symbol_in d (d - n % d) k w e k<)

  -- the row ends with block d
  pub few_ends : (p : ℕ) → FewAt n d p d → p ≡ n
  few_ends p a =
      let r : n % d < d = mod-lt n z in
      let m = div-add-mod' n d in
      let e : d * (d - n % d) / d ≡ d - n % d = mul-div_right (d - n % d) z in
      omega arith

  pos : 0 < n
  pos = omega arith

  -- a block, and a row w behind it
  pub few_block_row : (p k g m r : ℕ) (w : List ℕ) → FewBlock n d p k g → g + suc m ≡ r → w ≡ balanced_from n d (suc (p + g)) m → replicate g 0 ++ (1 ∷ w) ≡ balanced_from n d p r
  unfolding balanced_from symbol
  few_block_row p k g m r w b e f = rw (← e, balanced-append n d pos g (suc m) p, balanced-run n d 0 g p b.zeros, b.one, f)

  blocks-balanced : (m k p r : ℕ) → k + m ≡ d → p + r ≡ n → FewAt n d p k → few_row (n / d) (balanced_from d (d - n % d) k m) ≡ balanced_from n d p r
  unfolding blocks balanced_from symbol
  blocks-balanced zero k p r e f a =
      let k≡d : k ≡ d = omega arith in
      let p≡n = few_ends p (rw k≡d at a) in
      let r≡0 : r ≡ 0 = omega arith in
      rw r≡0
  blocks-balanced (suc m) k p r e f a =
      let t = (few_block p k (symbol d (d - n % d) k) (omega arith) a refl).1 in
      let g : ℕ = n / d - symbol d (d - n % d) k in
      let r' : ℕ = n - suc (p + g) in
      few_block_row p k g r' r _ t (omega (arith, t.room)) (blocks-balanced m (suc k) (suc (p + g)) r' (omega arith) (omega (arith, t.room)) t.next)

  pub few_balanced : few_row (n / d) (balanced d (d - n % d)) ≡ balanced n d
  few_balanced = blocks-balanced d 0 0 n (omega arith) (omega arith) (few_start n d)
