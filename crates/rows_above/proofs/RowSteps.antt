-- A row of the table is filled: entries set to 0, then a block added for each 0 of v.
use mathlib.Core.List.{List}
use mathlib.Core.Logic.{inl, inr, ◌⊎◌}
use mathlib.Core.Path.{ap, ap₂, ◌∙◌, ◌≡◌}
use Prim.Native.Nat.{suc, ℕ, ◌*◌, ◌+◌, ◌-◌, ◌<◌, ◌≤◌}
use native.Mathlib.Nat.{eq-or-lt_of_le, mul-le-mul_right}
use native.Mathlib.Omega.{arith}
use lib.ListN.{drop, get_or, length}
use Rattle.counting.specs.InnerBlocks.{first_block}
use Rattle.rows_above.proofs.BlockSteps.{first_at_one, first_at_zero, first_dense, first_end, first_none}
use Rattle.rows_above.proofs.Filling.{F, by_blocks, chains-fit, too_dense}
use Rattle.rows_above.specs.InnerTables.{Added, Cleared, Filled, Opening, SumsFit, entry_at, sequences, table_size}
use Rattle.words.proofs.Below.{le_or}

-- what is left of the sequences of g ones and z zeros where i symbols of v are passed, with c ones
abbrev pub left : List ℕ → ℕ → ℕ → ℕ → ℕ → ℕ
left v g c i z = first_block (F v) (g + z - i) (g - c) (drop i v)

pub record Row (v : List ℕ) (g k : ℕ) (t : List ℕ) (c j : ℕ) : Type 0 where
  pub long : length t ≡ table_size
  pub lower : Filled v t g k
  pub row : (z : ℕ) → z ≤ k → entry_at t g z + left v g c (c + j) z ≡ sequences v g z

module _ (v : List ℕ) (g k : ℕ) (o : Opening v) (some : 0 < g) (within : g + k ≤ length v) where
  -- entries of fewer ones lie before the row
  ahead : (h z : ℕ) → h < g → z ≤ k → h * 65 + z < g * 65
  ahead h z a b = omega (arith, mul-le-mul_right 65 a, o.few)

  pub row_start : (t u : List ℕ) → Filled v t g k → Cleared t u (g * 65) (k + 1) → Row v g k u 0 0
  row_start t u f s = record {
    long = s.long;
    lower = λ h z a b. s.before (h * 65 + z) (ahead h z a b) ∙ f h z a b;
    row = λ z h.
        let p : g + z - 0 ≡ g + z = omega arith in
        let q : g - 0 ≡ g = omega arith in
        rw (s.changed z (omega arith), p, q) (omega (arith, by_blocks v o (g + z) g (omega arith)));
  }

  -- no block is left: no ones, or more zeros than there are places
  no_ones : (c i z : ℕ) → g ≤ c → left v g c i z ≡ 0
  no_ones c i z h = let e : g - c ≡ 0 = omega arith in rw e (first_none (F v) (g + z - i) (drop i v))

  no_zeros : (c i z : ℕ) → c < g → c + z < i → left v g c i z ≡ 0
  no_zeros c i z a b = first_dense (F v) (too_dense v o) (g + z - i) (g - c) (drop i v) (omega arith)

  pub row_full : (t : List ℕ) (c j : ℕ) → Row v g k t c j → (g ≤ c) ⊎ (k < j) → Filled v t (g + 1) k
  row_full t c j r w h z a b = go (eq-or-lt_of_le a)
    where
      none : (g ≤ c) ⊎ (k < j) → left v g c (c + j) z ≡ 0
      none (inl q) = no_ones c (c + j) z q
      none (inr q) = pick (le_or g c)
        where
          pick : (g ≤ c) ⊎ (c < g) → left v g c (c + j) z ≡ 0
          pick (inl p) = no_ones c (c + j) z p
          pick (inr p) = no_zeros c (c + j) z p (omega arith)

      go : (suc h ≡ g + 1) ⊎ (suc h < g + 1) → entry_at t h z ≡ sequences v h z
      go (inl p) = let q : h ≡ g = omega arith in rw q (omega (arith, r.row z b, none w))
      go (inr p) = r.lower h z (omega arith) b

  module _ (t : List ℕ) (c j : ℕ) (r : Row v g k t c j) (room : c < g) (zeros : j ≤ k) where
    more : c + j < length v
    more = omega arith

    -- a block leaves q ones
    module _ (q : ℕ) (rest : g ≡ c + suc q) (e : get_or v (c + j) 0 ≡ 0) where
      -- the block of this 0, with j + x zeros in all
      split : (x : ℕ) → j + x ≤ k → entry_at t g (j + x) + entry_at t q x + left v g c (suc (c + j)) (j + x) ≡ sequences v g (j + x)
      split x b =
          let source = r.lower q x (omega arith) (omega arith) in
          let size : q + x ≡ g + (j + x) - suc (c + j) = omega arith in
          let ones : q ≡ g - c - 1 = omega arith in
          let same : sequences v q x ≡ F v (g + (j + x) - suc (c + j)) (g - c - 1) = ap₂ (F v) size ones in
          omega (arith, r.row (j + x) b, source, same, first_at_zero (F v) v (c + j) more (g - c) (omega arith) (g + (j + x)) (omega arith) e)

      pub sums-fit : SumsFit t (g * 65 + j) (q * 65) (k + 1 - j)
      sums-fit x h =
          let at-z : g * 65 + (j + x) ≡ g * 65 + j + x = omega arith in
          omega (arith, split x (omega arith), ap (λ p. get_or t p 0) at-z, chains-fit v o (g + (j + x)) g (omega arith))

      pub row_zero : (u : List ℕ) → Added t u (g * 65 + j) (q * 65) (k + 1 - j) → Row v g k u c (j + 1)
      row_zero u s = record {
        long = s.long;
        lower = λ h z a b. s.before (h * 65 + z) (omega (arith, ahead h z a b)) ∙ r.lower h z a b;
        row = λ z b. let next : c + (j + 1) ≡ suc (c + j) = omega arith in rw next (go z b (le_or j z));
      }
        where
          go : (z : ℕ) → z ≤ k → (j ≤ z) ⊎ (z < j) → entry_at u g z + left v g c (suc (c + j)) z ≡ sequences v g z
          go z b (inl h) =
              let is : z ≡ j + (z - j) = omega arith in
              let at-z : g * 65 + j + (z - j) ≡ g * 65 + (j + (z - j)) = omega arith in
              rw is (omega (arith, split (z - j) (omega arith), s.changed (z - j) (omega arith), ap (λ p. get_or u p 0) at-z, ap (λ p. get_or t p 0) at-z))
          go z b (inr h) = omega (arith, s.before (g * 65 + z) (omega arith), r.row z b, no_zeros c (c + j) z room (omega arith), no_zeros c (suc (c + j)) z room (omega arith))

    pub row_one : 0 < get_or v (c + j) 0 → Row v g k t (c + 1) j
    row_one e = record {
      long = r.long;
      lower = r.lower;
      row = λ z b. let next : c + 1 + j ≡ suc (c + j) = omega arith in rw next (go z b (le_or (g + z) (c + j)));
    }
      where
        go : (z : ℕ) → z ≤ k → (g + z ≤ c + j) ⊎ (c + j < g + z) → entry_at t g z + left v g (c + 1) (suc (c + j)) z ≡ sequences v g z
        go z b (inl h) =
            let p : g + z - (c + j) ≡ 0 = omega arith in
            let q : g + z - suc (c + j) ≡ 0 = omega arith in
            rw (q, first_end (F v) (g - (c + 1)) (drop (suc (c + j)) v)) (rw (p, first_end (F v) (g - c) (drop (c + j) v)) at (r.row z b))
        go z b (inr h) =
            let less : g - c - 1 ≡ g - (c + 1) = omega arith in
            omega (arith, r.row z b, first_at_one (F v) v (c + j) more (g - c) (omega arith) (g + z) h e, ap (λ q. first_block (F v) (g + z - suc (c + j)) q (drop (suc (c + j)) v)) less)
