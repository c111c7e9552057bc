-- The sequences of blocks by ones and zeros: no entry is wider than 64 bits, and a row of the table by blocks.
use mathlib.Core.List.{List}
use mathlib.Core.Path.{ap, sym, ◌∙◌, ◌≡◌}
use Prim.Native.Nat.{suc, zero, ℕ, ◌*◌, ◌+◌, ◌<◌, ◌^◌, ◌≤◌}
use native.Mathlib.Nat.{le_refl}
use native.Mathlib.Omega.{arith}
use lib.ListN.{length, set}
use lib.Seq.{get_or-set_other, get_or-set_same}
use Rattle.counting.proofs.BlockCount.{above_count, table_step}
use Rattle.counting.proofs.Ceilings.{above_few, chains_few, choose-fits}
use Rattle.counting.proofs.Reading.{Alive}
use Rattle.counting.specs.InnerBlocks.{above_from, chains, first_block, no_blocks}
use Rattle.counting.specs.InnerRoots.{rows_above}
use Rattle.density.proofs.RowCounts.{choose_past}
use Rattle.density.specs.Choose.{choose}
use Rattle.rows_above.proofs.BlockSteps.{first_none}
use Rattle.rows_above.specs.InnerTables.{Cleared, Filled, Opening}

-- the sequences by symbols and ones
abbrev pub F : List ℕ → ℕ → ℕ → ℕ
F v k h = chains v k k h

module _ (v : List ℕ) (o : Opening v) where
  alive : Alive v
  alive e = omega (arith, ap length e, o.some)

  chain_few : (k h : ℕ) → F v k h ≤ choose k h
  chain_few k h = chains_few v alive o.binary k k h (le_refl k)

  -- fewer symbols than ones: none
  pub too_dense : (k h : ℕ) → k < h → F v k h ≡ 0
  too_dense k h l = omega (arith, chain_few k h, choose_past k h l)

  pub chains-fit : (k h : ℕ) → k ≤ length v → F v k h < 2 ^ 64
  chains-fit k h l = omega (arith, chain_few k h, choose-fits k h (omega (arith, o.few)))

  -- the entries of g ones, by the first block
  pub by_blocks : (k g : ℕ) → 0 < k → first_block (F v) k g v ≡ F v k g
  by_blocks zero g p = absurd (omega arith)
  by_blocks (suc k) g p = sym (table_step v alive o.binary k g)

  -- the rows above v
  pub above_by_blocks : (e : ℕ) → above_from (F v) 0 e v ≡ rows_above v e
  above_by_blocks e = sym (above_count v o.pre o.binary e)

  pub above_fits : (e : ℕ) → rows_above v e < 2 ^ 64
  above_fits e = omega (arith, above_few v e, choose-fits (length v) e o.few)

-- the entries of no ones: the empty sequence alone
pub first_row : (v t u : List ℕ) (k : ℕ) → Cleared t u 0 (k + 1) → Filled v (set u 0 1) 1 k
unfolding chains no_blocks
first_row v t u k s (suc h) z a b = absurd (omega arith)
first_row v t u k s zero zero a b = get_or-set_same u 0 1 0 (omega (arith, s.long))
first_row v t u k s zero (suc z) a b =
    let p : 0 * 65 + suc z ≡ suc z = omega arith in
    let q : 0 + suc z ≡ suc z = omega arith in
    rw p (get_or-set_other u 0 (suc z) 1 0 (λ q. omega arith) ∙ (rw q at (s.changed (suc z) (omega arith))) ∙ sym (omega (arith, first_none (λ k h. chains v z k h) (suc z) v)))
