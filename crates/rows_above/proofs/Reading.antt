-- The rows above v are read off the table, from one symbol of v to the next.
use mathlib.Core.List.{List}
use mathlib.Core.Path.{ap, ◌∙◌, ◌≡◌}
use Prim.Native.Nat.{suc, ℕ, ◌*◌, ◌+◌, ◌-◌, ◌<◌, ◌^◌, ◌≤◌}
use native.Mathlib.Numerals.{add-one}
use native.Mathlib.Omega.{arith}
use lib.ListN.{drop, get_or, length, length-drop}
use Rattle.counting.specs.InnerBlocks.{above_from}
use Rattle.counting.specs.InnerRoots.{rows_above}
use Rattle.rows_above.proofs.BlockSteps.{above_at_one, above_at_zero, above_dense, above_none}
use Rattle.rows_above.proofs.Filling.{F, above_by_blocks, above_fits, too_dense}
use Rattle.rows_above.specs.InnerTables.{Filled, Opening, entry_at}

-- s symbols are passed; so many ones and zeros are left to a row of density e
pub record Read (v : List ℕ) (e sum ones zeros s : ℕ) : Type 0 where
  pub size : s + ones + zeros ≡ length v
  pub few_ones : ones ≤ e
  pub few_zeros : zeros ≤ length v - e
  pub rest : sum + above_from (F v) s ones (drop s v) ≡ rows_above v e

module _ (v : List ℕ) (o : Opening v) (e : ℕ) where
  pub read_start : e ≤ length v → Read v e 0 e (length v - e) 0
  read_start h = record { size = omega arith; few_ones = omega arith; few_zeros = omega arith; rest = omega (arith, above_by_blocks v o e) }

  pub read_end : (sum ones zeros s : ℕ) → Read v e sum ones zeros s → ones ≤ 0 → sum ≡ rows_above v e
  read_end sum ones zeros s r h =
      let none : ones ≡ 0 = omega arith in
      omega (arith, r.rest, ap (λ k. above_from (F v) s k (drop s v)) none, above_none (F v) s (drop s v))

  module _ (t : List ℕ) (f : Filled v t e (length v - e)) (sum ones zeros s : ℕ) (r : Read v e sum ones zeros s) (some : 0 < ones) where
    -- a 0: its block is added
    step : get_or v s 0 ≡ 0 → sum + (s + 1) * get_or t ((ones - 1) * 65 + zeros) 0 + above_from (F v) (suc s) ones (drop (suc s) v) ≡ rows_above v e
    step z =
        let size : ones - 1 + zeros ≡ length v - suc s = omega (arith, r.size) in
        let entry : entry_at t (ones - 1) zeros ≡ F v (length v - suc s) (ones - 1) = f (ones - 1) zeros (omega (arith, r.few_ones)) r.few_zeros ∙ ap (λ k. F v k (ones - 1)) size in
        let block : (s + 1) * entry_at t (ones - 1) zeros ≡ suc s * F v (length v - suc s) (ones - 1) = rw (entry, add-one s) in
        omega (arith, r.rest, above_at_zero (F v) v s (omega (arith, r.size)) ones some z, block)

    pub block_fits : get_or v s 0 ≡ 0 → sum + (s + 1) * get_or t ((ones - 1) * 65 + zeros) 0 < 2 ^ 64
    block_fits z = omega (arith, step z, above_fits v o e)

    -- no zeros are left: fewer symbols than ones
    pub read_last : get_or v s 0 ≡ 0 → zeros ≡ 0 → sum + (s + 1) * get_or t ((ones - 1) * 65 + zeros) 0 ≡ rows_above v e
    read_last z n = omega (arith, step z, above_dense (F v) (too_dense v o) (suc s) ones (drop (suc s) v) (omega (arith, length-drop (suc s) v, r.size)))

    pub read_zero : get_or v s 0 ≡ 0 → (zeros ≡ 0 → ⊥) → Read v e (sum + (s + 1) * get_or t ((ones - 1) * 65 + zeros) 0) ones (zeros - 1) (s + 1)
    read_zero z n = record {
      size = omega (arith, r.size);
      few_ones = r.few_ones;
      few_zeros = omega (arith, r.few_zeros);
      rest = rw (add-one s) (rw (add-one s) at (step z));
    }

    pub read_one : 0 < get_or v s 0 → Read v e sum (ones - 1) zeros (s + 1)
    read_one z = record {
      size = omega (arith, r.size);
      few_ones = omega (arith, r.few_ones);
      few_zeros = r.few_zeros;
      rest = rw (add-one s) (omega (arith, r.rest, above_at_one (F v) v s (omega (arith, r.size)) ones some z));
    }
