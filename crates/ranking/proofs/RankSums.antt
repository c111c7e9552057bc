-- The rank of a row from the table of Lyndon words: of kind 1 a sum over its lengths, of kind 2 an entry.
use mathlib.Core.List.{List}
use mathlib.Core.Path.{ap, sym, ◌∙◌, ◌≡◌}
use Prim.Native.Nat.{suc, ℕ, ◌+◌, ◌/◌, ◌<◌, ◌^◌}
use native.Mathlib.Nat.{div-le_self}
use native.Mathlib.Omega.{arith}
use lib.ListN.{get_or, length}
use Rattle.counting.proofs.Ceilings.{choose-fits}
use Rattle.counting.proofs.Ranks.{rank_one, rank_two}
use Rattle.counting.proofs.Recursion.{commonly_both}
use Rattle.counting.proofs.Sums.{total_same}
use Rattle.counting.specs.InnerRoots.{lyndon_below}
use Rattle.counting.specs.InnerSums.{commonly, total, upto}
use Rattle.density.proofs.RankedRings.{rank_few}
use Rattle.density.specs.Ranks.{rank}
use Rattle.lyndon_below.specs.InnerTables.{Given, Known, named}

module _ (w : List ℕ) (d : ℕ) (g : Given w d) (t : List ℕ) (s : Known t w d (length w + 1)) where
  abbrev n : ℕ
  n = length w

  pub all_lengths : total (named t n d) (upto n) ≡ rank n d 1 w
  all_lengths =
      total_same (named t n d) (commonly n d (λ k. lyndon_below n w (n / suc k) (d / suc k))) (upto n)
      (λ j. commonly_both n d (λ k. get_or t (n / suc k) 0) (λ k. lyndon_below n w (n / suc k) (d / suc k)) j
      (λ a b. s (suc j) (n / suc j) (d / suc j) a b (omega (arith, div-le_self n (suc j)))))
      ∙ sym (rank_one n d w g.some)

  pub sum_fits : total (named t n d) (upto n) < 2 ^ 64
  sum_fits = omega (arith, all_lengths, rank_few n d 1 w, choose-fits n d g.few)

  pub own_length : get_or t n 0 ≡ rank n d 2 w
  own_length = s 1 n d (omega arith) (omega arith) (omega arith) ∙ sym (rank_two n d w g.some)

  -- of a kind
  pub rank_one_of : (kind : ℕ) → kind ≡ 1 → total (named t n d) (upto n) ≡ rank n d kind w
  rank_one_of kind e = all_lengths ∙ ap (λ k. rank n d k w) (sym e)

  pub rank_two_of : (kind : ℕ) → kind ≡ 2 → get_or t n 0 ≡ rank n d kind w
  rank_two_of kind e = own_length ∙ ap (λ k. rank n d k w) (sym e)
