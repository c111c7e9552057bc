-- Going on below a ring, and none: what these moves do to the rows and the lines to come.
use mathlib.Core.Bool.{true}
use mathlib.Core.List.{List, [], append-nil, ◌++◌, ◌∷◌}
use mathlib.Core.Logic.{inl, inr, ◌⊎◌}
use mathlib.Core.Path.{ap, subst, ◌∙◌, ◌≡◌}
use Prim.Native.Nat.{suc, ℕ, ◌+◌, ◌-◌, ◌≤◌}
use native.Mathlib.Nat.{sub-zero}
use native.Mathlib.Omega.{arith}
use lib.ListN.{get_or, length, set, take}
use lib.Seq.{length-take-le, take-suc, take-suc-set}
use Rattle.density.proofs.Binary.{binary_behind}
use Rattle.density.proofs.Branching.{down_no, within}
use Rattle.density.proofs.Counts.{density-zeros}
use Rattle.density.proofs.LastSymbol.{all_zeros, ends_zero, last_bit, no_end}
use Rattle.density.proofs.Members.{Member}
use Rattle.density.proofs.RowsBelow.{under_zeros}
use Rattle.density.specs.Necklaces.{necklaces_below}
use Rattle.listing.proofs.Prices.{front-zeros, lines_cleared}
use Rattle.listing.specs.Listing.{entry, lines_from, none, over}
use Rattle.walk.specs.ToCome.{lines_at, lowest, rows_at}
use Rattle.walk.specs.declared.Standing.TheVariants.{Down, Given}
use Rattle.words.specs.Symbols.{zeros}

-- ---- nothing is below zeros

pub none_rows : (n d : ℕ) (row : List ℕ) → rows_at (Down 0) n d row ≡ []
unfolding rows_at
none_rows n d row = rw sub-zero (under_zeros n d)

pub none_lines : (n d : ℕ) (row : List ℕ) → lines_at (Down 0) n d row ≡ entry none 0 over
unfolding lines_at lines_from
none_lines n d row = rw (none_rows n d row, sub-zero, density-zeros n)

-- ---- with no holes: the ring is the last

module _ (n : ℕ) (row : List ℕ) (ring_in : Member n 0 (take n row)) where
  zero_row : take n row ≡ zeros n
  zero_row = all_zeros ring_in.binary ring_in.count ∙ ap {B = List ℕ} (λ t. zeros t) ring_in.long

  pub last_rows : rows_at Given n 0 row ≡ rows_at (Down 0) n 0 row
  unfolding rows_at
  last_rows = rw (zero_row, sub-zero)

  pub last_lines : lines_at Given n 0 row ≡ lines_at (Down 0) n 0 row
  unfolding lines_at lines_from
  last_lines = rw (last_rows, none_rows n 0 row, zero_row, sub-zero, front-zeros n, density-zeros n)

-- ---- with holes: it ends in a hole, which is cleared

module _ (n d : ℕ) (row : List ℕ) (some : 1 ≤ n) (within-row : n ≤ length row) where
  end_at : suc (n - 1) ≡ n
  end_at = omega arith

  last_symbol : take n row ≡ take (n - 1) row ++ (get_or row (n - 1) 0 ∷ [])
  last_symbol = subst (λ t. take t row ≡ take (n - 1) row ++ (get_or row (n - 1) 0 ∷ [])) end_at (take-suc row (n - 1) 0 (omega arith))

  cleared : lowest n n (set row (n - 1) 0) ≡ take (n - 1) row ++ (0 ∷ [])
  cleared =
      let e : n - n ≡ 0 = omega arith in
      rw e (append-nil (take n (set row (n - 1) 0)) ∙ subst (λ t. take t (set row (n - 1) 0) ≡ take (n - 1) row ++ (0 ∷ [])) end_at (take-suc-set row (n - 1) 0 (omega arith)))

  front_long : length (take (n - 1) row) + 1 ≡ n
  front_long = omega (arith, length-take-le (n - 1) row (omega arith))

  module _ (ring_in : Member n (suc d) (take n row)) where
    ends_in_one_lem : take n row ≡ take (n - 1) row ++ (1 ∷ [])
    ends_in_one_lem = go (last_bit (binary_behind (take (n - 1) row) (rw last_symbol at ring_in.binary)))
      where
        go : (get_or row (n - 1) 0 ≡ 0) ⊎ (get_or row (n - 1) 0 ≡ 1) → take n row ≡ take (n - 1) row ++ (1 ∷ [])
        go (inl e) = let z : suc d ≡ 0 = ends_zero (take (n - 1) row) (rw (last_symbol, e) at ring_in) in absurd (omega arith)
        go (inr e) = last_symbol ∙ rw e

    same_under : necklaces_below n (suc d) (take (n - 1) row ++ (1 ∷ [])) ≡ necklaces_below n (suc d) (take (n - 1) row ++ (0 ∷ []))
    same_under = down_no n (suc d) (take (n - 1) row) 0 front_long (no_end n d (take (n - 1) row) front_long)

    pub below_rows : rows_at Given n (suc d) row ≡ rows_at (Down n) n (suc d) (set row (n - 1) 0)
    unfolding rows_at
    below_rows = rw (ends_in_one_lem, cleared) same_under

    pub below_lines : lines_at Given n (suc d) row ≡ lines_at (Down n) n (suc d) (set row (n - 1) 0)
    unfolding lines_at rows_at
    below_lines =
        rw (ends_in_one_lem, cleared)
        (ap (lines_from true (take (n - 1) row ++ (1 ∷ []))) same_under
        ∙ lines_cleared (take (n - 1) row) (necklaces_below n (suc d) (take (n - 1) row ++ (0 ∷ []))) (within n (suc d) (take (n - 1) row) 0 front_long))
