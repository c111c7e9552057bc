-- "Unfit (22)": which records are fit.
use Rattle.std.specs.Prelude.{Bool, true, ◌&&◌, ◌≡◌, ℕ, ◌-◌, ◌≤◌, get_or, take, leb}
use mathlib.Core.List.{Memᴰ}
use Rattle.words.specs.Symbols.{all_up_to}
use Rattle.refusal.specs.Verdicts.{most_stations}
use Rattle.density.specs.Necklaces.{is_necklace_of, begins, necklaces, of_kind}
use Rattle.density.specs.Rows.{PaddedRow, is_padded}
use Rattle.walk.specs.declared.Standing.{Standing}
use Rattle.walk.specs.declared.Standing.TheVariants.{Limit, Down, Up, Given, Ended}
use Rattle.walk.specs.declared.Walk.{Walk}
use Rattle.walk.specs.Moves.{Rules, row_of}

-- not "n, d or kind out of range"
unfoldable pub fit_sizes : Rules → Walk → Bool
fit_sizes R w = leb 1 w.n && (leb w.n R.most && (leb w.d w.n && R.known w.kind))

-- not "a byte above 1 in places 1 to n, or not 0 after n"; "refusal 22 holds the kept row to the byte rule of the walk's row"
abbrev pub fit_rows : Walk → Bool
fit_rows w = is_padded w.n w.row && is_padded w.n w.kept

-- not "Down p with p not 1 to n; Up p with p not 2 to n, or whose first p-1 symbols begin no ring of the drawer; Given with a row
-- not in the drawer and kind; Ended with a row not zeros", nor a kept row not zeros
unfoldable pub fit_at : Rules → Standing → Walk → Bool
fit_at R Limit w = true
fit_at R (Down p) w = leb 1 p && leb p w.n
fit_at R (Up p) w = leb 2 p && (leb p w.n && begins w.n w.d (take (p - 1) w.row))
fit_at R Given w = is_necklace_of w.d (row_of w) && R.of_kind w.kind (row_of w)
fit_at R Ended w = all_up_to 0 w.row && all_up_to 0 w.kept

unfoldable pub fit : Rules → Walk → Bool
fit R w = fit_sizes R w && (fit_rows w && fit_at R w.at w)

-- ---- the same as plain facts, by document 01's rules

abbrev pub FitAt : Standing → Walk → Type 0
FitAt Limit w = Unit
FitAt (Down p) w = (1 ≤ p) × (p ≤ w.n)
FitAt (Up p) w = (2 ≤ p) × (p ≤ w.n) × (begins w.n w.d (take (p - 1) w.row) ≡ true)
FitAt Given w = Memᴰ (row_of w) (necklaces w.n w.d) × (of_kind w.kind (row_of w) ≡ true)
FitAt Ended w = ((i : ℕ) → get_or w.row i 0 ≡ 0) × ((i : ℕ) → get_or w.kept i 0 ≡ 0)

pub record FitRecord (w : Walk) : Type 0 where
  pub some : 1 ≤ w.n
  pub most : w.n ≤ most_stations
  pub holes : w.d ≤ w.n
  pub kinds : (1 ≤ w.kind) × (w.kind ≤ 3)
  pub rows : PaddedRow w.n w.row
  pub keeps : PaddedRow w.n w.kept
  pub place : FitAt w.at w
