-- The tests of a record, one after the other.
use mathlib.Core.Bool.{Bool, and_assoc, false, true, ◌&&◌}
use mathlib.Core.List.{List}
use mathlib.Core.Path.{ap, refl, sym, ◌∙◌, ◌≡◌}
use Prim.Native.Nat.{ℕ, ◌-◌, ◌≤◌}
use lib.Dec.{leb}
use lib.ListN.{length, take}
use borrow.Author.Tests.{leb-true}
use Rattle.density.proofs.Members.{is_necklace_of→}
use Rattle.density.proofs.PaddedRows.{padded_symbols}
use Rattle.density.specs.Necklaces.{begins, is_kind, is_necklace_of, of_kind}
use Rattle.density.specs.Rows.{is_padded}
use Rattle.refusal.proofs.Stations.{Sized, stations→}
use Rattle.refusal.specs.Verdicts.{are_stations, most_stations}
use Rattle.walk.specs.InnerCourse.{Fitting}
use Rattle.walk.specs.Fit.{fit, fit_at, fit_rows, fit_sizes}
use Rattle.walk.specs.Moves.{row_of, rules}
use Rattle.walk.specs.declared.Standing.{Standing}
use Rattle.walk.specs.declared.Standing.TheVariants.{Down, Ended, Given, Up}
use Rattle.walk.specs.declared.Walk.{Walk}
use Rattle.words.proofs.Booleans.{and→}
use Rattle.words.proofs.Rotations.{→is_necklace}
use Rattle.words.specs.Rotation.{is_necklace}
use Rattle.words.specs.Symbols.{all_up_to}

module _ (w : Walk) where
  -- n is tested as the stations are
  pub by_stations : ((are_stations w.n && leb w.d w.n) && is_kind w.kind) ≡ fit_sizes rules w
  unfolding fit_sizes are_stations
  by_stations =
      and_assoc (are_stations w.n) (leb w.d w.n) (is_kind w.kind)
      ∙ and_assoc (leb 1 w.n) (leb w.n most_stations) (leb w.d w.n && is_kind w.kind)

  -- sizes in range
  pub sizes→ : fit_sizes rules w ≡ true → Sized w.n × (w.d ≤ w.n)
  sizes→ e =
      let a = (and→ (are_stations w.n && leb w.d w.n) (is_kind w.kind) (by_stations ∙ e)).0 in
      let b = and→ (are_stations w.n) (leb w.d w.n) a in
      (stations→ w.n b.0, leb-true w.d w.n b.1)

  -- ---- where it stands

  pub fit_as : (s : Standing) {r : Bool} → w.at ≡ s → r ≡ fit_at rules s w → r ≡ fit_at rules w.at w
  fit_as s e q = q ∙ sym (ap (λ t. fit_at rules t w) e)

  pub at_down : (p : ℕ) → (leb 1 p && leb p w.n) ≡ fit_at rules (Down p) w
  unfolding fit_at
  at_down p = refl

  pub at_up : (p : ℕ) → ((leb 2 p && leb p w.n) && begins w.n w.d (take (p - 1) w.row)) ≡ fit_at rules (Up p) w
  unfolding fit_at
  at_up p = and_assoc (leb 2 p) (leb p w.n) (begins w.n w.d (take (p - 1) w.row))

  pub at_given : (is_necklace_of w.d (row_of w) && of_kind w.kind (row_of w)) ≡ fit_at rules Given w
  unfolding fit_at
  at_given = refl

  pub at_ended : (all_up_to 0 w.row && all_up_to 0 w.kept) ≡ fit_at rules Ended w
  unfolding fit_at
  at_ended = refl

  -- ---- all of it

  pub fit_no_sizes : fit_sizes rules w ≡ false → fit rules w ≡ false
  unfolding fit
  fit_no_sizes e = rw e

  module _ (e : fit_sizes rules w ≡ true) where
    pub fit_no_rows : fit_rows w ≡ false → fit rules w ≡ false
    unfolding fit
    fit_no_rows f = rw (e, f)

    pub fit_so_far : fit_rows w ≡ true → fit_at rules w.at w ≡ fit rules w
    unfolding fit
    fit_so_far f = rw (e, f)

    -- what these tests show
    pub record_fitting : fit_rows w ≡ true → length w.row ≡ most_stations → Fitting w
    record_fitting f l =
        let z = sizes→ e in
        record { some = z.0.some; most = z.0.most; dense = z.1; long = l; symbols = padded_symbols w.n w.row (and→ (is_padded w.n w.row) (is_padded w.n w.kept) f).0 }

-- a necklace of a density is a necklace
pub is_necklace_lem : (d : ℕ) (w : List ℕ) → is_necklace_of d w ≡ true → is_necklace w ≡ true
is_necklace_lem d w e = →is_necklace w (is_necklace_of→ d w e).1
