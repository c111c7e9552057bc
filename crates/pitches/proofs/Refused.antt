-- The refusals of both operations, in their order.
use mathlib.Core.Bool.{false, true}
use mathlib.Core.List.{List}
use mathlib.Core.Path.{◌≡◌}
use Prim.Native.Nat.{ℕ, ◌<◌, ◌≤◌}
use lib.ListN.{length}
use borrow.Author.Tests.{eq-eqb, le-leb, lt-leb, ne_eqb}
use Rattle.density.proofs.Binary.{no_wrong}
use Rattle.density.specs.Density.{density}
use Rattle.pitches.proofs.Listing.{pitches_count}
use Rattle.pitches.specs.Answers.{list_verdict, row_verdict}
use Rattle.pitches.specs.Pitches.{adds_up, first_zero, has_pitch_list, pitches_of_row}
use Rattle.refusal.specs.Verdicts.{accepted, are_stations, refused}
use Rattle.refusal.specs.declared.Refusal.TheVariants.{Buffer, Holes, LastPlain, PitchSum, Stations, Symbol, ZeroPitch}
use Rattle.words.specs.Symbols.{first_wrong}

module _ (n : ℕ) (pitches : List ℕ) (room : ℕ) where
  pub row_stations : are_stations n ≡ false → row_verdict n pitches room ≡ refused Stations
  unfolding row_verdict
  row_stations a = rw a

  module _ (a : are_stations n ≡ true) where
    pub row_holes : n < length pitches → row_verdict n pitches room ≡ refused Holes
    unfolding row_verdict
    row_holes h = rw (a, lt-leb _ _ h)

    module _ (h : length pitches ≤ n) where
      pub row_zero : (first_zero pitches ≡ 0 → ⊥) → row_verdict n pitches room ≡ refused (ZeroPitch (first_zero pitches))
      unfolding row_verdict
      row_zero z = rw (a, le-leb _ _ h, ne_eqb _ _ z)

      module _ (z : first_zero pitches ≡ 0) where
        pub row_sum : adds_up n pitches ≡ false → row_verdict n pitches room ≡ refused PitchSum
        unfolding row_verdict
        row_sum s = rw (a, le-leb _ _ h, eq-eqb _ _ z, s)

        pub row_buffer : adds_up n pitches ≡ true → room < n → row_verdict n pitches room ≡ refused Buffer
        unfolding row_verdict
        row_buffer s r = rw (a, le-leb _ _ h, eq-eqb _ _ z, s, lt-leb _ _ r)

        pub row_accepted : adds_up n pitches ≡ true → n ≤ room → row_verdict n pitches room ≡ accepted
        unfolding row_verdict
        row_accepted s r = rw (a, le-leb _ _ h, eq-eqb _ _ z, s, le-leb _ _ r)

module _ (w : List ℕ) (room : ℕ) where
  pub list_stations : are_stations (length w) ≡ false → list_verdict w room ≡ refused Stations
  unfolding list_verdict
  list_stations a = rw a

  pub list_symbol : are_stations (length w) ≡ true → (first_wrong 2 w ≡ 0 → ⊥) → list_verdict w room ≡ refused (Symbol (first_wrong 2 w))
  unfolding list_verdict
  list_symbol a s = rw (a, ne_eqb _ _ s)

  pub list_last : are_stations (length w) ≡ true → first_wrong 2 w ≡ 0 → has_pitch_list w ≡ false → list_verdict w room ≡ refused LastPlain
  unfolding list_verdict
  list_last a s g = rw (a, eq-eqb _ _ s, g)

  pub list_buffer : are_stations (length w) ≡ true → first_wrong 2 w ≡ 0 → has_pitch_list w ≡ true → room < length (pitches_of_row w) → list_verdict w room ≡ refused Buffer
  unfolding list_verdict
  list_buffer a s g r = rw (a, eq-eqb _ _ s, g, lt-leb _ _ r)

  pub list_accepted : are_stations (length w) ≡ true → first_wrong 2 w ≡ 0 → has_pitch_list w ≡ true → length (pitches_of_row w) ≤ room → list_verdict w room ≡ accepted
  unfolding list_verdict
  list_accepted a s g r = rw (a, eq-eqb _ _ s, g, le-leb _ _ r)

-- a row without wrong symbols has as many pitches as holes
pub pitches_holes : (w : List ℕ) → first_wrong 2 w ≡ 0 → length (pitches_of_row w) ≡ density w
unfolding pitches_of_row
pitches_holes w e = pitches_count (no_wrong w e) 0
