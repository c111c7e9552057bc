-- The claims on pitch lists hold.
use mathlib.Core.Bool.{Bool, false, true, true≢false, ◌||◌}
use mathlib.Core.List.{List, [], ◌∷◌}
use mathlib.Core.Logic.{inl, inr, ⊎_elim}
use mathlib.Core.Path.{refl, sym, ◌∙◌, ◌≡◌}
use Prim.Native.Nat.{suc, zero, ℕ, ◌-◌, ◌<◌, ◌≤◌}
use native.Mathlib.Nat.{le_refl, pos_of_ne-zero}
use native.Mathlib.Omega.{arith}
use lib.Dec.{eqb, leb}
use lib.ListN.{get_or, length}
use borrow.Author.Tests.{eqb-false, eqb-true, leb-true}
use Rattle.density.proofs.Binary.{Binary, binary_at, binary_no_wrong, binary_sum, density-sum, no_wrong, within_binary}
use Rattle.density.specs.Density.{density}
use Rattle.pitches.proofs.HolesAt.{hole_at, holes_upto}
use Rattle.pitches.proofs.Listing.{ends_at}
use Rattle.pitches.proofs.Positive.{Positive, no_zero, positive_no_zero, row_positive, zero_decided}
use Rattle.pitches.proofs.Refused.{list_accepted, pitches_holes, row_accepted}
use Rattle.pitches.proofs.RoundTrip.{pitches_back, row_back, row_binary, row_density, row_ends, row_length, row_of_some}
use Rattle.pitches.specs.Answers.{list_verdict, row_verdict}
use Rattle.pitches.specs.Claims.{EndsPlain, FirstZeroAt, HolePlaces, ItsList, ListRefusals, ListRowList, PlaceOfZero, RowListRow, RowOfList, RowRefusals, WrongSum}
use Rattle.pitches.specs.Pitches.{adds_up, ends_in_one, first_zero, has_pitch_list, pitches_of_row, row_of_pitches}
use Rattle.refusal.proofs.Conditions.{Tells, at_most_tells, chain_first, need→, passed, stations_tell, test}
use Rattle.refusal.specs.Verdicts.{accepted, are_stations}
use Rattle.words.proofs.Claims.{other_tells, place_of_first}
use Rattle.words.proofs.FirstPlaces.{first_so, first_tells}
use Rattle.words.specs.Symbols.{first_wrong}

-- ---- refusals

pub place_of_zero : PlaceOfZero
unfolding first_zero
place_of_zero pitches = ⊎_elim (λ a. inl (λ k l. pos_of_ne-zero (a.0 k l), a.1)) inr (first_so (λ p. eqb p 0) (λ p. p ≡ 0) zero_decided pitches)

zero_tells : (pitches : List ℕ) → Tells (eqb (first_zero pitches) 0) (FirstZeroAt pitches (first_zero pitches))
unfolding first_zero
zero_tells pitches = first_tells (λ p. eqb p 0) (λ p. p ≡ 0) zero_decided pitches

sum_tells : (n : ℕ) (pitches : List ℕ) → Tells (adds_up n pitches) (WrongSum n pitches)
unfolding adds_up
sum_tells n [] = (λ e. absurd (true≢false e), λ e h. absurd (omega arith))
sum_tells n (p ∷ pitches) = (λ e. (omega arith, eqb-false _ _ e), λ e h. h.1 (eqb-true _ _ e))

pub row_refusals : RowRefusals
unfolding row_verdict
row_refusals n pitches room =
    chain_first
    (test _ (stations_tell n)
    (λ a. test _ (at_most_tells (length pitches) n)
    (λ b. test _ (zero_tells pitches)
    (λ c. test _ (sum_tells n pitches)
    (λ e. test _ (at_most_tells n room) (λ f. passed))))))

-- of a row of zeros and ones
plain_tells : (w : List ℕ) → 0 < length w → Binary w → Tells (has_pitch_list w) (EndsPlain w)
unfolding has_pitch_list
plain_tells w s b = go (eqb (density w) 0) refl
  where
    plain : (x : ℕ) → x ≤ 1 → (x ≡ 1 → ⊥) → x ≡ 0
    plain zero l h = refl
    plain (suc zero) l h = absurd (h refl)
    plain (suc (suc x)) l h = absurd (omega arith)

    go : (t : Bool) → eqb (density w) 0 ≡ t → Tells (t || ends_in_one w) (EndsPlain w)
    go true e = (λ f. absurd (true≢false f), λ f h. omega (arith, eqb-true (density w) 0 e, h.0))
    go false e = (
      λ f. (pos_of_ne-zero {n = density w} (eqb-false _ _ e), plain _ (binary_at b _) (eqb-false _ _ (sym (ends_at w s) ∙ f))),
      λ f h. omega (arith, h.1, eqb-true (get_or w (length w - 1) 0) 1 (sym (ends_at w s) ∙ f)),
    )

pub list_refusals : ListRefusals
unfolding list_verdict
list_refusals w room =
    chain_first
    (test _ (stations_tell (length w))
    (λ a. test _ (other_tells 2 w)
    (λ b. test _ (plain_tells w (pos_of_ne-zero {n = length w} (λ z. a (inl z))) (⊎_elim (λ h. within_binary w h.0) (λ o. absurd (b o)) (place_of_first 2 w)))
    (λ c. test _ (at_most_tells (length (pitches_of_row w)) room) (λ e. passed)))))

-- ---- from one to the other

-- what was tested of a list that is taken
record ListTaken (n : ℕ) (pitches : List ℕ) : Type 0 where
  stations : are_stations n ≡ true
  few : length pitches ≤ n
  positive : Positive pitches
  full : adds_up n pitches ≡ true

list_taken : (n : ℕ) (pitches : List ℕ) (room : ℕ) → row_verdict n pitches room ≡ accepted → ListTaken n pitches
unfolding row_verdict
list_taken n pitches room e =
    let a = need→ (are_stations n) _ _ e in
    let b = need→ (leb (length pitches) n) _ _ a.1 in
    let c = need→ (eqb (first_zero pitches) 0) _ _ b.1 in
    record { stations = a.0; few = leb-true _ _ b.0; positive = no_zero pitches (eqb-true _ _ c.0); full = (need→ (adds_up n pitches) _ _ c.1).0 }

pub row_of_list : RowOfList
row_of_list n pitches room e = let t = list_taken n pitches room e in (row_length n pitches t.full, row_density n t.positive)

pub hole_places : HolePlaces
hole_places n pitches room e k h =
    let v = (list_taken n pitches room e).positive in
    rw (row_of_some n pitches (omega arith)) (hole_at v k h, holes_upto v k h)

pub list_row_list : ListRowList
list_row_list n pitches room e =
    let t = list_taken n pitches room e in
    let back = pitches_back n t.positive in (
      list_accepted
          (row_of_pitches n pitches)
          (length pitches)
          (rw (row_length n pitches t.full) t.stations)
          (binary_no_wrong (row_binary n pitches))
          (row_ends n t.positive)
          (rw back (le_refl (length pitches))),
      back,
    )

-- what was tested of a row that is taken
record RowTaken (w : List ℕ) : Type 0 where
  stations : are_stations (length w) ≡ true
  right : first_wrong 2 w ≡ 0
  listed : has_pitch_list w ≡ true

row_taken : (w : List ℕ) (room : ℕ) → list_verdict w room ≡ accepted → RowTaken w
unfolding list_verdict
row_taken w room e =
    let a = need→ (are_stations (length w)) _ _ e in
    let b = need→ (eqb (first_wrong 2 w) 0) _ _ a.1 in
    record { stations = a.0; right = eqb-true _ _ b.0; listed = (need→ (has_pitch_list w) _ _ b.1).0 }

pub row_list_row : RowListRow
unfolding pitches_of_row
row_list_row w room e =
    let t = row_taken w room e in
    let b = no_wrong w t.right in
    let back = row_back b t.listed in (
      row_accepted
          (length w)
          (pitches_of_row w)
          (length w)
          t.stations
          (omega (arith, pitches_holes w t.right, density-sum b, binary_sum b))
          (positive_no_zero (row_positive 0 w))
          back.1
          (le_refl (length w)),
      back.0,
    )

pub its_list : ItsList
its_list w pitches h = rw h.1 at (list_row_list (length w) pitches (length w) h.0)
