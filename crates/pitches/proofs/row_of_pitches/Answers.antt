-- `pitches::row_of_pitches` meets its contract: each return has passed the tests before it.
use mathlib.Core.Bool.{Bool, true}
use mathlib.Core.List.{List}
use mathlib.Core.Path.{refl, sym, ◌∙◌, ◌≡◌}
use Prim.Native.Nat.{ℕ, ◌≤◌}
use lib.ListN.{length}
use Rattle.pitches.proofs.Refused.{row_accepted, row_buffer, row_holes, row_stations, row_sum, row_zero}
use Rattle.pitches.specs.Pitches.{first_zero}
use Rattle.words.proofs.FirstPlaces.{found_none, found_place}
use Rattle.refusal.specs.Verdicts.{are_stations}
use Rattle.pitches.proofs.row_of_pitches.Goals as goal

-- the list has passed refusals 1, 2 and 11
record Checked (n : ℕ) (pitches : List ℕ) : Type 0 where
  stations : are_stations n ≡ true
  few : length pitches ≤ n
  positive : first_zero pitches ≡ 0

checked : {n : ℕ} {pitches : List ℕ} {e : Bool} → e ≡ are_stations n → e ≡ true → length pitches ≤ n → first_zero pitches ≡ 0 → Checked n pitches
checked a b f z = record { stations = sym a ∙ b; few = f; positive = z }

pub returns-then-not-are_stations : goal.returns-then-not-are_stations
returns-then-not-are_stations c =
    rw (row_stations c.args.n c.args.pitches.now (length c.args.out.now) (sym c.are_stations.ensures ∙ c.if-not-are_stations.true)) (record { answer = refl; buffer = refl })

pub returns-then-n-pitches : goal.returns-then-n-pitches
returns-then-n-pitches c =
    rw (row_holes c.args.n c.args.pitches.now (length c.args.out.now) (sym c.are_stations.ensures ∙ c.if-not-are_stations.false) c.if-n-pitches.true) (record { answer = refl; buffer = refl })

-- a pitch of 0 is refused,
-- whatever the pitches add up to
pub returns-in-Some : goal.returns-in-Some
returns-in-Some c =
    let p = found_place _ _ (sym c.first_zero.ensures ∙ c.in-Some.is) in
    rw (p.0, row_zero c.args.n c.args.pitches.now (length c.args.out.now) (sym c.are_stations.ensures ∙ c.if-not-are_stations.false) c.if-n-pitches.false (λ z. p.1 (p.0 ∙ z))) (record { answer = refl; buffer = refl })

pub returns-then-not-adds_up : goal.returns-then-not-adds_up
returns-then-not-adds_up c =
    let k = checked c.are_stations.ensures c.if-not-are_stations.false c.if-n-pitches.false (found_none _ (sym c.first_zero.ensures ∙ c.in_default.is)) in
    rw (row_sum c.args.n c.args.pitches.now (length c.args.out.now) k.stations k.few k.positive (sym c.adds_up.ensures ∙ c.if-not-adds_up.true)) (record { answer = refl; buffer = refl })

pub returns-then-out-n : goal.returns-then-out-n
returns-then-out-n c =
    let k = checked c.are_stations.ensures c.if-not-are_stations.false c.if-n-pitches.false (found_none _ (sym c.first_zero.ensures ∙ c.in_default.is)) in
    rw (row_buffer c.args.n c.args.pitches.now (length c.args.out.now) k.stations k.few k.positive (sym c.adds_up.ensures ∙ c.if-not-adds_up.false) c.if-out-n.true) (record { answer = refl; buffer = refl })

pub write_row-requires : goal.write_row-requires
write_row-requires c =
    record { n_in_bounds = c.if-out-n.false; pitches_value = found_none _ (sym c.first_zero.ensures ∙ c.in_default.is); pitches_value_2 = sym c.adds_up.ensures ∙ c.if-not-adds_up.false }

pub returns : goal.returns
returns c =
    let k = checked c.are_stations.ensures c.if-not-are_stations.false c.if-n-pitches.false (found_none _ (sym c.first_zero.ensures ∙ c.in_default.is)) in
    rw (row_accepted c.args.n c.args.pitches.now (length c.args.out.now) k.stations k.few k.positive (sym c.adds_up.ensures ∙ c.if-not-adds_up.false) c.if-out-n.false)
    (record { answer = refl; buffer = c.write_row.ensures })
