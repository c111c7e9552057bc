-- `pitches::pitches_of_row` meets its contract: each return has passed the tests before it.
use mathlib.Core.Bool.{Bool, true}
use mathlib.Core.List.{List}
use mathlib.Core.Path.{ap, refl, sym, ◌∙◌, ◌≡◌}
use Prim.Native.Nat.{ℕ}
use native.Mathlib.Omega.{arith}
use lib.ListN.{length}
use Rattle.density.specs.Density.{density}
use Rattle.pitches.proofs.Refused.{pitches_holes, list_accepted, list_buffer, list_last, list_stations, list_symbol}
use Rattle.refusal.proofs.Stations.{stations→}
use Rattle.std.specs.Prelude.{Ok}
use Rattle.words.proofs.FirstPlaces.{found_none, found_place}
use Rattle.refusal.specs.Verdicts.{are_stations}
use Rattle.words.specs.Symbols.{first_wrong}
use Rattle.pitches.proofs.pitches_of_row.Goals as goal

-- the row has passed refusals 1 and 3
record Checked (w : List ℕ) (holes : ℕ) : Type 0 where
  stations : are_stations (length w) ≡ true
  symbols : first_wrong 2 w ≡ 0
  count : holes ≡ density w

checked : {w : List ℕ} {holes : ℕ} {e : Bool} → e ≡ are_stations (length w) → e ≡ true → first_wrong 2 w ≡ 0 → holes ≡ density w → Checked w holes
checked a b f g = record { stations = sym a ∙ b; symbols = f; count = g }

pub returns-then-not-are_stations : goal.returns-then-not-are_stations
returns-then-not-are_stations c =
    rw (list_stations c.args.row.now (length c.args.out.now) (sym c.are_stations.ensures ∙ c.if-not-are_stations.true)) (record { answer = refl; buffer = refl })

pub returns-in-Some : goal.returns-in-Some
returns-in-Some c =
    let w = c.args.row.now in
    let p = found_place _ _ (sym c.first_wrong.ensures ∙ c.in-Some.is) in
    rw (p.0, list_symbol w (length c.args.out.now) (sym c.are_stations.ensures ∙ c.if-not-are_stations.false) (λ z. p.1 (p.0 ∙ z))) (record { answer = refl; buffer = refl })

pub has_pitch_list-requires : goal.has_pitch_list-requires
has_pitch_list-requires c =
    let k = checked c.are_stations.ensures c.if-not-are_stations.false (found_none _ (sym c.first_wrong.ensures ∙ c.in_default.is)) c.count_ones-holes.ensures.0 in
    ((stations→ _ k.stations).some, k.count)

pub returns-then-not-has_pitch_list : goal.returns-then-not-has_pitch_list
returns-then-not-has_pitch_list c =
    let k = checked c.are_stations.ensures c.if-not-are_stations.false (found_none _ (sym c.first_wrong.ensures ∙ c.in_default.is)) c.count_ones-holes.ensures.0 in
    rw (list_last c.args.row.now (length c.args.out.now) k.stations k.symbols (sym c.has_pitch_list.ensures ∙ c.if-not-has_pitch_list.true)) (record { answer = refl; buffer = refl })

-- a list with no room is refused,
-- and the buffer is not touched
pub returns-then-out-holes : goal.returns-then-out-holes
returns-then-out-holes c =
    let k = checked c.are_stations.ensures c.if-not-are_stations.false (found_none _ (sym c.first_wrong.ensures ∙ c.in_default.is)) c.count_ones-holes.ensures.0 in
    let w = c.args.row.now in
    rw (list_buffer w (length c.args.out.now) k.stations k.symbols (sym c.has_pitch_list.ensures ∙ c.if-not-has_pitch_list.false) (omega (arith, pitches_holes w k.symbols))) (record { answer = refl; buffer = refl })

pub write_pitches-requires : goal.write_pitches-requires
write_pitches-requires c =
    let k = checked c.are_stations.ensures c.if-not-are_stations.false (found_none _ (sym c.first_wrong.ensures ∙ c.in_default.is)) c.count_ones-holes.ensures.0 in
    let w = c.args.row.now in
    omega (arith, pitches_holes w k.symbols)

pub returns : goal.returns
returns c =
    let k = checked c.are_stations.ensures c.if-not-are_stations.false (found_none _ (sym c.first_wrong.ensures ∙ c.in_default.is)) c.count_ones-holes.ensures.0 in
    let w = c.args.row.now in
    let r = c.write_pitches.ensures in
    rw (list_accepted w (length c.args.out.now) k.stations k.symbols (sym c.has_pitch_list.ensures ∙ c.if-not-has_pitch_list.false) (omega (arith, pitches_holes w k.symbols))) (record { answer = ap Ok r.count; buffer = r.buffer })
