-- `necklace::key` meets its contract: the laws of Answers, at each return.
use mathlib.Core.Path.{sym, ◌∙◌}
use native.Mathlib.Omega.{arith}
use Rattle.necklace.proofs.Answers.{key_buffer, key_found, key_stations, key_symbol}
use Rattle.refusal.proofs.Stations.{stations→}
use Rattle.words.proofs.FirstPlaces.{found_none, found_place}
use Rattle.words.proofs.LeastRotation.{least_index_lem}
use Rattle.necklace.proofs.key.Goals as goal

pub returns-then-not-are_stations : goal.returns-then-not-are_stations
returns-then-not-are_stations c =
    let s = c.args in
    let few = key_stations s.row.now s.out.now (sym c.are_stations.ensures ∙ c.if-not-are_stations.true) in
    record { answer = few.0; buffer = few.1 }

pub returns-in-Some : goal.returns-in-Some
returns-in-Some c =
    let s = c.args in
    let e = sym c.are_stations.ensures ∙ c.if-not-are_stations.false in
    let p = found_place _ _ (sym c.first_wrong.ensures ∙ c.in-Some.is) in
    let other = key_symbol s.row.now s.out.now e _ p.0 p.1 in
    record { answer = other.0; buffer = other.1 }

pub returns-then-out-n : goal.returns-then-out-n
returns-then-out-n c =
    let s = c.args in
    let e = sym c.are_stations.ensures ∙ c.if-not-are_stations.false in
    let short = key_buffer s.row.now s.out.now e (found_none _ (sym c.first_wrong.ensures ∙ c.in_default.is)) c.if-out-n.true in
    record { answer = short.0; buffer = short.1 }

pub least_rotation-found-requires : goal.least_rotation-found-requires
least_rotation-found-requires c = (stations→ _ (sym c.are_stations.ensures ∙ c.if-not-are_stations.false)).some

pub write_rotation-requires : goal.write_rotation-requires
write_rotation-requires c =
    let s = c.args in
    let n = (stations→ _ (sym c.are_stations.ensures ∙ c.if-not-are_stations.false)).some in
    let l = (least_index_lem s.row.now n).inside in
    (omega (arith, c.least_rotation-found.ensures.0), c.if-out-n.false)

pub returns : goal.returns
returns c =
    let s = c.args in
    let e = sym c.are_stations.ensures ∙ c.if-not-are_stations.false in
    let f = found_none _ (sym c.first_wrong.ensures ∙ c.in_default.is) in
    let l = c.least_rotation-found.ensures in
    let found = key_found s.row.now s.out.now e f c.if-out-n.false _ _ _ l.0 l.1 c.write_rotation.ensures in
    record { answer = found.0; buffer = found.1 }
