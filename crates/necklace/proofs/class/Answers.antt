-- `necklace::class` meets its contract: the laws of Answers, at each return.
use mathlib.Core.Path.{sym, ◌∙◌}
use lib.ListN.{length}
use Rattle.necklace.proofs.Answers.{class_of, class_stations, class_symbol}
use Rattle.words.proofs.FirstPlaces.{found_none, found_place}
use Rattle.words.proofs.OnePass.{class_lyndon, class_necklace}
use Rattle.refusal.proofs.Stations.{stations→}
use Rattle.necklace.proofs.class.Goals as goal

-- stations out of range
-- are refused whatever the symbols are
pub returns-then-not-are_stations : goal.returns-then-not-are_stations
returns-then-not-are_stations c = class_stations c.args.row.now (sym c.are_stations.ensures ∙ c.if-not-are_stations.true)

pub returns-in-Some : goal.returns-in-Some
returns-in-Some c =
    let e = sym c.are_stations.ensures ∙ c.if-not-are_stations.false in
    let p = found_place _ _ (sym c.first_wrong.ensures ∙ c.in-Some.is) in
    class_symbol c.args.row.now e _ p.0 p.1

pub necklace_period-p-requires : goal.necklace_period-p-requires
necklace_period-p-requires c = (stations→ _ (sym c.are_stations.ensures ∙ c.if-not-are_stations.false)).some

pub returns : goal.returns
returns c =
    let row = c.args.row.now in
    let e = sym c.are_stations.ensures ∙ c.if-not-are_stations.false in
    let f = found_none _ (sym c.first_wrong.ensures ∙ c.in_default.is) in
    let n = (stations→ (length row) e).some in
    let p = c.necklace_period-p.ensures in
    class_of row e f _ _ (class_necklace row n _ p) (class_lyndon row n _ p)
