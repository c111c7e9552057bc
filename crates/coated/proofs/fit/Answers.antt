-- `coated::fit` meets its contract: the laws of FitAnswers, at each return.
use mathlib.Core.Path.{sym, ◌∙◌}
use Rattle.coated.proofs.FitAnswers.{Checked, fit_first, fit_found, fit_length, fit_second, fit_stations}
use Rattle.refusal.proofs.Stations.{stations→}
use Rattle.words.proofs.FirstPlaces.{found_none, found_place}
use Rattle.coated.proofs.fit.Goals as goal

pub returns-then-not-are_stations : goal.returns-then-not-are_stations
returns-then-not-are_stations c =
    let a = c.args in
    fit_stations a.row.now a.other.now (sym c.are_stations.ensures ∙ c.if-not-are_stations.true)

pub returns-then-other-n : goal.returns-then-other-n
returns-then-other-n c =
    let a = c.args in
    fit_length a.row.now a.other.now (sym c.are_stations.ensures ∙ c.if-not-are_stations.false) c.if-other-n.true

pub returns-in-Some : goal.returns-in-Some
returns-in-Some c =
    let p = found_place _ _ (sym c.first_wrong.ensures ∙ c.in-Some.is) in
    let a = c.args in
    fit_first a.row.now a.other.now (sym c.are_stations.ensures ∙ c.if-not-are_stations.false) c.if-other-n.false _ p.0 p.1

pub returns-in-Some-first_wrong : goal.returns-in-Some-first_wrong
returns-in-Some-first_wrong c =
    let p = found_place _ _ (sym c.first_wrong-2.ensures ∙ c.in-Some-first_wrong.is) in
    let a = c.args in
    let k : Checked a.row.now a.other.now = record {
      stations = sym c.are_stations.ensures ∙ c.if-not-are_stations.false;
      as_long = c.if-other-n.false;
      right = found_none _ (sym c.first_wrong.ensures ∙ c.in_default.is);
    } in
    fit_second k _ p.0 p.1

pub fit_of-requires : goal.fit_of-requires
fit_of-requires c =
    let n = stations→ _ (sym c.are_stations.ensures ∙ c.if-not-are_stations.false) in
    (n.some, n.most, c.if-other-n.false)

pub returns : goal.returns
returns c =
    let a = c.args in
    let k : Checked a.row.now a.other.now = record {
      stations = sym c.are_stations.ensures ∙ c.if-not-are_stations.false;
      as_long = c.if-other-n.false;
      right = found_none _ (sym c.first_wrong.ensures ∙ c.in_default.is);
    } in
    fit_found k (found_none _ (sym c.first_wrong-2.ensures ∙ c.in_default-first_wrong.is)) c.fit_of.result c.fit_of.ensures
