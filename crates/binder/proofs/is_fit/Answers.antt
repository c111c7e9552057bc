-- `binder::is_fit` meets its contract: the laws of FitTold, for each answer.
use mathlib.Core.Path.{ap, ◌∙◌, ◌≡◌}
use lib.ListN.{length}
use borrow.Author.Rules.{rules}
use Rattle.refusal.specs.Verdicts.{most_stations}
use Rattle.std.specs.Prelude.{Err}
use Rattle.binder.proofs.FitTold.{ok_told, refused_told, unfit_told}
use Rattle.binder.proofs.is_fit.Goals as goal

pub returns-in-Ok : goal.returns-in-Ok
returns-in-Ok c =
    let long : length c.args.walk.row ≡ most_stations = search rules in
    ok_told c.args.walk long _ c.step-stepped.ensures.numbers _ c.in-Ok.is

pub returns-in-Unfit : goal.returns-in-Unfit
returns-in-Unfit c =
    let long : length c.args.walk.row ≡ most_stations = search rules in
    unfit_told c.args.walk long _ c.step-stepped.ensures.numbers (c.in-Err.is ∙ ap Err c.in-Unfit.is)

pub returns-in_default : goal.returns-in_default
returns-in_default c =
    let long : length c.args.walk.row ≡ most_stations = search rules in
    refused_told c.args.walk long _ c.step-stepped.ensures.numbers _ c.in_default.not-Unfit c.in-Err.is
