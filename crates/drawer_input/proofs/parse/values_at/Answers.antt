-- `drawer_input::parse::values_at` meets its contract: three numbers, each with a space behind it, and the limit.
use mathlib.Core.Path.{sym, ◌∙◌}
use Rattle.drawer_input.proofs.ValueLines.{no_holes, no_kind, no_stations, to_limit}
use Rattle.drawer_input.proofs.parse.values_at.Goals as goal

pub returns-in_err-stations : goal.returns-in_err-stations
returns-in_err-stations c = c.from_residual.ensures ∙ no_stations _ _ (sym c.in_err-stations.was ∙ c.spaced_at.ensures)

pub returns-in_err-holes : goal.returns-in_err-holes
returns-in_err-holes c =
    c.from_residual-in_err-holes.ensures ∙ no_holes _ _ _ _ (sym c.in_ok-stations.was ∙ c.spaced_at.ensures) (sym c.in_err-holes.was ∙ c.spaced_at-2.ensures)

pub returns-in_err-kind : goal.returns-in_err-kind
returns-in_err-kind c =
    let e = sym c.in_ok-stations.was ∙ c.spaced_at.ensures in
    let f = sym c.in_ok-holes.was ∙ c.spaced_at-2.ensures in
    c.from_residual-in_err-kind.ensures ∙ no_kind _ _ _ _ e _ _ f (sym c.in_err-kind.was ∙ c.spaced_at-3.ensures)

pub returns : goal.returns
returns c =
    let e = sym c.in_ok-stations.was ∙ c.spaced_at.ensures in
    let f = sym c.in_ok-holes.was ∙ c.spaced_at-2.ensures in
    let g = sym c.in_ok-kind.was ∙ c.spaced_at-3.ensures in
    to_limit _ _ _ _ e _ _ f _ _ g _ c.limit_at.ensures
