-- `density::drawers::check_opening` meets its contract: what is refused of the drawer, and else of the limit.
use mathlib.Core.Path.{sym, ◌∙◌}
use borrow.Author.Tests.{eq-eqb, ne_eqb}
use Rattle.density.proofs.DrawerVerdicts.{drawer_then}
use Rattle.density.specs.Drawers.{open_verdict}
use Rattle.refusal.proofs.Outcomes.{given_so, handed_on, refused_so}
use Rattle.words.proofs.FirstPlaces.{found_none, found_place}
use Rattle.density.proofs.drawers.check_opening.Goals as goal

pub returns-in_err-check_drawer : goal.returns-in_err-check_drawer
unfolding open_verdict
returns-in_err-check_drawer c =
    handed_on _ c.from_residual.ensures.1 ∙ rw (drawer_then, refused_so _ _ _ (sym c.check_drawer.ensures ∙ c.in_err-check_drawer.was))

pub returns-then-limit-n : goal.returns-then-limit-n
unfolding open_verdict
returns-then-limit-n c =
    rw (drawer_then, given_so _ _ _ (sym c.check_drawer.ensures ∙ c.in_ok-check_drawer.was), ne_eqb _ _ c.if-limit-n.true)

pub returns-in-Some : goal.returns-in-Some
unfolding open_verdict
returns-in-Some c =
    let p = found_place _ _ (sym c.first_wrong.ensures ∙ c.in-Some.is) in
    rw (drawer_then, given_so _ _ _ (sym c.check_drawer.ensures ∙ c.in_ok-check_drawer.was), eq-eqb _ _ c.if-limit-n.false, ← p.0, ne_eqb _ _ p.1)

pub returns : goal.returns
unfolding open_verdict
returns c =
    rw (drawer_then, given_so _ _ _ (sym c.check_drawer.ensures ∙ c.in_ok-check_drawer.was), eq-eqb _ _ c.if-limit-n.false, eq-eqb _ _ (found_none _ (sym c.first_wrong.ensures ∙ c.in_default.is)))
