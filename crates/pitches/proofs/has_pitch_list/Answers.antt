-- `pitches::has_pitch_list` meets its contract.
use mathlib.Core.Path.{sym, ◌∙◌}
use borrow.Author.Tests.{eq-eqb, ne_eqb}
use Rattle.density.specs.Density.{density}
use Rattle.pitches.proofs.Listing.{ends_at}
use Rattle.pitches.specs.Pitches.{has_pitch_list}
use Rattle.pitches.proofs.has_pitch_list.Goals as goal

pub returns-then-holes-eq0 : goal.returns-then-holes-eq0
unfolding has_pitch_list
returns-then-holes-eq0 c = rw (eq-eqb _ _ (sym c.requires.1 ∙ c.if-holes-eq0.true))

pub returns : goal.returns
unfolding has_pitch_list
returns c =
    rw (ne_eqb (density c.args.row.now) 0 (λ e. c.if-holes-eq0.false (c.requires.1 ∙ e))) (sym (ends_at c.args.row.now c.requires.0))
