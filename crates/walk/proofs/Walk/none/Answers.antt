-- `walk::Walk::none` meets its contract.
use mathlib.Core.Path.{ap, refl, sym, ◌∙◌}
use Rattle.walk.proofs.MoveCases.{from_none, good_long}
use Rattle.walk.proofs.Resuming.{comes_here, then_answer}
use Rattle.walk.specs.Moves.{answer, moved}
use Rattle.std.specs.Prelude.{Ok}
use Rattle.walk.specs.declared.Answer.TheVariants.{None}
use Rattle.walk.specs.declared.Standing.TheVariants.{Ended}
use Rattle.words.specs.Symbols.{zeros}
use Rattle.walk.proofs.Walk.none.Goals as goal

pub returns : goal.returns
returns c =
    let w = c.args.self in
    then_answer (comes_here w c.args.left c.requires.1) (Ok None) _ refl refl
    (ap (λ k. answer (Ok None) (moved w (zeros k) Ended)) (sym (good_long c.requires.1)) ∙ from_none w c.requires.0)
