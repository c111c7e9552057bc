-- `density::rows::padded` meets its contract.
use mathlib.Core.List.{◌++◌}
use mathlib.Core.Path.{ap, ◌∙◌}
use lib.ListN.{length}
use Rattle.words.proofs.Zeros.{drop-zeros}
use Rattle.refusal.specs.Verdicts.{most_stations}
use Rattle.density.proofs.rows.padded.Goals as goal

pub returns : goal.returns
returns c =
    let a = c.args.a.now in
    c.write_front.ensures ∙ ap (λ r. a ++ r) (drop-zeros (length a) most_stations)
