-- `text::read::run_at` meets its contract: it counts the bytes of the run.
use Rattle.std.proofs.Common.{ap, drop, rules, length, tests, ◌∙◌, ◌≡◌}
use Rattle.std.proofs.lemmas.Iterator.{YieldsList-from_slice}
use Rattle.std.proofs.lemmas.Iterator.Consumers.{count_from_yields_List}
use Rattle.std.proofs.lemmas.Iterator.Search.{YieldsList-from_take_while}
use Rattle.text.proofs.Runs.{run_counted, run_inside}
use Rattle.text.specs.Parts.{belongs, run}
use Rattle.text.proofs.read.run_at.Goals.{After-count}
use Rattle.text.proofs.read.run_at.Goals as goal

counted : (c : After-count) → c.count.result ≡ length (run c.args.sort (drop c.args.at c.args.text.now))
counted c =
    count_from_yields_List c.take_while.result _ c.count.ensures.ran
    (YieldsList-from_take_while _ (belongs c.args.sort) (YieldsList-from_slice c.from.result.now cc) c.take_while.ensures.closure c.take_while.ensures.done (λ x b q k. search (rules, tests)))
    ∙ run_counted c.args.sort _ ∙ ap (λ s. length (run c.args.sort s)) c.from.ensures

pub returns : goal.returns
returns c = record { run = counted c; inside = run_inside c.args.sort c.args.text.now c.args.at c.count.result (counted c) }
