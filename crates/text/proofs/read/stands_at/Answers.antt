-- `text::read::stands_at` meets its contract.
use Rattle.std.proofs.Common.{ap, ◌∙◌}
use Rattle.text.proofs.Runs.{prefix_starts}
use Rattle.words.specs.Tests.{is_prefix}
use Rattle.text.proofs.read.stands_at.Goals as goal

pub returns : goal.returns
returns c = c.starts_with.ensures.value ∙ prefix_starts c.args.word.now _ ∙ ap (is_prefix c.args.word.now) c.from.ensures
