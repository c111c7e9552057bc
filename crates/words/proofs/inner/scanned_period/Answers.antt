-- `words::inner::scanned_period` meets its contract: what the pass finds, and whether it divides the length.
use mathlib.Core.Path.{ap, sym, ◌∙◌}
use Rattle.words.proofs.OnePass.{pass_barred, pass_whole, pass_within}
use Rattle.words.specs.InnerScan.{coded}
use Rattle.words.proofs.inner.scanned_period.Goals as goal

pub returns-then-p-eq0 : goal.returns-then-p-eq0
returns-then-p-eq0 c = pass_barred _ c.requires.0 (ap coded (sym c.if-p-eq0.true) ∙ c.requires.1)

pub returns-then-row-p-eq0 : goal.returns-then-row-p-eq0
returns-then-row-p-eq0 c = pass_whole _ _ c.requires.0 c.if-p-eq0.false c.requires.1 c.if-row-p-eq0.true

pub returns-else-row-p-eq0 : goal.returns-else-row-p-eq0
returns-else-row-p-eq0 c = pass_within _ _ c.requires.0 c.if-p-eq0.false c.requires.1 c.if-row-p-eq0.false
