-- `refusal::are_stations` meets its contract.
use mathlib.Core.Path.{refl}
use borrow.Author.Tests.{le-leb, lt-leb}
use Rattle.refusal.specs.Verdicts.{are_stations}
use Rattle.words.proofs.Booleans.{and_no, and_yes}
use Rattle.refusal.proofs.are_stations.Goals as goal

pub returns-then-n-ge1 : goal.returns-then-n-ge1
unfolding are_stations
returns-then-n-ge1 c = and_yes (le-leb 1 _ c.if-n-ge1.true) refl

pub returns-else-n-ge1 : goal.returns-else-n-ge1
unfolding are_stations
returns-else-n-ge1 c = and_no _ (lt-leb 1 _ c.if-n-ge1.false) refl
