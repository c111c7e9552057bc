-- `density::kinds::is_kind` meets its contract.
use mathlib.Core.Path.{refl}
use borrow.Author.Tests.{le-leb, lt-leb}
use Rattle.density.specs.Necklaces.{is_kind}
use Rattle.words.proofs.Booleans.{and_no, and_yes}
use Rattle.density.proofs.kinds.is_kind.Goals as goal

pub returns-then-kind-ge1 : goal.returns-then-kind-ge1
unfolding is_kind
returns-then-kind-ge1 c = and_yes (le-leb 1 _ c.if-kind-ge1.true) refl

pub returns-else-kind-ge1 : goal.returns-else-kind-ge1
unfolding is_kind
returns-else-kind-ge1 c = and_no _ (lt-leb 1 _ c.if-kind-ge1.false) refl
