-- `walk::Walk::descend` meets its contract: each turn of the loop is a free move or a trial on the way of the step.
use mathlib.Core.List.{List}
use Prim.Native.Nat.{ℕ, ◌-◌}
use lib.ListN.{take}
use Rattle.prefix.specs.InnerCarried.{Knows, KnowsPrefixes}
use Rattle.prefix.specs.declared.carried.Known.{Known}
use Rattle.walk.proofs.Resuming.{Comes}
use Rattle.walk.specs.Moves.{moved}
use Rattle.walk.specs.declared.Standing.TheVariants.{Down}
use Rattle.walk.specs.declared.Walk.{Walk}
use Rattle.walk.proofs.Walk.descend.Given as goal

pub record Inv (w : Walk) (allowed : ℕ) (prefixes row : List ℕ) (p left : ℕ) (known : Known) : Type 0 where
  pub comes : Comes w allowed (moved w row (Down p)) left
  pub table : KnowsPrefixes (take (p - 1) row) prefixes
  pub knows : Knows (take (p - 1) row) known

abbrev pub invariant-loop-q : goal.invariant-loop-q
invariant-loop-q l = Inv l.self l.allowed l.prefixes l.row l.q l.left l.known
