-- `text::write::decimal_length` meets its contract: the digits counted and those of the rest are those of the number.
use mathlib.Core.Path.{◌≡◌}
use Prim.Native.Nat.{ℕ, ◌+◌, ◌≤◌}
use lib.ListN.{length}
use Rattle.text.specs.Decimals.{decimal}
use Rattle.text.proofs.write.decimal_length.Given as goal

pub record Inv (n count rest : ℕ) : Type 0 where
  pub small : count + rest ≤ n + 1
  pub counted : length (decimal n) + 1 ≡ count + length (decimal rest)

abbrev pub invariant-loop-rest : goal.invariant-loop-rest
invariant-loop-rest l = Inv l.n l.count l.rest

abbrev pub decreases-loop-rest : goal.decreases-loop-rest
decreases-loop-rest l = l.rest
