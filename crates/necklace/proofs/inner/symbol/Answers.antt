-- `necklace::inner::symbol` meets its contract.
use mathlib.Core.Path.{sym}
use native.Mathlib.Omega.{arith}
use Rattle.necklace.proofs.Parts.{head_symbol, tail_symbol}
use Rattle.necklace.proofs.inner.symbol.Goals as goal

pub returns-then-i-tail : goal.returns-then-i-tail
returns-then-i-tail c = let s = c.args in sym (tail_symbol s.row.now s.j s.i c.if-i-tail.true)

pub returns-else-i-tail : goal.returns-else-i-tail
returns-else-i-tail c = let s = c.args in sym (head_symbol s.row.now s.j s.i (omega arith) (omega arith) c.if-i-tail.false)
