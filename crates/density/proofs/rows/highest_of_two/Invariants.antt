-- `density::rows::highest_of_two` meets its contract: the highest of the symbols passed.
use Rattle.words.proofs.HighestSymbol.{HighestOfTwo}
use Rattle.density.proofs.rows.highest_of_two.Given as goal

abbrev pub invariant-loop-i : goal.invariant-loop-i
invariant-loop-i l = HighestOfTwo l.s l.t l.most l.i
