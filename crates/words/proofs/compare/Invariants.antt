-- `words::compare` meets its contract: the laws of Comparing, at each place of the code.
use Rattle.words.proofs.Comparing.{Bytes, Words}
use Rattle.words.proofs.compare.Given as goal

abbrev pub invariant-loop-k : goal.invariant-loop-k
invariant-loop-k l = Words l.a l.b l.shorter l.words l.k

abbrev pub invariant-loop-i : goal.invariant-loop-i
invariant-loop-i l = Bytes l.a l.b l.shorter l.words l.i
