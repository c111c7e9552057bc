-- `text::write::put_field` meets its contract: the last digits stand behind `from`, and the rest is still to be spelled.
use Rattle.text.proofs.Digits.{Spelled}
use Rattle.text.proofs.write.put_field.Given as goal

abbrev pub invariant-loop-rest : goal.invariant-loop-rest
invariant-loop-rest l = Spelled l.n l.end l.text l.from l.rest

abbrev pub decreases-loop-rest : goal.decreases-loop-rest
decreases-loop-rest l = l.rest
