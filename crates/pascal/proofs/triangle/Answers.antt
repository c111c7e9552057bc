-- `pascal::triangle` meets its contract: the rule is tested over the whole table, by one computation.
use mathlib.Core.Path.{refl}
use Rattle.pascal.specs.Pascal.{rows_from, sums, triangle}
use Rattle.pascal.proofs.triangle.Goals as goal

pub returns : goal.returns
unfolding triangle rows_from sums
returns c = refl
