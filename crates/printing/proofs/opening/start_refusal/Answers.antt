-- `printing::opening::start_refusal` meets its contract.
use mathlib.Core.Path.{refl}
use Rattle.printing.specs.Left.{left}
use Rattle.printing.proofs.opening.start_refusal.Goals as goal

pub returns : goal.returns
unfolding left
returns c = refl
