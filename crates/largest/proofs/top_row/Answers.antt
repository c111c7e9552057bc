-- `largest::top_row` meets its contract: the balanced row is the largest necklace.
use mathlib.Core.Path.{sym, ◌∙◌}
use native.Mathlib.Omega.{arith}
use Rattle.density.proofs.Largest.{largest_balanced}
use Rattle.largest.proofs.top_row.Goals as goal

pub returns-then-d-n : goal.returns-then-d-n
returns-then-d-n c =
    c.few_holes.ensures ∙ sym (largest_balanced c.args.n c.args.d (omega arith) (omega arith))

pub returns-else-d-n : goal.returns-else-d-n
returns-else-d-n c =
    c.many_holes.ensures ∙ sym (largest_balanced c.args.n c.args.d (omega arith) (omega arith))
