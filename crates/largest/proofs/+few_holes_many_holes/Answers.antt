-- `largest::few_holes` and `many_holes` meet their contracts: a row of zeros or of ones is balanced, and the rest is found.
use native.Mathlib.Omega.{arith}
use Rattle.largest.proofs.FilledRow.{ones_row, zeros_row}
use Rattle.largest.proofs.+few_holes_many_holes.Goals as goal

pub few_holes-returns-then-d-eq0 : goal.few_holes-returns-then-d-eq0
few_holes-returns-then-d-eq0 t c = zeros_row c.args.n c.args.d (omega arith) (omega arith) c.if-d-eq0.true

pub many_holes-returns-then-d-n : goal.many_holes-returns-then-d-n
many_holes-returns-then-d-n t c = ones_row c.args.n c.args.d (omega arith) (omega arith) c.if-d-n.true
