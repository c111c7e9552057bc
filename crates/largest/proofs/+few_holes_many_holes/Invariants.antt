-- `largest::few_holes` and `many_holes` meet their contracts: the length falls at each call of the cycle.
use Rattle.largest.proofs.+few_holes_many_holes.Given as goal

abbrev pub decreases-few_holes : goal.decreases-few_holes
decreases-few_holes l = l.n

abbrev pub decreases-many_holes : goal.decreases-many_holes
decreases-many_holes l = l.n
