-- `walk::Walk::step` meets its contract.
use Rattle.walk.proofs.StepLoop.{Going}
use Rattle.walk.specs.InnerCourse.{Informed, size}
use Rattle.walk.specs.Moves.{moved}
use Rattle.walk.proofs.Walk.step.Given as goal

abbrev pub invariant-loop-kept : goal.invariant-loop-kept
invariant-loop-kept l = Informed (moved l.self l.row l.at) l.prefixes l.known × Going l.self l.allowance (moved l.self l.row l.at) l.left

abbrev pub decreases-loop-kept : goal.decreases-loop-kept
decreases-loop-kept l = size (moved l.self l.row l.at)
