use Rattle.std.proofs.Common.{◌≤◌}
use Rattle.prefix_test.proofs.ask_all.Given as goal

abbrev pub invariant-loop-place : goal.invariant-loop-place
invariant-loop-place l = (l.asked ≤ l.place) × (l.agreed ≤ l.place) × (l.begun ≤ l.place)
