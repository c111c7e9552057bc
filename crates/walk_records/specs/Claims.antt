-- What is claimed of two walk records.
use Rattle.std.specs.Prelude.{true, ◌↔◌, ◌≡◌}
use Rattle.walk.specs.declared.Walk.{Walk}
use Rattle.walk_records.specs.SameWalks.{same_walk}

-- the test says yes exactly of equal records
abbrev pub SameWalk : Type 0
SameWalk = (a b : Walk) → (same_walk a b ≡ true) ↔ (a ≡ b)
