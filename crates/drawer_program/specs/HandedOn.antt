-- What is handed on to the output. That the system takes it is not proved: see docs/DECISIONS.md.
use Rattle.std.specs.Prelude.{true, List, ◌≡◌, ℕ}
use Rattle.drawer_program.specs.declared.Handed.{Handed}
use Rattle.printing.specs.Left.{left}
use Rattle.printing.specs.Pieces.{HandedOut}
use Rattle.printing.specs.declared.Printing.{Printing}

-- The bytes of all pieces, in order, up to the last one; where each was taken, they are the whole text that was left.
pub record HandedOn (s : Printing) (r : Handed) : Type 0 where
  pub bytes : List ℕ
  pub pieces : HandedOut s bytes r.state
  pub all : r.taken ≡ true → bytes ≡ left s
