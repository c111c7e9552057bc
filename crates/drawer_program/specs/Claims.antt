-- What is claimed of an input that was read, and of a text that was handed on.
use Rattle.std.specs.Prelude.{true, List, ◌++◌, ◌≡◌, ℕ, min, drop, length, take}
use Rattle.drawer_program.specs.HandedOn.{HandedOn}
use Rattle.drawer_program.specs.Read.{IsRead}
use Rattle.drawer_program.specs.declared.Handed.{Handed}
use Rattle.printing.specs.Left.{left}
use Rattle.printing.specs.Text.{printed}
use Rattle.printing.specs.declared.Printing.{Printing}

-- Whatever the input is, this is how a buffer holds as much of its beginning as there is room for.
abbrev pub EachRead : Type 0
EachRead =
    (input room : List ℕ) → IsRead input (take (length room) input ++ drop (length input) room) (min (length input) (length room))

-- What was handed on, and then what is left, is the printed text; where every piece was taken, it is all of it.
abbrev pub TextHandedOn : Type 0
TextHandedOn =
    (input : List ℕ) (s : Printing) (r : Handed) → left s ≡ printed input → (h : HandedOn s r)
    → (h.bytes ++ left r.state ≡ printed input) × (r.taken ≡ true → h.bytes ≡ printed input)
