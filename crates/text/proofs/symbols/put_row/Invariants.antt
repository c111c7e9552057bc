-- `text::symbols::put_row` meets its contract: the characters are written as far as i, and then the space.
use mathlib.Core.List.{List}
use mathlib.Core.Path.{◌≡◌}
use Prim.Native.Nat.{ℕ, ◌+◌, ◌≤◌}
use lib.ListN.{length}
use lib.Seq.{paste}
use Rattle.text.specs.Symbols.{row_field}
use Rattle.text.proofs.symbols.put_row.Given as goal

pub record Inv (O : List ℕ) (at : ℕ) (row o : List ℕ) (i : ℕ) : Type 0 where
  pub inside : i ≤ length row
  pub room : at + length row + 1 ≤ length O
  pub long : length o ≡ length O
  pub pasted : o ≡ paste O at (row_field row) i

abbrev pub invariant-loop-i : goal.invariant-loop-i
invariant-loop-i l = Inv l.initial.out l.at l.row l.out l.i
