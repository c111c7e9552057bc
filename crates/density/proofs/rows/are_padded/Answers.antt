-- `density::rows::are_padded` meets its contract.
use mathlib.Core.List.{List}
use mathlib.Core.Path.{sym, ◌∙◌, ◌≡◌}
use Prim.Native.Nat.{ℕ, ◌-◌}
use native.Mathlib.Omega.{arith}
use lib.ListN.{drop, length, length-drop, take}
use lib.Seq.{take_all}
use borrow.Author.Tests.{lt-leb}
use Rattle.density.proofs.PaddedRows.{two_high, two_low}
use Rattle.density.proofs.rows.are_padded.Goals as goal

-- the part of a row from place n on
behind : (n : ℕ) (row : List ℕ) → take (length row - n) (drop n row) ≡ drop n row
behind n row = take_all (length row - n) (drop n row) (simp length-drop (omega arith))

pub returns-then-highest_of_two-le1 : goal.returns-then-highest_of_two-le1
returns-then-highest_of_two-le1 c =
    let a = c.args in
    two_low a.n a.row.now a.other.now c.highest_of_two.result c.highest_of_two.ensures c.if-highest_of_two-le1.true c.highest_of_two-then-highest_of_two-le1.result
    (rw (behind a.n a.row.now, behind a.n a.other.now) at c.highest_of_two-then-highest_of_two-le1.ensures)

pub returns-else-highest_of_two-le1 : goal.returns-else-highest_of_two-le1
returns-else-highest_of_two-le1 c =
    let a = c.args in
    lt-leb _ 1 c.if-highest_of_two-le1.false ∙ sym (two_high a.n a.row.now a.other.now c.highest_of_two.result c.highest_of_two.ensures c.if-highest_of_two-le1.false)
