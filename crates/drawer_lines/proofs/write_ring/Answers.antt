-- `drawer_lines::write_ring` meets its contract, piece by piece.
use mathlib.Core.List.{List, append_assoc, ◌++◌}
use mathlib.Core.Path.{◌≡◌}
use Prim.Native.Nat.{ℕ, ◌+◌, ◌≤◌}
use native.Mathlib.Omega.{arith}
use lib.ListN.{length, length-append}
use Rattle.drawer_lines.proofs.Filling.{Filled, filled_all, filled_more, filled_none, ring-length, too_short}
use Rattle.text.specs.Buffers.{placed}
use Rattle.text.specs.Decimals.{decimal, field}
use Rattle.text.specs.Symbols.{row_field}
use Rattle.drawer_lines.specs.Lines.{ring_line}
use Rattle.text.specs.Parts.{feed, space}
use Rattle.drawer_lines.proofs.write_ring.Goals.{Else-out-row-2}
use Rattle.drawer_lines.proofs.write_ring.Goals as goal

pub returns-then-out-row : goal.returns-then-out-row
returns-then-out-row c =
    let a = c.args in
    let w = too_short (ring_line a.number a.row.now a.period a.trials) a.out.now (omega (arith, ring-length a.number a.row.now a.period a.trials)) in
    record { answer = w.0; buffer = w.1 }

pub returns-then-out-row-2 : goal.returns-then-out-row-2
returns-then-out-row-2 c =
    let a = c.args in
    let w = too_short (ring_line a.number a.row.now a.period a.trials) a.out.now
    (omega (arith, ring-length a.number a.row.now a.period a.trials, c.decimal_length.ensures.0, c.decimal_length-2.ensures.0, c.decimal_length-3.ensures.0)) in
    record { answer = w.0; buffer = w.1 }

-- there is room for the line's pieces
record Room (number : ℕ) (row : List ℕ) (period trials : ℕ) (O : List ℕ) : Type 0 where
  all : length (ring_line number row period trials) ≤ length O
  whole : length (ring_line number row period trials) ≡ length (field number space) + length (row_field row) + length (field period space) + length (field trials feed)

room : (number : ℕ) (row : List ℕ) (period trials : ℕ) (O : List ℕ) → length row + (length (decimal number) + length (decimal period) + length (decimal trials) + 4) ≤ length O → Room number row period trials O
unfolding ring_line
room number row period trials O h =
    record {
      all = omega (arith, ring-length number row period trials);
      whole = simp length-append (omega arith);
    }

roomy : (c : Else-out-row-2) → Room c.args.number c.args.row.now c.args.period c.args.trials c.args.out.now
roomy c =
    let a = c.args in
    room a.number a.row.now a.period a.trials a.out.now (omega (arith, c.decimal_length.ensures.0, c.decimal_length-2.ensures.0, c.decimal_length-3.ensures.0))

module _ {number : ℕ} {row : List ℕ} {period trials : ℕ} {O : List ℕ} (m : Room number row period trials O) where
  numbered : {o : List ℕ} {at : ℕ} → at ≡ 0 + length (field number space) → o ≡ placed O 0 (field number space) → Filled O (field number space) o at
  numbered d e = filled_more (filled_none O) (field number space) (omega arith) d e

  with_row : {o o' : List ℕ} {at at' : ℕ} → Filled O (field number space) o at → at' ≡ at + length (row_field row) → o' ≡ placed o at (row_field row) → Filled O (field number space ++ row_field row) o' at'
  with_row f d e = filled_more f (row_field row) (omega arith) d e

  with_period : {o o' : List ℕ} {at at' : ℕ} → Filled O (field number space ++ row_field row) o at → at' ≡ at + length (field period space) → o' ≡ placed o at (field period space) → Filled O ((field number space ++ row_field row) ++ field period space) o' at'
  with_period f d e =
      let l = length-append (field number space) (row_field row) in
      filled_more f (field period space) (omega arith) d e

pub put_field-a-requires : goal.put_field-a-requires
put_field-a-requires c =
    let a = c.args in
    let m = roomy (goal.at.put_field-a-requires c).Else-out-row-2 in
    omega arith

pub put_row-b-requires : goal.put_row-b-requires
put_row-b-requires c =
    let a = c.args in
    let m = roomy (goal.at.put_row-b-requires c).Else-out-row-2 in
    let f = numbered m c.put_field-a.ensures.0 c.put_field-a.ensures.1 in
    omega arith

pub put_field-c-requires : goal.put_field-c-requires
put_field-c-requires c =
    let a = c.args in
    let m = roomy (goal.at.put_field-c-requires c).Else-out-row-2 in
    let f = numbered m c.put_field-a.ensures.0 c.put_field-a.ensures.1 in
    let g = with_row m f c.put_row-b.ensures.0 c.put_row-b.ensures.1 in
    let l = length-append (field a.number space) (row_field a.row.now) in
    omega arith

-- the pieces before the last
abbrev before_trials : ℕ → List ℕ → ℕ → List ℕ
before_trials number row period = (field number space ++ row_field row) ++ field period space

before_length : (number : ℕ) (row : List ℕ) (period : ℕ) → length (before_trials number row period) ≡ length (field number space) + length (row_field row) + length (field period space)
before_length number row period = simp length-append

pub put_field-requires : goal.put_field-requires
put_field-requires c =
    let a = c.args in
    let m = roomy (goal.at.put_field-requires c).Else-out-row-2 in
    let f = numbered m c.put_field-a.ensures.0 c.put_field-a.ensures.1 in
    let g = with_row m f c.put_row-b.ensures.0 c.put_row-b.ensures.1 in
    let h = with_period m g c.put_field-c.ensures.0 c.put_field-c.ensures.1 in
    let l = before_length a.number a.row.now a.period in
    omega arith

pub returns : goal.returns
unfolding ring_line
returns c =
    let a = c.args in
    let m = roomy (goal.at.returns c).Else-out-row-2 in
    let f = numbered m c.put_field-a.ensures.0 c.put_field-a.ensures.1 in
    let g = with_row m f c.put_row-b.ensures.0 c.put_row-b.ensures.1 in
    let h = with_period m g c.put_field-c.ensures.0 c.put_field-c.ensures.1 in
    let p = c.put_field.ensures in
    let l = before_length a.number a.row.now a.period in
    let n : length (before_trials a.number a.row.now a.period) + length (field a.trials feed) ≤ length a.out.now = omega arith in
    let w = filled_all (ring_line a.number a.row.now a.period a.trials) (filled_more h (field a.trials feed) n p.0 p.1) (simp append_assoc) m.all in
    record { answer = w.0; buffer = w.1 }
