-- `drawer_lines::write_end` meets its contract, piece by piece.
use mathlib.Core.List.{List}
use mathlib.Core.Path.{refl, ◌≡◌}
use Prim.Native.Nat.{ℕ, ◌+◌, ◌≤◌}
use native.Mathlib.Omega.{arith}
use lib.ListN.{length}
use Rattle.drawer_lines.proofs.Filling.{Filled, end_length, filled_all, filled_more, filled_none, too_short}
use Rattle.text.proofs.Digits.{field-length}
use Rattle.text.specs.Decimals.{decimal, field}
use Rattle.text.specs.Buffers.{placed}
use Rattle.drawer_lines.specs.Lines.{end_line, end_mark}
use Rattle.text.specs.Parts.{feed}
use Rattle.drawer_lines.proofs.write_end.Goals as goal

pub returns-then-out-decimal_length : goal.returns-then-out-decimal_length
returns-then-out-decimal_length c =
    let a = c.args in
    let w = too_short (end_line a.trials) a.out.now (omega (arith, end_length a.trials, c.decimal_length.ensures.0)) in
    record { answer = w.0; buffer = w.1 }

-- there is room for the line
room : (trials d : ℕ) (O : List ℕ) → d ≡ length (decimal trials) → d + 9 ≤ length O → length (end_line trials) ≤ length O
room trials d O e h = omega (arith, end_length trials)

marked : (trials : ℕ) {O o : List ℕ} {at : ℕ} → length (end_line trials) ≤ length O → at ≡ 0 + length end_mark → o ≡ placed O 0 end_mark → Filled O end_mark o at
marked trials {O} h e f = filled_more (filled_none O) end_mark (omega (arith, end_length trials)) e f

pub put_field-requires : goal.put_field-requires
put_field-requires c =
    let t = c.args.trials in
    let h = room t c.decimal_length.result c.args.out.now c.decimal_length.ensures.0 c.if-out-decimal_length.false in
    let f = marked t h c.put-a.ensures.0 c.put-a.ensures.1 in
    omega (arith, end_length t, field-length t feed)

pub returns : goal.returns
unfolding end_line
returns c =
    let t = c.args.trials in
    let O = c.args.out.now in
    let h = room t c.decimal_length.result O c.decimal_length.ensures.0 c.if-out-decimal_length.false in
    let f = marked t h c.put-a.ensures.0 c.put-a.ensures.1 in
    let p = c.put_field.ensures in
    let n : length end_mark + length (field t feed) ≤ length O = omega (arith, end_length t, field-length t feed) in
    let w = filled_all (end_line t) (filled_more f (field t feed) n p.0 p.1) refl h in
    record { answer = w.0; buffer = w.1 }
