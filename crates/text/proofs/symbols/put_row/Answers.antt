-- `text::symbols::put_row` meets its contract: the characters are written as far as i, and then the space.
use mathlib.Core.Path.{refl, sym, ◌∙◌, ◌≡◌}
use native.Mathlib.Omega.{arith}
use lib.ListN.{length, length-set}
use lib.Seq.{paste-zero}
use borrow.Author.Rules.{rules}
use Rattle.text.proofs.Written.{paste_all, paste_next, row_at, row_end, row_length}
use Rattle.text.specs.Symbols.{row_field}
use Rattle.text.specs.Parts.{space}
use Rattle.text.proofs.symbols.put_row.Goals as goal

pub loop-i-init : goal.loop-i-init
loop-i-init c =
    let a = c.args in
    record {
      inside = search rules;
      room = omega (arith, row_length a.row.now);
      long = refl;
      pasted = paste-zero a.out.now a.at (row_field a.row.now);
    }

pub loop-i-preserved : goal.loop-i-preserved
loop-i-preserved c =
    let l = c.loop-i in
    let a = c.args in
    let n = row_length a.row.now in
    record {
      inside = omega arith;
      room = omega arith;
      long = simp length-set l.invariant.long;
      pasted =
          paste_next a.out.now a.at (row_field a.row.now) l.out l.i c.character.result (omega arith) (omega arith) l.invariant.pasted
          (c.character.ensures ∙ row_at a.row.now l.i (omega arith));
    }

pub returns : goal.returns
returns c =
    let l = c.loop-i in
    let a = c.args in
    let n = row_length a.row.now in
    let i : l.i ≡ length a.row.now = omega arith in
    let f = rw i at l.invariant.pasted in (
      omega arith,
      paste_next a.out.now a.at (row_field a.row.now) l.out (length a.row.now) space (omega arith) (omega arith) f (row_end a.row.now)
          ∙ paste_all a.out.now a.at (row_field a.row.now) _ (sym n),
    )
