-- `printing::lines::put_end` meets its contract.
use Prim.Native.Nat.{◌≤◌}
use borrow.Author.Rules.{rules}
use Rattle.drawer_lines.specs.Lines.{end_line}
use Rattle.printing.proofs.LineLengths.{end_short, puts_line}
use Rattle.printing.specs.Left.{highest64}
use Rattle.printing.specs.InnerNextLine.{last_line}
use Rattle.printing.proofs.lines.put_end.Goals as goal

pub returns : goal.returns
returns c =
    let t : c.args.trials ≤ highest64 = search rules in
    let w = c.write_end.ensures in
    puts_line (last_line (end_line c.args.trials) c.args.state.number c.args.state.walk) c.args.out.now _ _ _ c.filled.ensures (end_short c.args.trials t) c.requires (w.answer, w.buffer)
