-- `printing::lines::put_ring` meets its contract: the line is the next, and no longer than the longest.
use mathlib.Core.Bool.{true}
use mathlib.Core.Path.{◌∙◌, ◌≡◌}
use Prim.Native.Nat.{◌+◌, ◌≤◌}
use native.Mathlib.Omega.{arith}
use lib.ListN.{length}
use lib.Seq.{length-take-le}
use borrow.Author.Rules.{rules}
use borrow.Author.Tests.{lt-ltb}
use Rattle.printing.proofs.LineLengths.{necklace_period_is, puts_line, ring_short}
use Rattle.printing.specs.Left.{highest64}
use Rattle.printing.specs.InnerNextLine.{ring_next}
use Rattle.refusal.specs.Verdicts.{most_stations}
use Rattle.walk.specs.Moves.{row_of}
use Rattle.words.specs.Rotation.{period}
use Rattle.printing.proofs.lines.put_ring.Goals as goal

pub returns : goal.returns
returns c =
    let s = c.args.state in
    let w = s.walk in
    let k = s.number in
    let row_long : length w.row ≡ most_stations = search rules in
    let ring_n : length (row_of w) ≡ w.n = length-take-le _ _ (omega (arith, row_long, c.requires.0.most)) in
    let found : c.necklace_period-period.result ≡ period (row_of w) = c.necklace_period-period.ensures ∙ necklace_period_is _ c.requires.0.necklace in
    let p : c.necklace_period-period.result ≤ highest64 = search rules in
    let h = ring_short (k + 1) (row_of w) (period (row_of w)) c.args.trials (omega (arith, ring_n, c.requires.0.most)) (search rules) (rw found at p) (search rules) in
    let e = rw found at c.write_ring-used.ensures in
    rw (lt-ltb _ _ c.if-state-ge-MOST_RINGS.false)
    (puts_line (ring_next true k w c.args.trials) c.args.out.now _ _ _ c.filled.ensures h c.requires.1 (e.answer, e.buffer))
