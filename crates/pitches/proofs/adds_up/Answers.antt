-- `pitches::adds_up` meets its contract: the pitches to come add up to what is left exactly if all of them do to n.
use mathlib.Core.Path.{sym, ◌∙◌}
use native.Mathlib.Nat.{pos_of_ne-zero}
use native.Mathlib.Omega.{arith}
use borrow.Author.Rules.{rules}
use Rattle.pitches.proofs.Sums.{adds_none, adds_some, fit_end, fit_not, fit_on}
use Rattle.pitches.proofs.adds_up.Goals as goal

pub returns-then-pitches-eq0 : goal.returns-then-pitches-eq0
returns-then-pitches-eq0 c = sym (adds_none c.args.n c.args.pitches.now c.if-pitches-eq0.true)

pub loop-pitch-init : goal.loop-pitch-init
loop-pitch-init c =
    record {
      inside = search rules;
      rest = adds_some c.args.n c.args.pitches.now (pos_of_ne-zero c.if-pitches-eq0.false);
    }

pub returns-then-left-pitch : goal.returns-then-left-pitch
returns-then-left-pitch c =
    let l = c.loop-pitch in
    let pitches = c.args.pitches.now in
    sym (l.invariant.rest ∙ fit_not pitches l.pitch-index (omega arith) l.left c.if-left-pitch.true)

pub loop-pitch-preserved : goal.loop-pitch-preserved
loop-pitch-preserved c =
    let l = c.loop-pitch in
    let pitches = c.args.pitches.now in
    record { inside = omega arith; rest = l.invariant.rest ∙ fit_on pitches l.pitch-index (omega arith) l.left c.if-left-pitch.false }

pub returns : goal.returns
returns c =
    let l = c.loop-pitch in
    sym (l.invariant.rest ∙ fit_end c.args.pitches.now l.pitch-index l.left (omega arith))
