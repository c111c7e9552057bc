-- `printing::Printing::fill` meets its contract: what is used and what is left are what was left. Each line is some bytes, so the room falls.
use mathlib.Core.Bool.{false, true, true≢false}
use mathlib.Core.List.{◌++◌}
use mathlib.Core.Path.{ap, refl, sym, ◌∙◌, ◌≡◌}
use Prim.Native.Nat.{◌+◌, ◌-◌, ◌<◌}
use native.Mathlib.Omega.{arith}
use lib.ListN.{drop, length, take}
use borrow.Author.Rules.{rules}
use Rattle.printing.proofs.Growing.{Grown, grown_more}
use Rattle.printing.proofs.Ending.{done_left, left_done, line_some}
use Rattle.printing.specs.InnerNextLine.{is_done, next_of}
use Rattle.printing.proofs.Printing.fill.Goals.{After-put_line-put}
use Rattle.printing.proofs.Printing.fill.Goals as goal

-- a line was put
module _ (c : After-put_line-put) where
  next_used : c.put_line-put.result.used ≡ length (next_of c.loop-out.state).line
  next_used = ap (λ f. f.used) c.put_line-put.ensures.result

  next_state : c.put_line-put.result.state ≡ (next_of c.loop-out.state).then
  next_state = ap (λ f. f.state) c.put_line-put.ensures.result

  done_so : c.put_line-put.result.done ≡ is_done c.put_line-put.result.state.due
  done_so = ap (λ f. f.done) c.put_line-put.ensures.result ∙ ap (λ t. is_done t.due) (sym next_state)

  used_some : c.put_line-put.result.done ≡ false → 0 < c.put_line-put.result.used
  used_some e = rw next_used (line_some c.loop-out.state (sym (ap (λ t. is_done t.due) next_state) ∙ sym done_so ∙ e))

  grown : let l = c.loop-out in Grown c.args.self c.args.out.now (take l.used l.out ++ (c.put_line-put.new.out ++ drop (length l.out - l.used) (drop l.used l.out))) c.put_line-put.result.state (l.used + c.put_line-put.result.used)
  grown =
      let l = c.loop-out in
      rw (next_used, next_state) (grown_more l.invariant c.put_line-put.new.out (omega (arith, l.invariant.long)) (omega (arith, next_used, c.put_line-put.ensures.short, l.invariant.long)) c.put_line-put.ensures.front)

pub returns-then-put : goal.returns-then-put
returns-then-put c =
    let k = (goal.at.returns-then-put c).After-put_line-put in
    let g = grown k in
    let d : c.put_line-put.result.done ≡ true = search rules in
    record {
      long = g.long;
      inside = g.inside;
      text = g.text;
      rest = g.rest;
      all = λ e. done_left c.put_line-put.result.state (sym (done_so k) ∙ d);
      only = λ e. refl;
      full = λ e. absurd (true≢false e);
      short = g.short;
    }

pub loop-out-smaller : goal.loop-out-smaller
loop-out-smaller c =
    let k = (goal.at.loop-out-smaller c).After-put_line-put in
    let d : c.put_line-put.result.done ≡ false = search rules in
    let h = used_some k d in
    let g = grown k in
    omega (arith, g.inside)

pub loop-out-preserved : goal.loop-out-preserved
loop-out-preserved c = grown (goal.at.loop-out-preserved c).After-put_line-put

pub returns : goal.returns
returns c =
    let l = c.loop-out in
    record {
      long = l.invariant.long;
      inside = l.invariant.inside;
      text = l.invariant.text;
      rest = l.invariant.rest;
      all = λ e. done_left l.state (sym c.is_done.ensures ∙ e);
      only = λ e. c.is_done.ensures ∙ left_done l.state e;
      full = λ e. omega (arith, l.invariant.long);
      short = l.invariant.short;
    }
