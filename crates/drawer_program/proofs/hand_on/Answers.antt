-- `drawer_program::hand_on` meets its contract: each piece takes from what is left to print, and leaves less.
use mathlib.Core.Bool.{false≢true, true}
use mathlib.Core.List.{List, [], append-nil, ◌++◌}
use mathlib.Core.Path.{ap, sym, ◌∙◌, ◌≡◌}
use Prim.Native.Nat.{ℕ}
use lib.ListN.{take}
use borrow.Author.Rules.{rules}
use Rattle.printing.proofs.Claims.{handed_left}
use Rattle.printing.specs.Left.{left}
use Rattle.printing.specs.Pieces.{Fills, nothing, piece}
use Rattle.printing.specs.declared.Filled.{Filled}
use Rattle.printing.specs.declared.Printing.{Printing}
use Rattle.drawer_program.proofs.hand_on.Invariants.{Going}
use Rattle.drawer_program.proofs.hand_on.Goals as goal

-- a piece more
further : {s t : Printing} {before after : List ℕ} {f : Filled} → Going s t before → Fills t before after f → Going s f.state after
further {after = after} {f = f} g h =
    record { room = h.long ∙ g.room; bytes = g.bytes ++ take f.used after; pieces = piece g.pieces h }

-- the last piece
whole : {s t : Printing} {out : List ℕ} (g : Going s t out) → left t ≡ [] → g.bytes ≡ left s
whole g e = sym (append-nil g.bytes) ∙ ap (λ x. g.bytes ++ x) (sym e) ∙ handed_left g.pieces

pub loop-out-init : goal.loop-out-init
loop-out-init c = record { room = sym c.buffer-out.ensures; bytes = []; pieces = nothing }

pub returns-then-not-write_all : goal.returns-then-not-write_all
returns-then-not-write_all c =
    let g = further c.loop-out.invariant c.fill-filled.ensures in
    record { bytes = g.bytes; pieces = g.pieces; all = λ e. absurd (false≢true e) }

pub returns-then-filled : goal.returns-then-filled
returns-then-filled c =
    let g = further c.loop-out.invariant c.fill-filled.ensures in
    let d : c.fill-filled.result.done ≡ true = search rules in
    record { bytes = g.bytes; pieces = g.pieces; all = λ e. whole g (c.fill-filled.ensures.all d) }

pub loop-out-preserved : goal.loop-out-preserved
loop-out-preserved c = further c.loop-out.invariant c.fill-filled.ensures
