-- `bracelet::turned_key` meets its contract: the laws of Answers, at each return.
use mathlib.Core.List.{reverse}
use mathlib.Core.Path.{ap, sym, ◌∙◌}
use native.Mathlib.Omega.{arith}
use lib.ListN.{length-reverse}
use lib.Seq.{length-take-le}
use Rattle.bracelet.proofs.Answers.{found_sized, key_shelved, kept_room, turned_over, turned_plain, turned_refused}
use Rattle.bracelet.proofs.Parts.{reversed_part, reversed_room}
use Rattle.refusal.proofs.Outcomes.{handed_on}
use Rattle.words.proofs.LeastRotation.{least_index_lem}
use Rattle.words.specs.Rotation.{least_index}
use Rattle.bracelet.proofs.turned_key.Goals as goal

pub returns-in_err-key : goal.returns-in_err-key
returns-in_err-key c =
    let a = c.args in
    let k = c.key in
    let t = turned_refused a.row.now a.out.now _ k.result k.ensures.answer k.ensures.buffer _ c.in_err-key.was in
    record { answer = handed_on _ c.from_residual.ensures.1 ∙ t.0; buffer = t.1 }

pub slice_bounds-is_bracelet-end : goal.slice_bounds-is_bracelet-end
slice_bounds-is_bracelet-end c =
    let k = c.key in
    kept_room c.args.row.now c.args.out.now _ k.result k.ensures.answer k.ensures.buffer _ c.in_ok-key.was

pub slice_bounds-is_bracelet-end-2 : goal.slice_bounds-is_bracelet-end-2
slice_bounds-is_bracelet-end-2 c =
    let k = c.key in
    sym (length-take-le _ _ (kept_room c.args.row.now c.args.out.now _ k.result k.ensures.answer k.ensures.buffer _ c.in_ok-key.was))

pub is_bracelet-requires : goal.is_bracelet-requires
is_bracelet-requires c =
    let k = c.key in
    let s = key_shelved c.args.row.now c.args.out.now _ k.result k.ensures.answer k.ensures.buffer _ c.in_ok-key.was in
    (s.some, s.most, s.necklace)

pub returns-then-is_bracelet : goal.returns-then-is_bracelet
returns-then-is_bracelet c =
    let a = c.args in
    let k = c.key in
    let t = turned_plain a.row.now a.out.now _ k.result k.ensures.answer k.ensures.buffer _ c.in_ok-key.was (sym c.if-is_bracelet.true ∙ c.is_bracelet.ensures) in
    record { answer = t.0; buffer = t.1 }

pub write_reversed-requires : goal.write_reversed-requires
write_reversed-requires c =
    let k = c.key in
    (found_sized c.args.row.now c.args.out.now _ k.result k.ensures.answer k.ensures.buffer _ c.in_ok-key.was).most

pub slice_bounds-back-end : goal.slice_bounds-back-end
slice_bounds-back-end c = reversed_room c.args.row.now _ _ c.write_reversed.ensures

pub slice_bounds-over-end : goal.slice_bounds-over-end
slice_bounds-over-end c = sym (length-take-le _ _ (reversed_room c.args.row.now _ _ c.write_reversed.ensures))

pub least_rotation-least-requires : goal.least_rotation-least-requires
least_rotation-least-requires c =
    let row = c.args.row.now in
    let k = c.key in
    let n = found_sized row c.args.out.now _ k.result k.ensures.answer k.ensures.buffer _ c.in_ok-key.was in
    rw (reversed_part row _ _ c.write_reversed.ensures) (omega (arith, length-reverse row, n.some))

pub write_rotation-requires : goal.write_rotation-requires
write_rotation-requires c =
    let row = c.args.row.now in
    let k = c.key in
    let n = found_sized row c.args.out.now _ k.result k.ensures.answer k.ensures.buffer _ c.in_ok-key.was in
    let room = kept_room row c.args.out.now _ k.result k.ensures.answer k.ensures.buffer _ c.in_ok-key.was in
    let over = reversed_part row _ _ c.write_reversed.ensures in
    let size = length-reverse row in
    let i = (least_index_lem (reverse row) (omega (arith, size, n.some))).inside in
    rw over (omega (arith, i, c.least_rotation-least.ensures.0 ∙ ap least_index over), omega (arith, size, room))

pub returns : goal.returns
returns c =
    let a = c.args in
    let k = c.key in
    let over = reversed_part a.row.now _ _ c.write_reversed.ensures in
    let t = turned_over a.row.now a.out.now _ k.result k.ensures.answer k.ensures.buffer _ c.in_ok-key.was
    (sym c.if-is_bracelet.false ∙ c.is_bracelet.ensures) _ over _ c.least_rotation-least.ensures.0 _ c.write_rotation.ensures in
    record { answer = t.0; buffer = t.1 }
