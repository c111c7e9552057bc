-- What is claimed of an input that was read, and of a text that was handed on, holds.
use mathlib.Core.List.{◌++◌}
use mathlib.Core.Path.{ap, sym, ◌∙◌, ◌≡◌}
use Prim.Native.Nat.{min}
use native.Mathlib.Omega.{arith}
use lib.ListN.{drop, length, length-append, length-drop, length-take, take}
use lib.Seq.{take_at}
use Rattle.drawer_program.specs.Claims.{EachRead, TextHandedOn}
use Rattle.printing.proofs.Claims.{handed-printed}

pub each_read : EachRead
each_read input room =
    let got : length (take (length room) input) ≡ min (length input) (length room) = simp length-take (omega arith) in
    let long : length (take (length room) input ++ drop (length input) room) ≡ length room = simp (length-append, length-take, length-drop) (omega arith) in
    take_at (take (length room) input) (drop (length input) room) (min (length input) (length room)) got ∙ ap (λ k. take k input) (sym long)

pub text_handed_on : TextHandedOn
text_handed_on input s r e h = (handed-printed input h.bytes s r.state e h.pieces, λ t. h.all t ∙ e)
