-- `necklace::inner::write_rotation` meets its contract: the tail stands at the front, and the head behind it.
use mathlib.Core.Path.{sym}
use native.Mathlib.Omega.{arith}
use Prim.Native.Nat.{◌-◌}
use lib.ListN.{drop, length, length-drop}
use lib.Seq.{take_all}
use Rattle.words.proofs.Front.{front_behind}
use Rattle.words.specs.Rotation.{rotation}
use Rattle.necklace.proofs.inner.write_rotation.Goals as goal

pub returns : goal.returns
unfolding rotation
returns c =
    let a = c.args in
    let size = length-drop a.j a.row.now in
    let tail = take_all (length a.row.now - a.j) (drop a.j a.row.now) (omega (arith, size)) in
    front_behind _ _ a.out.now _ _ _ (sym size) (rw tail at c.write_front.ensures) c.write_front-2.ensures
