-- `pitches::write_pitches` meets its contract: k pitches are written, and the rest of the row gives the rest of them.
use mathlib.Core.List.{List, [], ◌∷◌}
use mathlib.Core.Path.{ap, refl, sym, ◌∙◌, ◌≡◌}
use Prim.Native.Nat.{suc, ℕ, ◌+◌, ◌-◌, ◌<◌, ◌≤◌}
use native.Mathlib.Numerals.{add-one}
use native.Mathlib.Omega.{arith}
use lib.ListN.{drop, drop_of_length-le, get_or, length, length-drop, length-set, set}
use lib.Seq.{drop-cons}
use borrow.Author.Rules.{rules}
use Rattle.pitches.proofs.Listing.{next_of, pitches_hole, pitches_zero}
use Rattle.pitches.specs.Pitches.{pitches_from, pitches_of_row}
use Rattle.words.proofs.Front.{front_all, front_turn}
use Rattle.pitches.proofs.write_pitches.Invariants.{Inv}
use Rattle.pitches.proofs.write_pitches.Goals as goal
use Rattle.pitches.proofs.write_pitches.Goals.{else-x-eq0, then-x-eq0}

pub loop-x-init : goal.loop-x-init
unfolding pitches_of_row
loop-x-init c = record { inside = search rules; some = search rules; few = search rules; upto = search rules; rest = refl; long = refl; front = refl }

module _ (w O out : List ℕ) (k p i : ℕ) (v : Inv w O out k p i) (room : length (pitches_of_row w) ≤ length O) (h : i < length w) where
  pitch_is : suc (p - 1) ≡ p
  pitch_is = omega (arith, v.some)

  from_here : drop k (pitches_of_row w) ≡ pitches_from (p - 1) (get_or w i 0 ∷ drop (suc i) w)
  from_here = v.rest ∙ ap (pitches_from (p - 1)) (drop-cons w i 0 h)

  -- at a hole a pitch is left
  pitch_left : (get_or w i 0 ≡ 0 → ⊥) → (k < length (pitches_of_row w)) × (get_or (pitches_of_row w) k 0 ≡ p) × (drop (suc k) (pitches_of_row w) ≡ pitches_from 0 (drop (suc i) w))
  pitch_left e = next_of (pitches_of_row w) k p (pitches_from 0 (drop (suc i) w)) (from_here ∙ pitches_hole (p - 1) (get_or w i 0) (drop (suc i) w) e ∙ rw pitch_is)

  zero_turn : get_or w i 0 ≡ 0 → Inv w O out k (p + 1) (i + 1)
  zero_turn e =
      let more : suc (p - 1) ≡ p + 1 - 1 = omega (arith, v.some) in
      record {
        inside = omega arith;
        some = omega arith;
        few = omega (arith, v.few);
        upto = v.upto;
        rest = from_here ∙ pitches_zero (p - 1) (get_or w i 0) (drop (suc i) w) e ∙ rw (more, add-one i);
        long = v.long;
        front = v.front;
      }

  hole_turn : (get_or w i 0 ≡ 0 → ⊥) → Inv w O (set out k p) (k + 1) 1 (i + 1)
  hole_turn e =
      let g = pitch_left e in
      record {
        inside = omega arith;
        some = omega arith;
        few = omega arith;
        upto = omega (arith, g.0);
        rest = rw (add-one k, add-one i) g.2;
        long = length-set out k p ∙ v.long;
        front = front_turn (pitches_of_row w) O out k p g.0 (omega (arith, g.0)) v.front (sym g.1);
      }

pub loop-x-preserved : goal.loop-x-preserved
loop-x-preserved c =
    let l = c.loop-x in
    let w = c.args.row.now in
    let O = c.args.out.now in
    let h : l.x-index < length w = omega arith in
    elim c.if-x-eq0.branch [ then-x-eq0 q ↦ rw (q.out-is, q.k-is, q.pitch-is) (zero_turn w O l.out l.k l.pitch l.x-index l.invariant c.requires h q.if-x-eq0.true) | else-x-eq0 q ↦ rw (q.out-is, q.k-is, q.pitch-is) (hole_turn w O l.out l.k l.pitch l.x-index l.invariant c.requires h q.if-x-eq0.false) ]

pub returns : goal.returns
unfolding pitches_from
returns c =
    let l = c.loop-x in
    let w = c.args.row.now in
    let O = c.args.out.now in
    let ended : length w ≤ l.x-index = omega arith in
    let done : drop l.k (pitches_of_row w) ≡ [] = l.invariant.rest ∙ ap (pitches_from (l.pitch - 1)) (drop_of_length-le w ended) in
    let all : l.k ≡ length (pitches_of_row w) = omega (arith, simp length-drop at (ap length done)) in
    record { count = all; buffer = front_all (pitches_of_row w) O l.out l.k all l.invariant.front }

pub bounds-out-k : goal.bounds-out-k
bounds-out-k c = omega (arith, (pitch_left c.args.row.now c.args.out.now c.loop-x.out c.loop-x.k c.loop-x.pitch c.loop-x.x-index c.loop-x.invariant c.requires (omega arith) c.if-x-eq0.false).0)

pub overflow_add-k : goal.overflow_add-k
overflow_add-k c = omega (arith, (pitch_left c.args.row.now c.args.out.now c.loop-x.out c.loop-x.k c.loop-x.pitch c.loop-x.x-index c.loop-x.invariant c.requires (omega arith) c.if-x-eq0.false).0)

pub shape_of-out : goal.shape_of-out
shape_of-out c = c.loop-x.invariant.long
