-- `pitches::write_row` meets its contract: k blocks are written, and zeros behind them.
use mathlib.Core.Bool.{true}
use mathlib.Core.List.{List, [], ◌++◌, ◌∷◌}
use mathlib.Core.Path.{ap, refl, sym, ◌∙◌, ◌≡◌}
use Prim.Native.Nat.{zero-le, ℕ, ◌+◌, ◌-◌, ◌<◌, ◌≤◌}
use native.Mathlib.Nat.{add-zero, sub-zero}
use native.Mathlib.Numerals.{add-one}
use native.Mathlib.Omega.{arith}
use lib.ListN.{drop, get_or, length, length-append, length-drop, length-replicate, length-set, set, take}
use lib.Seq.{drop_at, take_all, take-nil}
use Rattle.density.specs.Blocks.{blocks}
use Rattle.pitches.proofs.Blocks.{block_next, hole_behind}
use Rattle.pitches.proofs.Positive.{Positive, no_zero, positive_at}
use Rattle.pitches.proofs.RoundTrip.{row_length}
use Rattle.pitches.proofs.Sums.{adds→, sum_end, sum_on}
use Rattle.pitches.specs.Pitches.{adds_up, row_of_pitches}
use Rattle.words.proofs.Zeros.{zeros-length}
use Rattle.words.specs.Buffers.{fronted}
use Rattle.words.specs.Symbols.{zeros}
use Rattle.pitches.proofs.write_row.Invariants.{Inv}
use Rattle.pitches.proofs.write_row.Goals as goal

start : (n : ℕ) (pitches O : List ℕ) → adds_up n pitches ≡ true → n ≤ length O → O ≡ zeros n ++ drop n O → Inv n pitches O O 0 0
unfolding blocks
start n pitches O f r e = record {
  inside = zero-le;
  at = refl;
  left = λ h. rw add-zero (adds→ n pitches f h);
  room = r;
  long = refl;
  holds = rw sub-zero e;
}

module _ (n : ℕ) (pitches O out : List ℕ) (place k : ℕ) (v : Inv n pitches O out place k) (h : k < length pitches) (p : Positive pitches) where
  -- the pitch has its hole, and lies within the row
  within : (0 < get_or pitches k 0) × (place + get_or pitches k 0 ≤ n)
  within = (positive_at p k h, omega (arith, v.left (omega arith), sum_on pitches k h))

  turn : Inv n pitches O (set out (place + get_or pitches k 0 - 1) 1) (place + get_or pitches k 0) (k + 1)
  turn =
      let g : ℕ = get_or pitches k 0 - 1 in
      let b = blocks (take k pitches) in
      let hole : length b + g ≡ place + get_or pitches k 0 - 1 = omega (arith, within, v.at) in
      let left_over : n - place - (g + 1) ≡ n - (place + get_or pitches k 0) = omega (arith, within) in
      let next = block_next pitches k h within.0 in
      record {
        inside = omega arith;
        at = rw (add-one, next) (omega (arith, within, length-append b (zeros g ++ (1 ∷ [])), length-append (zeros g) (1 ∷ []), zeros-length g, v.at));
        left = λ q. rw (add-one k) (omega (arith, v.left q, sum_on pitches k h));
        room = v.room;
        long = length-set out (place + get_or pitches k 0 - 1) 1 ∙ v.long;
        holds = rw (add-one k, next, ← left_over, ← hole) (ap (λ w. set w (length b + g) 1) v.holds ∙ hole_behind b (drop n O) (n - place) g (omega (arith, within)));
      }

-- all blocks are written
finish : (n : ℕ) (pitches O out : List ℕ) (place k : ℕ) → Inv n pitches O out place k → length pitches ≤ k → out ≡ row_of_pitches n pitches ++ drop n O
unfolding row_of_pitches blocks
finish n [] O out place k v h =
    let none-taken : take k [] ≡ [] = take-nil {A = ℕ} k in
    let start-at : place ≡ 0 = sym v.at ∙ ap (λ w. length (blocks w)) none-taken in
    v.holds ∙ rw (none-taken, start-at, sub-zero)
finish n (p ∷ pitches) O out place k v h =
    let full : n - place ≡ 0 = omega (arith, v.left (omega arith), sum_end (p ∷ pitches) k h) in
    v.holds ∙ rw (take_all k (p ∷ pitches) h, full)

-- ---- the buffer after the zeros, X, which held O

module _ (n : ℕ) (O X : List ℕ) (e : X ≡ fronted (zeros n) O) (r : n ≤ length O) where
  behind : drop n X ≡ drop n O
  behind = ap (drop n) e ∙ rw zeros-length (drop_at (zeros n) (drop n O) n (zeros-length n))

  cleared : X ≡ zeros n ++ drop n X
  cleared = e ∙ rw (zeros-length, behind)

  cleared_length : length X ≡ length O
  cleared_length = ap length e ∙ rw (length-append, length-drop, length-replicate) (omega arith)

pub loop-pitch-init : goal.loop-pitch-init
loop-pitch-init c =
    let O = c.args.out.now in
    let n = c.args.n in
    let e = c.clear.ensures in
    start n c.args.pitches.now _ c.requires.pitches_value_2 (omega (arith, cleared_length n O _ e c.requires.n_in_bounds)) (cleared n O _ e c.requires.n_in_bounds)

pub loop-pitch-preserved : goal.loop-pitch-preserved
loop-pitch-preserved c =
    let l = c.loop-pitch in
    turn c.args.n c.args.pitches.now _ l.out l.place l.pitch-index l.invariant (omega arith) (no_zero _ c.requires.pitches_value)

pub shape_of-out : goal.shape_of-out
shape_of-out c =
    c.loop-pitch.invariant.long ∙ cleared_length c.args.n c.args.out.now _ c.clear.ensures c.requires.n_in_bounds

pub returns : goal.returns
returns c =
    let l = c.loop-pitch in
    let n = c.args.n in
    let pitches = c.args.pitches.now in
    finish n pitches _ l.out l.place l.pitch-index l.invariant (omega arith)
    ∙ ap (λ w. row_of_pitches n pitches ++ w) (behind n c.args.out.now _ c.clear.ensures c.requires.n_in_bounds)
    ∙ rw (row_length n pitches c.requires.pitches_value_2)

pub overflow_add-place : goal.overflow_add-place
overflow_add-place c = omega (arith, within c.args.n c.args.pitches.now _ c.loop-pitch.out c.loop-pitch.place c.loop-pitch.pitch-index c.loop-pitch.invariant (omega arith) (no_zero _ c.requires.pitches_value))

pub overflow_sub-out : goal.overflow_sub-out
overflow_sub-out c = omega (arith, within c.args.n c.args.pitches.now _ c.loop-pitch.out c.loop-pitch.place c.loop-pitch.pitch-index c.loop-pitch.invariant (omega arith) (no_zero _ c.requires.pitches_value))

pub bounds-out-place : goal.bounds-out-place
bounds-out-place c = omega (arith, within c.args.n c.args.pitches.now _ c.loop-pitch.out c.loop-pitch.place c.loop-pitch.pitch-index c.loop-pitch.invariant (omega arith) (no_zero _ c.requires.pitches_value))
