-- No line is empty, and nothing is left exactly when the text is done.
use mathlib.Core.Bool.{Bool, cond, false, true, true≢false}
use mathlib.Core.List.{List, [], ◌++◌}
use mathlib.Core.Path.{ap, refl, sym, ◌≡◌}
use Prim.Native.Nat.{ℕ, ◌+◌, ◌<◌}
use native.Mathlib.Omega.{arith}
use lib.Dec.{leb, ltb}
use lib.ListN.{length, length-append}
use Rattle.drawer_lines.proofs.Filling.{end_length, refusal_length, ring-length}
use Rattle.drawer_lines.specs.Lines.{ring_line}
use Rattle.listing.specs.Listing.{Line, Listing, entry, none, over, ring}
use Rattle.printing.specs.Left.{highest64, left, left_at, line_left, lines_left, listing_of, rings_left, stopped}
use Rattle.printing.specs.InnerNextLine.{answer_next, is_done, next_at, next_of, ring_next}
use Rattle.printing.specs.declared.Due.{Due}
use Rattle.printing.specs.declared.Due.TheVariants.{Done, Header, Refused, Rings}
use Rattle.printing.specs.declared.Printing.{Printing}
use Rattle.refusal.specs.declared.Refusal.TheVariants.{Unfit}
use Rattle.walk.specs.Fit.{fit}
use Rattle.walk.specs.Moves.{row_of, rules}
use Rattle.walk.specs.Step.{step_of}
use Rattle.std.specs.Prelude.{Err, Ok, Result}
use Rattle.refusal.specs.declared.Refusal.{Refusal}
use Rattle.walk.specs.declared.Answer.{Answer}
use Rattle.walk.specs.declared.Answer.TheVariants.{None, Ring}
use Rattle.walk.specs.declared.Walk.{Walk}
use Rattle.words.specs.Rotation.{period}

not_both : {P : Type 0} → true ≡ false → P
not_both e = absurd (true≢false e)

ring_some : (k : ℕ) (row : List ℕ) (p t : ℕ) → 0 < length (ring_line k row p t)
ring_some k row p t = omega (arith, ring-length k row p t)

pub line_some : (s : Printing) → is_done (next_of s).then.due ≡ false → 0 < length (next_of s).line
unfolding next_of
line_some s = go s.due
  where
    ringed : (b : Bool) (v : Walk) (t : ℕ) → is_done (ring_next b s.number v t).then.due ≡ false → 0 < length (ring_next b s.number v t).line
    ringed true v t e = ring_some (s.number + 1) (row_of v) (period (row_of v)) t
    ringed false v t e = not_both e

    answered : (a : Result Answer Refusal) (v : Walk) (t : ℕ) → is_done (answer_next a s.number v t).then.due ≡ false → 0 < length (answer_next a s.number v t).line
    answered (Ok Ring) v t e = ringed (ltb s.number highest64) v t e
    answered (Ok None) v t e = not_both e
    answered (Err r) v t e = not_both e

    go : (d : Due) → is_done (next_at d s.number s.walk).then.due ≡ false → 0 < length (next_at d s.number s.walk).line
    go (Refused r) e = not_both e
    go Header e = omega arith
    go Rings e = answered (step_of rules s.walk highest64).answer (step_of rules s.walk highest64).walk (step_of rules s.walk highest64).trials e
    go Done e = not_both e

pub done_left : (s : Printing) → is_done s.due ≡ true → left s ≡ []
unfolding left
done_left s = go s.due
  where
    go : (d : Due) → is_done d ≡ true → left_at d s.number s.walk ≡ []
    go (Refused r) e = not_both (sym e)
    go Header e = not_both (sym e)
    go Rings e = not_both (sym e)
    go Done e = refl

stopped_some : 0 < length stopped
stopped_some = omega (arith, refusal_length Unfit)

lines_some : (k : ℕ) (l : Listing) → 0 < length (lines_left k l)
unfolding lines_left
lines_some k over = stopped_some
lines_some k (entry s p rest) = go (leb p highest64)
  where
    numbered : (b : Bool) (r : List ℕ) → 0 < length (cond b (ring_line (k + 1) r (period r) p ++ lines_left (k + 1) rest) stopped)
    numbered true r = omega (arith, length-append (ring_line (k + 1) r (period r) p) (lines_left (k + 1) rest), ring_some (k + 1) r (period r) p)
    numbered false r = stopped_some

    line : (s : Line) → 0 < length (line_left k s p (lines_left (k + 1) rest))
    line (ring r) = numbered (ltb k highest64) r
    line none = omega (arith, end_length p)

    go : (b : Bool) → 0 < length (cond b (line_left k s p (lines_left (k + 1) rest)) stopped)
    go true = line s
    go false = stopped_some

rings_some : (k : ℕ) (w : Walk) → 0 < length (rings_left k w)
unfolding rings_left
rings_some k w = go (fit rules w)
  where
    go : (b : Bool) → 0 < length (cond b (lines_left k (listing_of w)) stopped)
    go true = lines_some k (listing_of w)
    go false = stopped_some

pub left_done : (s : Printing) → left s ≡ [] → is_done s.due ≡ true
unfolding left
left_done s = go s.due
  where
    go : (d : Due) → left_at d s.number s.walk ≡ [] → is_done d ≡ true
    go (Refused r) e = absurd (omega (arith, refusal_length r, ap length e))
    go Header e = absurd (omega (arith, ap length e))
    go Rings e = absurd (omega (arith, rings_some s.number s.walk, ap length e))
    go Done e = refl
