-- The next line of a printing and what is left behind it are what was left.
use mathlib.Core.Bool.{Bool, cond, false, true}
use mathlib.Core.List.{List, [], append-nil, ◌++◌}
use mathlib.Core.Path.{ap, refl, sym, ◌∙◌, ◌≡◌}
use Prim.Native.Nat.{ℕ, ◌+◌, ◌<◌}
use native.Mathlib.Omega.{arith}
use lib.Dec.{leb, ltb}
use lib.ListN.{length}
use lib.Seq.{length-take-le}
use borrow.Author.Tests.{le-ltb, leb-false, leb-true, lt-ltb}
use Rattle.drawer_lines.specs.Lines.{end_line, refusal_text, ring_line}
use Rattle.listing.specs.Listing.{Listing, Said, entry, listing_step, over, refused, says, told}
use Rattle.printing.specs.Left.{highest64, left, left_at, line_left, lines_left, listing_of, rings_left, stopped}
use Rattle.printing.specs.InnerNextLine.{answer_next, next_at, next_of, ring_next, walk_next}
use Rattle.printing.specs.declared.Due.{Due}
use Rattle.printing.specs.declared.Due.TheVariants.{Done, Header, Refused, Rings}
use Rattle.printing.specs.declared.Printing.{Printing}
use Rattle.refusal.proofs.Numbers.{some_number}
use Rattle.refusal.specs.Verdicts.{most_stations}
use Rattle.walk.proofs.Invariant.{Fit, fit_sound}
use Rattle.walk.proofs.Simulation.{said_row, said_as, told_as}
use Rattle.walk.proofs.StepAgrees.{Agrees, step_agrees}
use Rattle.walk.specs.Fit.{fit}
use Rattle.walk.specs.Moves.{row_of, rules}
use Rattle.walk.specs.Step.{said_by, step_of}
use Rattle.std.specs.Prelude.{Err, Ok, Result}
use Rattle.refusal.specs.declared.Refusal.{Refusal}
use Rattle.walk.specs.declared.Answer.{Answer}
use Rattle.walk.specs.declared.Answer.TheVariants.{None, Ring}
use Rattle.walk.specs.declared.Stepped.{Stepped}
use Rattle.walk.specs.declared.Walk.{Walk}
use Rattle.words.specs.Rotation.{period}

-- what follows line k where a step says s, with its trials and `on` behind it
abbrev said_left : ℕ → Said → ℕ → List ℕ → List ℕ
said_left k (says l) p on = line_left k l p on
said_left k (refused c) p on = stopped

-- an answer's line, and what is left behind it
answer_left : (k : ℕ) (a : Result Answer Refusal) (v : Walk) (t : ℕ) → Fit rules v → (answer_next a k v t).line ++ left (answer_next a k v t).then ≡ said_left k (said_as a v) t (lines_left (k + 1) (listing_of v))
unfolding left rings_left
answer_left k (Ok Ring) v t f = go (ltb k highest64) ∙ ap (λ s. said_left k s t (lines_left (k + 1) (listing_of v))) (sym (said_row (row_of v) some))
  where
    some : 0 < length (row_of v)
    some = let s = fit_sound f in omega (arith, length-take-le v.n v.row (omega (arith, s.most, s.long)), s.some)

    go : (b : Bool) → (ring_next b k v t).line ++ left (ring_next b k v t).then ≡ cond b (ring_line (k + 1) (row_of v) (period (row_of v)) t ++ lines_left (k + 1) (listing_of v)) stopped
    go true = rw f.test
    go false = append-nil stopped
answer_left k (Ok None) v t f = append-nil (end_line t)
answer_left k (Err r) v t f =
    let e = (some_number r).1 in
    append-nil stopped ∙ ap (λ c. said_left k (said_by c []) t (lines_left (k + 1) (listing_of v))) (sym e)

module _ (k : ℕ) (w : Walk) (long : length w.row ≡ most_stations) where
  -- a step of a fit walk
  fit_next : fit rules w ≡ true → let x = walk_next w k in x.line ++ left x.then ≡ lines_left k (listing_of w)
  unfolding lines_left listing_step
  fit_next f = answer_left k r.answer r.walk r.trials agrees.fits ∙ go (listing_of w) refl
    where
      r : Stepped
      r = step_of rules w highest64

      agrees : Agrees rules w highest64 r
      agrees = step_agrees rules w highest64 (record { test = f; long = long })

      tells : told (said_as r.answer r.walk) r.trials ≡ (listing_step (listing_of w) highest64).tells
      tells = sym (told_as r.answer r.walk r.place r.trials) ∙ agrees.tells

      -- a step that is refused
      none_so : (c : ℕ) → said_as r.answer r.walk ≡ refused c → said_left k (said_as r.answer r.walk) r.trials (lines_left (k + 1) (listing_of r.walk)) ≡ stopped
      none_so c e = rw e

      go : (l : Listing) → listing_of w ≡ l → said_left k (said_as r.answer r.walk) r.trials (lines_left (k + 1) (listing_of r.walk)) ≡ lines_left k l
      go over e = none_so 20 (ap (λ t. t.said) (rw e at tells))
      go (entry s p rest) e = paid (leb p highest64) refl
        where
          paid : (b : Bool) → leb p highest64 ≡ b → said_left k (said_as r.answer r.walk) r.trials (lines_left (k + 1) (listing_of r.walk)) ≡ cond b (line_left k s p (lines_left (k + 1) rest)) stopped
          paid true h =
              let q = le-ltb highest64 p (leb-true p highest64 h) in
              let t = rw (e, q) at tells in
              let a : said_as r.answer r.walk ≡ says s = ap (λ t. t.said) t in
              let b : r.trials ≡ p = ap (λ t. t.trials) t in
              let l : listing_of r.walk ≡ rest = rw (e, q) at agrees.left in
              rw (a, b, l)
          paid false h =
              let q = lt-ltb highest64 p (leb-false p highest64 h) in
              none_so 21 (ap (λ t. t.said) (rw (e, q) at tells))

  -- a step of any walk
  rings_next : let x = walk_next w k in x.line ++ left x.then ≡ rings_left k w
  unfolding rings_left step_of left
  rings_next = go (fit rules w) refl
    where
      go : (b : Bool) → fit rules w ≡ b → let x = walk_next w k in x.line ++ left x.then ≡ cond (fit rules w) (lines_left k (listing_of w)) stopped
      go true e = fit_next e ∙ rw e
      go false e = rw e (append-nil stopped)

-- the next line of any printing
pub next_left : (s : Printing) → length s.walk.row ≡ most_stations → (next_of s).line ++ left (next_of s).then ≡ left s
unfolding next_of left
next_left s l = go s.due
  where
    go : (d : Due) → (next_at d s.number s.walk).line ++ left (next_at d s.number s.walk).then ≡ left_at d s.number s.walk
    go (Refused r) = append-nil (refusal_text r)
    go Header = refl
    go Rings = rings_next s.number s.walk l
    go Done = refl

-- rows keep their length
step_long : (w : Walk) → length w.row ≡ most_stations → length (step_of rules w highest64).walk.row ≡ most_stations
unfolding step_of
step_long w l = go (fit rules w) refl
  where
    go : (b : Bool) → fit rules w ≡ b → length (step_of rules w highest64).walk.row ≡ most_stations
    go true e = (step_agrees rules w highest64 (record { test = e; long = l })).fits.long
    go false e = rw e l

answer_walk : (a : Result Answer Refusal) (k : ℕ) (v : Walk) (t : ℕ) → (answer_next a k v t).then.walk ≡ v
answer_walk (Ok Ring) k v t = go (ltb k highest64)
  where
    go : (b : Bool) → (ring_next b k v t).then.walk ≡ v
    go true = refl
    go false = refl
answer_walk (Ok None) k v t = refl
answer_walk (Err r) k v t = refl

pub next_long : (s : Printing) → length s.walk.row ≡ most_stations → length (next_of s).then.walk.row ≡ most_stations
unfolding next_of
next_long s l = go s.due
  where
    go : (d : Due) → length (next_at d s.number s.walk).then.walk.row ≡ most_stations
    go (Refused c) = l
    go Header = l
    go Rings = ap (λ v. length v.row) (answer_walk (step_of rules s.walk highest64).answer s.number (step_of rules s.walk highest64).walk (step_of rules s.walk highest64).trials) ∙ step_long s.walk l
    go Done = l
