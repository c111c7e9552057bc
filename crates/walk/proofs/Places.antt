-- Over every list of steps, the places that a fit walk's answers carry are those worked out from the answers and the row that it kept.
use mathlib.Core.List.{List, [], ◌∷◌}
use mathlib.Core.Logic.{inl, inr, ◌⊎◌}
use mathlib.Core.Path.{refl, sym, ◌∙◌, ◌≡◌}
use Prim.Native.Nat.{ℕ, ◌<◌}
use native.Mathlib.Omega.{arith}
use lib.ListN.{length}
use lib.Seq.{length-take-le}
use Rattle.listing.specs.Listing.{Said, listing_answers, listing_step, over}
use Rattle.listing.specs.Places.{kept_then, place_from, places_from}
use Rattle.refusal.proofs.Numbers.{some_number}
use Rattle.walk.proofs.Invariant.{Fit, fit_sound}
use Rattle.walk.proofs.KeptRow.{Returns, none_of, refusal_of, ring_of, step_returns}
use Rattle.walk.proofs.Simulation.{said_row}
use Rattle.walk.proofs.StepAgrees.{Agrees, ended_stands, ended_step, step_agrees}
use Rattle.walk.specs.Claims.{KeptBy, KeptStep}
use Rattle.walk.specs.Moves.{Rules, kept_of, row_of, rules}
use Rattle.walk.specs.Step.{step_numbers, step_of, told_by, walk_placed}
use Rattle.walk.specs.ToCome.{stands}
use Rattle.walk.specs.declared.Standing.TheVariants.{Ended}
use Rattle.walk.specs.declared.Stepped.{Stepped}
use Rattle.walk.specs.declared.Walk.{Walk}

-- ---- one step of any record

pub kept_step : KeptStep
kept_step w a = go (step_returns rules w a)
  where
    go : {r : Stepped} → Returns w r → KeptBy r.answer w r
    go (ring_of row t) = (refl, refl)
    go (none_of k t) = (refl, refl)
    go (refusal_of x p row at t) = (refl, refl)

-- ---- one step of a fit record, in the book's terms

abbrev said_of : Stepped → Said
said_of r = (told_by (step_numbers r)).said

-- a row of a fit record is not empty
some_row : {R : Rules} {w : Walk} → Fit R w → 0 < length (row_of w)
some_row {w = w} f = let s = fit_sound f in omega (arith, length-take-le w.n w.row (omega (arith, s.most, s.long)), s.some)

module _ {R : Rules} {w : Walk} where
  -- the place carried
  carried : {r : Stepped} → Returns w r → Fit R r.walk → (step_numbers r).leaves ≡ place_from (kept_of w) (said_of r)
  carried (ring_of row t) f = rw (said_row _ (some_row f))
  carried (none_of k t) f = refl
  carried (refusal_of x p row at t) f = rw (some_number x).1

  -- the row kept then, if anything follows
  kept_then_lem : {r : Stepped} → Returns w r → Fit R r.walk → (kept_of r.walk ≡ kept_then (kept_of w) (said_of r)) ⊎ (r.walk.at ≡ Ended)
  kept_then_lem (ring_of row t) f = inl (rw (said_row _ (some_row f)))
  kept_then_lem (none_of k t) f = inr refl
  kept_then_lem (refusal_of x p row at t) f = inl (rw (some_number x).1)

-- ---- a list of steps

module _ (R : Rules) where
  -- an ended walk carries 0, whatever is kept
  ended_placed : (w : Walk) → Fit R w → w.at ≡ Ended → (kept : List ℕ) (steps : List ℕ) → walk_placed R w steps ≡ places_from kept (listing_answers over steps)
  unfolding walk_placed places_from listing_answers listing_step
  ended_placed w f e kept [] = refl
  ended_placed w f e kept (a ∷ more) = rw (ended_step R w a f e, ended_placed w f e kept more)

  abbrev Places : List ℕ → Type 0
  Places steps = (w : Walk) → Fit R w → walk_placed R w steps ≡ places_from (kept_of w) (listing_answers (stands R w) steps)

  pub answers-placed : (steps : List ℕ) → Places steps
  unfolding walk_placed places_from listing_answers
  answers-placed [] w f = refl
  answers-placed (a ∷ more) w f = rw (sym s.tells, carried q s.fits, rest (answers-placed more) (kept_then_lem q s.fits))
    where
      r : Stepped
      r = step_of R w a

      s : Agrees R w a r
      s = step_agrees R w a f

      q : Returns w r
      q = step_returns R w a

      rest : Places more → (kept_of r.walk ≡ kept_then (kept_of w) (said_of r)) ⊎ (r.walk.at ≡ Ended)
          → walk_placed R r.walk more ≡ places_from (kept_then (kept_of w) (said_of r)) (listing_answers (listing_step (stands R w) a).left more)
      rest ih (inl e) = ih r.walk s.fits ∙ rw (e, s.left)
      rest ih (inr e) = ended_placed r.walk s.fits e (kept_then (kept_of w) (said_of r)) more ∙ rw (sym s.left, ended_stands R r.walk e)
