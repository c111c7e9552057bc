-- A ring that a step gives is the row of a walk that stands at Given, so it is of the drawer and kind.
use mathlib.Core.Bool.{Bool, false, true}
use mathlib.Core.Path.{ap, refl, sym, ◌∙◌, ◌≡◌}
use Prim.Native.Nat.{suc, zero, ℕ}
use lib.Dec.{ltb}
use lib.ListN.{get_or}
use Rattle.density.specs.Necklaces.{is_necklace_of}
use Rattle.refusal.specs.declared.Refusal.{Refusal}
use Rattle.std.specs.Prelude.{Err, Ok, Result}
use Rattle.walk.proofs.Invariant.{Fit, fit_at_lem}
use Rattle.walk.specs.Fit.{fit, fit_at}
use Rattle.walk.specs.Moves.{Move, Rules, answer, down_move, found_move, free, gone_below, limit_move, move_at, row_of, trial, up_move}
use Rattle.walk.specs.Step.{after, enough, run, step_fit, step_of}
use Rattle.walk.specs.declared.Answer.{Answer}
use Rattle.walk.specs.declared.Answer.TheVariants.{None, Ring}
use Rattle.walk.specs.declared.Standing.{Standing}
use Rattle.walk.specs.declared.Standing.TheVariants.{Down, Ended, Given, Limit, Up}
use Rattle.walk.specs.declared.Walk.{Walk}
use Rattle.words.proofs.Booleans.{and→, clash}

none≢ring : {E : Type 0} → let none : Result Answer E = Ok None in none ≡ Ok Ring → ⊥
none≢ring e = clash (cc)

refused≢ring : {r : Refusal} → let refused : Result Answer Refusal = Err r in refused ≡ Ok Ring → ⊥
refused≢ring e = clash (cc)

-- a move that answers with a ring goes to Given
abbrev ToGiven : Move → Type 0
ToGiven (free v) = Ring ≡ Ring
ToGiven (trial v) = Ring ≡ Ring
ToGiven (answer a v) = a ≡ Ok Ring → v.at ≡ Given

limit_given : (b : Bool) (w : Walk) → ToGiven (limit_move b w)
limit_given true w = refl
limit_given false w = refl

down_given : (s q : ℕ) (w : Walk) → ToGiven (down_move s q w)
down_given zero q w = refl
down_given (suc s) q w = refl

found_given : (b : Bool) (w : Walk) → ToGiven (found_move b w)
found_given true w = λ e. refl
found_given false w = refl

up_given : (R : Rules) (b : Bool) (i : ℕ) (w : Walk) → ToGiven (up_move R b i w)
up_given R true i w = refl
up_given R false i w = found_given (R.of_kind w.kind (row_of w)) w

below_given : (d : ℕ) (w : Walk) → ToGiven (free (gone_below d w))
below_given zero w = refl
below_given (suc d) w = refl

move_given : (R : Rules) (s : Standing) (w : Walk) → ToGiven (move_at R s w)
unfolding move_at
move_given R Limit w = limit_given (is_necklace_of w.d (row_of w)) w
move_given R (Down zero) w = λ e. absurd (none≢ring e)
move_given R (Down (suc q)) w = down_given (get_or w.row q 0) q w
move_given R (Up zero) w = λ e. absurd (none≢ring e)
move_given R (Up (suc i)) w = up_given R (ltb i w.n) i w
move_given R Given w = below_given w.d w
move_given R Ended w = λ e. absurd (refused≢ring e)

-- where a run gives a ring
abbrev RunGiven : Rules → ℕ → Type 0
RunGiven R f = (k t : ℕ) (w : Walk) → (run R f k t w).answer ≡ Ok Ring → (run R f k t w).walk.at ≡ Given

run_given : (R : Rules) (f : ℕ) → RunGiven R f
unfolding run
run_given R zero = λ k t w e. absurd (refused≢ring e)
run_given R (suc f) = λ k t w. go k t w (move_at R w.at w) (move_given R w.at w) (run_given R f)
  where
    go : (k t : ℕ) (w : Walk) (m : Move) → ToGiven m → RunGiven R f → (after m k t w (run R f)).answer ≡ Ok Ring → (after m k t w (run R f)).walk.at ≡ Given
    go k t w (free v) h ih = ih k t v
    go zero t w (trial v) h ih = λ e. absurd (refused≢ring e)
    go (suc k) t w (trial v) h ih = ih k (suc t) v
    go k t w (answer a v) h ih = h

step_given : (R : Rules) (w : Walk) (a : ℕ) → (step_of R w a).answer ≡ Ok Ring → (step_of R w a).walk.at ≡ Given
unfolding step_of
step_given R w a = go (fit R w)
  where
    go : (b : Bool) → (step_fit R b w a).answer ≡ Ok Ring → (step_fit R b w a).walk.at ≡ Given
    go true = run_given R (enough w.n) a 0 w
    go false = λ e. absurd (refused≢ring e)

-- a fit walk at Given holds a necklace of its drawer
pub ring_member : (R : Rules) (w : Walk) (a : ℕ) → (step_of R w a).answer ≡ Ok Ring → Fit R (step_of R w a).walk → is_necklace_of (step_of R w a).walk.d (row_of (step_of R w a).walk) ≡ true
unfolding fit_at
ring_member R w a e f =
    let v = (step_of R w a).walk in
    (and→ (is_necklace_of v.d (row_of v)) (R.of_kind v.kind (row_of v)) (sym (ap (λ s. fit_at R s v) (step_given R w a e)) ∙ fit_at_lem f)).0
