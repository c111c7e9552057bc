-- A run with moves enough, move by move.
use mathlib.Core.Path.{refl, ◌≡◌}
use Prim.Native.Nat.{suc, zero, ℕ, ◌<◌, ◌≤◌}
use native.Mathlib.Omega.{arith}
use Rattle.walk.proofs.Fuel.{moves_enough}
use Rattle.walk.proofs.Invariant.{Fit}
use Rattle.walk.proofs.MovesKeep.{keeping}
use Rattle.walk.proofs.Simulation.{Keeps, keeps_answer, keeps_free, keeps_trial, run_same}
use Rattle.walk.specs.InnerCourse.{Good, size}
use Rattle.walk.specs.Moves.{Move, Rules, free, move_at, trial}
use Rattle.walk.specs.Step.{after, enough, run}
use Rattle.walk.specs.ToCome.{stands}
use Rattle.walk.specs.declared.Stepped.{Stepped}
use Rattle.walk.specs.declared.Walk.{Walk}

module _ (R : Rules) where
  abbrev pub Kept : Walk → Move → Type 0
  Kept w m = Keeps R (Good R) (Fit R) (stands R) size w m

  -- a run with moves enough
  abbrev pub onward : ℕ → ℕ → Walk → Stepped
  onward k t w = run R (enough w.n) k t w

  pub kept_free : {w v : Walk} → Kept w (free v) → Good R v × (size v < size w)
  kept_free (keeps_free g q l) = (g, l)

  pub kept_trial : {w v : Walk} → Kept w (trial v) → Good R v × (size v < size w)
  kept_trial (keeps_trial g f q l) = (g, l)

  -- one move, and then a run with moves enough
  same_after : (k t f : ℕ) (w : Walk) {m : Move} → Kept w m → size w ≤ f → after m k t w (run R f) ≡ after m k t w onward
  same_after k t f w (keeps_free {v = v} g q l) h = run_same R (Good R) (Fit R) (stands R) size (keeping R) f (enough v.n) k t v (omega arith) (moves_enough g) g
  same_after zero t f w (keeps_trial g e q l) h = refl
  same_after (suc k) t f w (keeps_trial {v = v} g e q l) h = run_same R (Good R) (Fit R) (stands R) size (keeping R) f (enough v.n) k (suc t) v (omega arith) (moves_enough g) g
  same_after k t f w (keeps_answer e p q) h = refl

  pub onward_move : (k t : ℕ) (w : Walk) → Good R w → onward k t w ≡ after (move_at R w.at w) k t w onward
  unfolding run
  onward_move k t w g = go (enough w.n) (moves_enough g)
    where
      go : (f : ℕ) → size w < f → run R f k t w ≡ after (move_at R w.at w) k t w onward
      go zero h = absurd (omega arith)
      go (suc f) h = same_after k t f w (keeping R w g) (omega arith)
