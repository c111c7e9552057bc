-- What a step does with the row kept, and the place that it carries: moves leave that row alone, the answer settles both. Where it stands
-- after an answer.
use mathlib.Core.Bool.{Bool, false, true}
use mathlib.Core.List.{List, [], ◌++◌, ◌∷◌}
use mathlib.Core.Path.{refl, ◌≡◌}
use Prim.Native.Nat.{suc, zero, ℕ}
use lib.Dec.{ltb}
use lib.ListN.{get_or, length, take}
use Rattle.density.specs.Necklaces.{begins, is_necklace_of}
use Rattle.refusal.specs.Refusals.{place_of}
use Rattle.refusal.specs.declared.Refusal.{Refusal}
use Rattle.refusal.specs.declared.Refusal.TheVariants.{Ended as HasEnded, Spent, Unfit}
use Rattle.std.specs.Prelude.{Err, Ok}
use Rattle.walk.specs.Fit.{fit}
use Rattle.walk.specs.Moves.{Move, Rules, answer, down_move, down_tried, found_move, free, gone_below, limit_move, move_at, moved, row_of, trial, up_move, up_tried}
use Rattle.walk.specs.Step.{after, run, step_fit, step_of, stepped}
use Rattle.walk.specs.declared.Answer.TheVariants.{None, Ring}
use Rattle.walk.specs.declared.Standing.{Standing}
use Rattle.walk.specs.declared.Standing.TheVariants.{Down, Ended, Given, Limit, Up}
use Rattle.walk.specs.declared.Stepped.{Stepped}
use Rattle.walk.specs.declared.Walk.{Walk}
use Rattle.words.specs.Symbols.{zeros}

-- where a move goes from w: to w with another row, standing elsewhere; after none it has ended
pub data Goes (w : Walk) : Move → Type 0 where
  goes_free : (row : List ℕ) (at : Standing) → Goes w (free (moved w row at))
  goes_trial : (row : List ℕ) (at : Standing) → Goes w (trial (moved w row at))
  to_ring : (row : List ℕ) → Goes w (answer (Ok Ring) (moved w row Given))
  to_none : (k : ℕ) → Goes w (answer (Ok None) (moved w (zeros k) Ended))
  to_refusal : (r : Refusal) → place_of r ≡ 0 → Goes w (answer (Err r) w)

-- what a step of w hands back
pub data Returns (w : Walk) : Stepped → Type 0 where
  ring_of : (row : List ℕ) (t : ℕ) → Returns w (stepped (moved w row Given) (Ok Ring) t)
  none_of : (k t : ℕ) → Returns w (stepped (moved w (zeros k) Ended) (Ok None) t)
  refusal_of : (r : Refusal) → place_of r ≡ 0 → (row : List ℕ) (at : Standing) (t : ℕ) → Returns w (stepped (moved w row at) (Err r) t)

module _ (R : Rules) where
  module _ (w : Walk) where
    limit_goes : (b : Bool) → Goes w (limit_move b w)
    limit_goes true = goes_free _ _
    limit_goes false = goes_free _ _

    down_goes : (s q : ℕ) → Goes w (down_move s q w)
    down_goes zero q = goes_free _ _
    down_goes (suc s) q = go (begins w.n w.d (take q w.row ++ (0 ∷ [])))
      where
        go : (b : Bool) → Goes w (trial (down_tried b q w))
        go true = goes_trial _ _
        go false = goes_trial _ _

    up_goes : (b : Bool) (i : ℕ) → Goes w (up_move R b i w)
    up_goes true i = go (begins w.n w.d (take i w.row ++ (1 ∷ [])))
      where
        go : (b : Bool) → Goes w (trial (up_tried b i w))
        go true = goes_trial _ _
        go false = goes_trial _ _
    up_goes false i = go (R.of_kind w.kind (row_of w))
      where
        go : (b : Bool) → Goes w (found_move b w)
        go true = to_ring _
        go false = goes_free _ _

    below_goes : (d : ℕ) → Goes w (free (gone_below d w))
    below_goes zero = goes_free _ _
    below_goes (suc d) = goes_free _ _

    goes : (s : Standing) → Goes w (move_at R s w)
    unfolding move_at
    goes Limit = limit_goes (is_necklace_of w.d (row_of w))
    goes (Down zero) = to_none (length w.row)
    goes (Down (suc q)) = down_goes (get_or w.row q 0) q
    goes (Up zero) = to_none (length w.row)
    goes (Up (suc i)) = up_goes (ltb i w.n) i
    goes Given = below_goes w.d
    goes Ended = to_refusal HasEnded refl

  -- after a move more
  earlier : {w : Walk} {row : List ℕ} {at : Standing} {r : Stepped} → Returns (moved w row at) r → Returns w r
  earlier (ring_of row t) = ring_of row t
  earlier (none_of k t) = none_of k t
  earlier (refusal_of r p row at t) = refusal_of r p row at t

  run_returns : (f k t : ℕ) (w : Walk) → Returns w (run R f k t w)
  unfolding run
  run_returns zero k t w = refusal_of Spent refl w.row w.at t
  run_returns (suc f) k t w = go k (goes w w.at) (run_returns f)
    where
      go : (k : ℕ) {m : Move} → Goes w m → ((k t : ℕ) (v : Walk) → Returns v (run R f k t v)) → Returns w (after m k t w (run R f))
      go k (goes_free row at) ih = earlier (ih k t (moved w row at))
      go zero (goes_trial row at) ih = refusal_of Spent refl w.row w.at t
      go (suc k) (goes_trial row at) ih = earlier (ih k (suc t) (moved w row at))
      go k (to_ring row) ih = ring_of row t
      go k (to_none z) ih = none_of z t
      go k (to_refusal r p) ih = refusal_of r p w.row w.at t

  pub step_returns : (w : Walk) (a : ℕ) → Returns w (step_of R w a)
  unfolding step_of
  step_returns w a = go (fit R w)
    where
      go : (b : Bool) → Returns w (step_fit R b w a)
      go true = run_returns _ a 0 w
      go false = refusal_of Unfit refl w.row w.at 0
