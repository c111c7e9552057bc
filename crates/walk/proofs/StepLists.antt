-- Lists of steps, one after the other: their answers, the record handed back, and what no step changes of it.
use mathlib.Core.List.{List, [], map, ◌++◌, ◌∷◌}
use mathlib.Core.Path.{ap, refl, ◌∙◌, ◌≡◌}
use Prim.Native.Nat.{ℕ}
use Rattle.listing.specs.Listing.{Told}
use Rattle.listing.specs.Places.{placed}
use Rattle.walk.proofs.KeptRow.{Returns, none_of, refusal_of, ring_of, step_returns}
use Rattle.walk.specs.Moves.{Rules}
use Rattle.walk.specs.Step.{handed, step_due, step_of, told_by, walk_answers, walk_placed}
use Rattle.walk.specs.declared.Stepped.{Stepped}
use Rattle.walk.specs.declared.Walk.{Walk}

module _ (R : Rules) where
  pub handed-append : (w : Walk) (a b : List ℕ) → handed R w (a ++ b) ≡ handed R (handed R w a) b
  unfolding handed
  handed-append w [] b = refl
  handed-append w (x ∷ a) b = handed-append (step_of R w x).walk a b

  pub placed-append : (w : Walk) (a b : List ℕ) → walk_placed R w (a ++ b) ≡ walk_placed R w a ++ walk_placed R (handed R w a) b
  unfolding handed walk_placed
  placed-append w [] b = refl
  placed-append w (x ∷ a) b = let s = step_due R w x in ap (λ l. placed (told_by s) s.leaves ∷ l) (placed-append (step_of R w x).walk a b)

  pub answers-append : (w : Walk) (a b : List ℕ) → walk_answers R w (a ++ b) ≡ walk_answers R w a ++ walk_answers R (handed R w a) b
  unfolding handed walk_answers
  answers-append w [] b = refl
  answers-append w (x ∷ a) b = ap (λ l. told_by (step_due R w x) ∷ l) (answers-append (step_of R w x).walk a b)

  -- the answers without their places
  pub placed-told : (w : Walk) (a : List ℕ) → map (λ t. t.tells) (walk_placed R w a) ≡ walk_answers R w a
  unfolding walk_answers walk_placed
  placed-told w [] = refl
  placed-told w (x ∷ a) = ap (λ (l : List Told). told_by (step_due R w x) ∷ l) (placed-told (step_of R w x).walk a)

  -- n, d and kind stay
  pub step_sizes : (w : Walk) {r : Stepped} → Returns w r → (r.walk.n ≡ w.n) × (r.walk.d ≡ w.d) × (r.walk.kind ≡ w.kind)
  step_sizes w (ring_of row t) = (refl, refl, refl)
  step_sizes w (none_of k t) = (refl, refl, refl)
  step_sizes w (refusal_of r p row at t) = (refl, refl, refl)

  pub handed_sizes : (w : Walk) (a : List ℕ) → ((handed R w a).n ≡ w.n) × ((handed R w a).d ≡ w.d)
  unfolding handed
  handed_sizes w [] = (refl, refl)
  handed_sizes w (x ∷ a) =
      let s = step_sizes w (step_returns R w x) in
      let t = handed_sizes (step_of R w x).walk a in
      (t.0 ∙ s.0, t.1 ∙ s.1)
