-- "A step moves until it has an answer, or a trial is due and the allowance is used up."
use Rattle.std.specs.Prelude.{Bool, true, false, List, [], ◌∷◌, ℕ, zero, suc, ◌+◌, ◌*◌, ◌^◌, length, Result, Ok, Err}
use Rattle.words.specs.Difference.{first_difference}
use Rattle.words.specs.Symbols.{zeros}
use Rattle.refusal.specs.declared.Refusal.{Refusal}
use Rattle.refusal.specs.declared.Refusal.TheVariants.{Spent, Unfit}
use Rattle.refusal.specs.Refusals.{number_of, place_of}
use Rattle.walk.specs.declared.Walk.{Walk}
use Rattle.walk.specs.declared.Answer.{Answer}
use Rattle.walk.specs.declared.Answer.TheVariants.{Ring, None}
use Rattle.walk.specs.declared.Stepped.{Stepped}
use Rattle.walk.specs.Moves.{Rules, Move, free, trial, answer, kept_of, move_at, row_of}
use Rattle.walk.specs.Fit.{fit}
use Rattle.listing.specs.Listing.{Said, says, ring, none, refused, Told, told}
use Rattle.listing.specs.Places.{Placed, placed}

-- ---- the answer, and the row kept

-- the place that an answer carries: where a ring first differs from the row kept, and 0 else
abbrev pub leaves : Result Answer Refusal → Walk → ℕ
leaves (Ok Ring) w = first_difference (kept_of w) (row_of w)
leaves (Ok None) w = 0
leaves (Err r) w = 0

-- "A ring given is measured against it and then replaces it. None carries 0 and makes the kept row zeros."
abbrev pub keeps : Result Answer Refusal → Walk → List ℕ
keeps (Ok Ring) w = w.row
keeps (Ok None) w = zeros (length w.kept)
keeps (Err r) w = w.kept

-- the walk after an answer
abbrev pub answered : Result Answer Refusal → Walk → Walk
answered a w = record { n = w.n; d = w.d; kind = w.kind; row = w.row; at = w.at; kept = keeps a w }

-- what a step hands back that has come to w and answers so, after t trials
abbrev pub stepped : Walk → Result Answer Refusal → ℕ → Stepped
stepped w a t = record { walk = answered a w; answer = a; place = leaves a w; trials = t }

-- ---- the moves

-- one move, with k trials allowed and t made; `on` takes the walk further
abbrev pub after : Move → ℕ → ℕ → Walk → (ℕ → ℕ → Walk → Stepped) → Stepped
after (free v) k t w on = on k t v
after (trial v) zero t w on = stepped w (Err Spent) t
after (trial v) (suc k) t w on = on k (suc t) v
after (answer a v) k t w on = stepped v a t

-- at most f moves
unfoldable pub run : Rules → ℕ → ℕ → ℕ → Walk → Stepped
run R zero k t w = stepped w (Err Spent) t
run R (suc f) k t w = after (move_at R w.at w) k t w (run R f)

-- More moves than a step ever makes: at most 2 ^ n rows are to come, and fewer than 2 n + 4 moves lie between two of them.
unfoldable pub enough : ℕ → ℕ
enough n = (2 ^ n + 2) * (2 * n + 4)

-- "Checking a record for 22 counts no trial." After 22 the walk comes back as handed in.
abbrev pub step_fit : Rules → Bool → Walk → ℕ → Stepped
step_fit R true w a = run R (enough w.n) a 0 w
step_fit R false w a = stepped w (Err Unfit) 0

unfoldable pub step_of : Rules → Walk → ℕ → Stepped
step_of R w a = step_fit R (fit R w) w a

-- ---- what is still needed

-- one move, and what `on` needs further
abbrev pub needed_by : Move → (Walk → ℕ) → ℕ
needed_by (free v) on = on v
needed_by (trial v) on = suc (on v)
needed_by (answer a v) on = 0

-- at most f moves
unfoldable pub needed_in : Rules → ℕ → Walk → ℕ
needed_in R zero w = 0
needed_in R (suc f) w = needed_by (move_at R w.at w) (needed_in R f)

-- the trials that a walk's moves make until an answer
unfoldable pub trials_needed : Rules → Walk → ℕ
trials_needed R w = needed_in R (enough w.n) w

-- ---- document 01's numbers

-- a refusal's number, 0 for none, and its place; the ring's row, empty where no ring is given, and the place that it carries; the trials
pub record StepNumbers : Type 0 where
  pub number : ℕ
  pub place : ℕ
  pub row : List ℕ
  pub leaves : ℕ
  pub trials : ℕ

-- the numbers of each case of the answer: "each step returns the number [of trials] it made", refused or not
abbrev pub answer_numbers : Result Answer Refusal → Walk → ℕ → ℕ → StepNumbers
answer_numbers (Ok Ring) w p t = record { number = 0; place = 0; row = row_of w; leaves = p; trials = t }
answer_numbers (Ok None) w p t = record { number = 0; place = 0; row = []; leaves = p; trials = t }
answer_numbers (Err r) w p t = record { number = number_of r; place = place_of r; row = []; leaves = p; trials = t }

abbrev pub step_numbers : Stepped → StepNumbers
step_numbers s = answer_numbers s.answer s.walk s.place s.trials

-- the numbers that are due
abbrev pub step_due : Rules → Walk → ℕ → StepNumbers
step_due R w a = step_numbers (step_of R w a)

-- ---- the answers to a list of steps, each on the walk that the last returned

-- what the numbers say, in the book's terms: "row, none, 20 or 21"
abbrev pub said_by : ℕ → List ℕ → Said
said_by zero [] = says none
said_by zero (x ∷ row) = says (ring (x ∷ row))
said_by (suc c) row = refused (suc c)

abbrev pub told_by : StepNumbers → Told
told_by s = told (said_by s.number s.row) s.trials

unfoldable pub walk_answers : Rules → Walk → List ℕ → List Told
walk_answers R w [] = []
walk_answers R w (a ∷ more) = told_by (step_due R w a) ∷ walk_answers R (step_of R w a).walk more

-- the same, each with the place that it carries
unfoldable pub walk_placed : Rules → Walk → List ℕ → List Placed
walk_placed R w [] = []
walk_placed R w (a ∷ more) = let s = step_due R w a in placed (told_by s) s.leaves ∷ walk_placed R (step_of R w a).walk more

-- the record that the last of these steps handed back
unfoldable pub handed : Rules → Walk → List ℕ → Walk
handed R w [] = w
handed R w (a ∷ more) = handed R (step_of R w a).walk more
