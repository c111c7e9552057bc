-- "A walk, trial by trial": its moves. A trial asks the definition `begins`.
-- Within a step a walk may also stand at Down 0, where none is left, and at Up (n + 1), where the row is found.
use Rattle.std.specs.Prelude.{Bool, true, false, List, [], ◌∷◌, ◌++◌, ℕ, zero, suc, ◌-◌, length, get_or, take, set, ltb, Result, Ok, Err}
use Rattle.words.specs.Symbols.{zeros}
use Rattle.refusal.specs.declared.Refusal.{Refusal}
use Rattle.refusal.specs.declared.Refusal.TheVariants.{Ended as HasEnded}
use Rattle.refusal.specs.Verdicts.{most_stations}
use Rattle.density.specs.Necklaces.{is_necklace_of, is_kind, of_kind, begins}
use Rattle.walk.specs.declared.Standing.{Standing}
use Rattle.walk.specs.declared.Standing.TheVariants.{Limit, Down, Up, Given, Ended}
use Rattle.walk.specs.declared.Walk.{Walk}
use Rattle.walk.specs.declared.Answer.{Answer}
use Rattle.walk.specs.declared.Answer.TheVariants.{Ring, None}

-- what a walk takes from outside: the most stations, which kinds there are, and which shelved rows are of a kind
pub record Rules : Type 0 where
  pub most : ℕ
  pub known : ℕ → Bool
  pub of_kind : ℕ → List ℕ → Bool

-- those of document 01
abbrev pub rules : Rules
rules = record { most = most_stations; known = is_kind; of_kind = of_kind }

-- a move is free, makes a trial, or answers
pub data Move : Type 0 where
  free : Walk → Move
  trial : Walk → Move
  answer : Result Answer Refusal → Walk → Move

-- the walk with another row, standing elsewhere; the row kept stays
abbrev pub moved : Walk → List ℕ → Standing → Walk
moved w row at = record { n = w.n; d = w.d; kind = w.kind; row = row; at = at; kept = w.kept }

-- its row, without what lies after place n
abbrev pub row_of : Walk → List ℕ
row_of w = take w.n w.row

-- the row kept, likewise: the one that the next ring is measured from
abbrev pub kept_of : Walk → List ℕ
kept_of w = take w.n w.kept

-- "Limit: a row in drawer (n, d) is found; otherwise Down n."
abbrev pub limit_move : Bool → Walk → Move
limit_move true w = free (moved w w.row (Up (suc w.n)))
limit_move false w = free (moved w w.row (Down w.n))

-- Down p, where p is q + 1. "Yes sets symbol p to 0 and goes to Up p+1; no goes to Down p-1."
abbrev pub down_tried : Bool → ℕ → Walk → Walk
down_tried true q w = moved w (set w.row q 0) (Up (suc (suc q)))
down_tried false q w = moved w w.row (Down q)

-- "If symbol p is 0, Down p-1, free. If it is 1, try the first p-1 symbols and then 0."
abbrev pub down_move : ℕ → ℕ → Walk → Move
down_move zero q w = free (moved w w.row (Down q))
down_move (suc s) q w = trial (down_tried (begins w.n w.d (take q w.row ++ (0 ∷ []))) q w)

-- Up p, where p is i + 1. "Symbol p becomes 1 on yes, 0 on no. Up p+1."
abbrev pub up_tried : Bool → ℕ → Walk → Walk
up_tried true i w = moved w (set w.row i 1) (Up (suc (suc i)))
up_tried false i w = moved w (set w.row i 0) (Up (suc (suc i)))

-- "Found: in kind 2 with period below n, go on below. Otherwise the row is the answer and the walk stands at Given."
-- Going on below starts from Given.
abbrev pub found_move : Bool → Walk → Move
found_move true w = answer (Ok Ring) (moved w w.row Given)
found_move false w = free (moved w w.row Given)

-- "At p = n+1 the row is found. Else try the first p-1 symbols and then 1."
abbrev pub up_move : Rules → Bool → ℕ → Walk → Move
up_move R true i w = trial (up_tried (begins w.n w.d (take i w.row ++ (1 ∷ []))) i w)
up_move R false i w = found_move (R.of_kind w.kind (row_of w)) w

-- "Going on below .. with d = 0, none; else the last symbol becomes 0 and the walk is at Down n."
abbrev pub gone_below : ℕ → Walk → Walk
gone_below zero w = moved w w.row (Down 0)
gone_below (suc d) w = moved w (set w.row (w.n - 1) 0) (Down w.n)

-- "None: answered one time, the row becomes zeros, the walk is Ended."
abbrev pub ended : Walk → Walk
ended w = moved w (zeros (length w.row)) Ended

-- the move of a walk that stands at a place
unfoldable pub move_at : Rules → Standing → Walk → Move
move_at R Limit w = limit_move (is_necklace_of w.d (row_of w)) w
move_at R (Down zero) w = answer (Ok None) (ended w)
move_at R (Down (suc q)) w = down_move (get_or w.row q 0) q w
move_at R (Up zero) w = answer (Ok None) (ended w)
move_at R (Up (suc i)) w = up_move R (ltb i w.n) i w
move_at R Given w = free (gone_below w.d w)
move_at R Ended w = answer (Err HasEnded) w
