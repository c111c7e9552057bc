-- `pitches::write_pitches` meets its contract: k pitches are written, and the rest of the row gives the rest of them.
use mathlib.Core.List.{List}
use mathlib.Core.Path.{◌≡◌}
use Prim.Native.Nat.{ℕ, ◌+◌, ◌-◌, ◌<◌, ◌≤◌}
use lib.ListN.{drop, length}
use Rattle.pitches.specs.Pitches.{pitches_from, pitches_of_row}
use Rattle.words.proofs.Front.{Front}
use Rattle.pitches.proofs.write_pitches.Given as goal

-- p - 1 plain stations were passed since the last hole
pub record Inv (w O out : List ℕ) (k p i : ℕ) : Type 0 where
  pub inside : i ≤ length w
  pub some : 0 < p
  pub few : p ≤ i + 1
  pub upto : k ≤ length (pitches_of_row w)
  pub rest : drop k (pitches_of_row w) ≡ pitches_from (p - 1) (drop i w)
  pub long : length out ≡ length O
  pub front : Front (pitches_of_row w) O k out

abbrev pub invariant-loop-x : goal.invariant-loop-x
invariant-loop-x l = Inv l.row l.initial.out l.out l.k l.pitch l.x-index
