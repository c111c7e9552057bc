-- `pitches::adds_up` meets its contract: the pitches to come add up to what is left exactly if all of them do to n.
use mathlib.Core.List.{List}
use mathlib.Core.Path.{◌≡◌}
use Prim.Native.Nat.{ℕ, ◌≤◌}
use lib.Dec.{eqb}
use lib.ListN.{drop, length}
use Rattle.pitches.specs.Pitches.{adds_up}
use Rattle.words.specs.Symbols.{sum}
use Rattle.pitches.proofs.adds_up.Given as goal

pub record Inv (n : ℕ) (pitches : List ℕ) (left k : ℕ) : Type 0 where
  pub inside : k ≤ length pitches
  pub rest : adds_up n pitches ≡ eqb (sum (drop k pitches)) left

abbrev pub invariant-loop-pitch : goal.invariant-loop-pitch
invariant-loop-pitch l = Inv l.n l.pitches l.left l.pitch-index
