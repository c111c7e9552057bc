-- `pitches::write_row` meets its contract: k blocks are written, and zeros behind them.
use mathlib.Core.List.{List, ◌++◌}
use mathlib.Core.Path.{◌≡◌}
use Prim.Native.Nat.{ℕ, ◌+◌, ◌-◌, ◌<◌, ◌≤◌}
use lib.ListN.{drop, length, take}
use Rattle.density.specs.Blocks.{blocks}
use Rattle.words.specs.Symbols.{sum, zeros}
use Rattle.pitches.proofs.write_row.Given as goal

-- O is what the buffer held as the first block was due
pub record Inv (n : ℕ) (pitches O out : List ℕ) (place k : ℕ) : Type 0 where
  pub inside : k ≤ length pitches
  pub at : length (blocks (take k pitches)) ≡ place
  pub left : 0 < length pitches → sum (drop k pitches) + place ≡ n
  pub room : n ≤ length O
  pub long : length out ≡ length O
  pub holds : out ≡ blocks (take k pitches) ++ (zeros (n - place) ++ drop n O)

abbrev pub invariant-loop-pitch : goal.invariant-loop-pitch
invariant-loop-pitch l = Inv l.n l.pitches l.initial.out l.out l.place l.pitch-index
