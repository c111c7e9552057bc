-- No line is longer than the longest, so that each is written whole to a buffer with room for that.
use mathlib.Core.Bool.{true}
use mathlib.Core.List.{List}
use mathlib.Core.Path.{◌≡◌}
use Prim.Native.Nat.{ℕ, ◌≤◌}
use native.Mathlib.Omega.{arith}
use lib.ListN.{length}
use borrow.Author.Tests.{le-leb}
use Rattle.drawer_lines.proofs.Filling.{end_length, ring-length}
use Rattle.drawer_lines.specs.Lines.{count_of, end_line, longest_line, ring_line, written}
use Rattle.words.specs.Rotation.{necklace_period}
use Rattle.printing.specs.Left.{highest64}
use Rattle.printing.specs.InnerNextLine.{Next, Puts, filled_by, is_done}
use Rattle.printing.specs.declared.Filled.{Filled}
use Rattle.refusal.specs.Verdicts.{most_stations}
use Rattle.text.proofs.Digits.{decimal_short}
use Rattle.words.specs.Rotation.{is_necklace, period}
use Rattle.words.specs.Buffers.{fronted}

-- a line that fits is written, and what is handed back with it tells its length
pub puts_line : (x : Next) (out o : List ℕ) (n : ℕ) (f : Filled) → f ≡ record { state = x.then; used = n; done = is_done x.then.due } → length x.line ≤ longest_line → longest_line ≤ length out → (n ≡ count_of x.line (length out)) × (o ≡ written x.line out) → Puts x out o f
puts_line x out o n f g s h e =
    let w : (n ≡ length x.line) × (o ≡ fronted x.line out) = rw (le-leb (length x.line) (length out) (omega arith)) at e in
    let r : f ≡ filled_by x = rw w.0 at g in
    record { result = r; short = rw r s; front = w.1 }

-- numbers of 64 bits and a row
pub ring_short : (number : ℕ) (row : List ℕ) (period trials : ℕ) → length row ≤ most_stations → number ≤ highest64 → period ≤ highest64 → trials ≤ highest64 → length (ring_line number row period trials) ≤ longest_line
ring_short number row period trials l h i j =
    omega (arith, ring-length number row period trials, decimal_short 19 number (omega arith), decimal_short 19 period (omega arith), decimal_short 19 trials (omega arith))

pub end_short : (trials : ℕ) → trials ≤ highest64 → length (end_line trials) ≤ longest_line
end_short trials h = omega (arith, end_length trials, decimal_short 19 trials (omega arith))

-- what the one pass over a necklace gives
pub necklace_period_is : (row : List ℕ) → is_necklace row ≡ true → necklace_period row ≡ period row
unfolding necklace_period
necklace_period_is row e = rw e
