-- The next line of a printing and the printing behind it, as the code goes from line to line. Not of document 01.
use Rattle.std.specs.Prelude.{Result, Ok, Err, Bool, true, false, List, [], ◌≡◌, ℕ, ◌+◌, ◌≤◌, ltb, length}
use Rattle.drawer_lines.specs.Lines.{end_line, header, longest_line, refusal_text, ring_line}
use Rattle.printing.specs.Left.{highest64, stopped}
use Rattle.printing.specs.declared.Due.{Due}
use Rattle.printing.specs.declared.Due.TheVariants.{Refused, Header, Rings, Done}
use Rattle.printing.specs.declared.Filled.{Filled}
use Rattle.printing.specs.declared.Printing.{Printing}
use Rattle.refusal.specs.Verdicts.{most_stations}
use Rattle.walk.specs.Moves.{row_of, rules}
use Rattle.walk.specs.Step.{step_of}
use Rattle.walk.specs.declared.Answer.{Answer}
use Rattle.walk.specs.declared.Answer.TheVariants.{Ring, None}
use Rattle.refusal.specs.declared.Refusal.{Refusal}
use Rattle.walk.specs.declared.Stepped.{Stepped}
use Rattle.walk.specs.declared.Walk.{Walk}
use Rattle.words.specs.Rotation.{is_necklace, period}
use Rattle.words.specs.Buffers.{fronted}

abbrev pub printing : Walk → ℕ → Due → Printing
printing w k due = record { walk = w; number = k; due = due }

-- ---- the next line

-- a line, and the printing behind it
pub record Next : Type 0 where
  pub line : List ℕ
  pub then : Printing

abbrev pub line_then : List ℕ → Printing → Next
line_then l s = record { line = l; then = s }

-- a line with nothing behind it
abbrev pub last_line : List ℕ → ℕ → Walk → Next
last_line l k w = line_then l (printing w k Done)

-- the line of a ring, by whether it can be numbered
abbrev pub ring_next : Bool → ℕ → Walk → ℕ → Next
ring_next true k w t = line_then (ring_line (k + 1) (row_of w) (period (row_of w)) t) (printing w (k + 1) Rings)
ring_next false k w t = last_line stopped k w

-- by a step's answer
abbrev pub answer_next : Result Answer Refusal → ℕ → Walk → ℕ → Next
answer_next (Ok Ring) k w t = ring_next (ltb k highest64) k w t
answer_next (Ok None) k w t = last_line (end_line t) k w
answer_next (Err r) k w t = last_line stopped k w

-- by a step that is allowed all that can be
abbrev pub step_next : Stepped → ℕ → Next
step_next r k = answer_next r.answer k r.walk r.trials

abbrev pub walk_next : Walk → ℕ → Next
walk_next w k = step_next (step_of rules w highest64) k

-- by what is due
abbrev pub next_at : Due → ℕ → Walk → Next
next_at (Refused r) k w = last_line (refusal_text r) k w
next_at Header k w = line_then header (printing w k Rings)
next_at Rings k w = walk_next w k
next_at Done k w = last_line [] k w

unfoldable pub next_of : Printing → Next
next_of s = next_at s.due s.number s.walk

-- ---- a line in a buffer

abbrev pub is_done : Due → Bool
is_done (Refused r) = false
is_done Header = false
is_done Rings = false
is_done Done = true

-- what is handed back with a line written
abbrev pub filled_by : Next → Filled
filled_by x = record { state = x.then; used = length x.line; done = is_done x.then.due }

-- what putting a line promises: it stands at the front of the buffer, and is no longer than the longest
pub record Puts (x : Next) (before after : List ℕ) (f : Filled) : Type 0 where
  pub result : f ≡ filled_by x
  pub short : f.used ≤ longest_line
  pub front : after ≡ fronted x.line before

-- a ring that a walk gave: what its line needs
pub record GivenRing (w : Walk) : Type 0 where
  pub some : 1 ≤ w.n
  pub most : w.n ≤ most_stations
  pub necklace : is_necklace (row_of w) ≡ true
