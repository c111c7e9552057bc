-- A line put behind what is used of a buffer, and what filling has done so far.
use mathlib.Core.List.{List, append_assoc, ◌++◌}
use mathlib.Core.Path.{ap, sym, ◌∙◌, ◌≡◌}
use Prim.Native.Nat.{ℕ, ◌+◌, ◌-◌, ◌<◌, ◌≤◌}
use native.Mathlib.Omega.{arith}
use lib.ListN.{drop, length, length-append, take}
use lib.Seq.{drop_at, drop-drop, length-take-le, take_at}
use Rattle.drawer_lines.specs.Lines.{longest_line}
use Rattle.printing.proofs.NextLine.{next_left, next_long}
use Rattle.printing.specs.Left.{left}
use Rattle.printing.specs.InnerNextLine.{next_of}
use Rattle.printing.specs.declared.Printing.{Printing}
use Rattle.refusal.specs.Verdicts.{most_stations}
use Rattle.text.proofs.Written.{length-placed, part_placed}
use Rattle.text.specs.Buffers.{placed}
use Rattle.words.specs.Buffers.{fronted}

-- a line at the front of the part of a buffer behind u bytes
module _ (u : ℕ) (o line part : List ℕ) (h : u + length line ≤ length o) (e : part ≡ fronted line (take (length o - u) (drop u o))) where
  -- the buffer with its part written
  abbrev whole : List ℕ
  whole = take u o ++ (part ++ drop (length o - u) (drop u o))

  added : whole ≡ placed o u line
  added = part_placed u o line part e

  front : length (take u o ++ line) ≡ u + length line
  front = length-append (take u o) line ∙ ap (λ k. k + length line) (length-take-le u o (omega arith))

  whole_long : length whole ≡ length o
  whole_long = ap length added ∙ length-placed o u line h

  whole_front : take (u + length line) whole ≡ take u o ++ line
  whole_front = ap (take (u + length line)) added ∙ take_at (take u o ++ line) (drop (u + length line) o) (u + length line) front

  whole_rest : drop (u + length line) whole ≡ drop (u + length line) o
  whole_rest = ap (drop (u + length line)) added ∙ drop_at (take u o ++ line) (drop (u + length line) o) (u + length line) front

-- from s and a buffer that held O: u bytes are used of it, and t is to be printed
pub record Grown (s : Printing) (O o : List ℕ) (t : Printing) (u : ℕ) : Type 0 where
  pub inside : u ≤ length O
  pub long : length o ≡ length O
  pub text : take u o ++ left t ≡ left s
  pub rest : drop u o ≡ drop u O
  pub row : length t.walk.row ≡ most_stations
  pub short : length O < longest_line → u ≡ 0

-- one line more
pub grown_more : {s : Printing} {O o : List ℕ} {t : Printing} {u : ℕ} → Grown s O o t u → (part : List ℕ) → longest_line ≤ length O → u + length (next_of t).line ≤ length O → part ≡ fronted (next_of t).line (take (length o - u) (drop u o))
    → Grown s O (take u o ++ (part ++ drop (length o - u) (drop u o))) (next_of t).then (u + length (next_of t).line)
grown_more {s} {O} {o} {t} {u} g part m h e =
    let line = (next_of t).line in
    let room : u + length line ≤ length o = omega (arith, g.long) in
    record {
      inside = h;
      long = whole_long u o line part room e ∙ g.long;
      text =
          ap (λ x. x ++ left (next_of t).then) (whole_front u o line part room e)
          ∙ append_assoc (take u o) line (left (next_of t).then)
          ∙ ap (λ x. take u o ++ x) (next_left t g.row)
          ∙ g.text;
      rest =
          whole_rest u o line part room e
          ∙ sym (drop-drop (length line) u o)
          ∙ ap (drop (length line)) g.rest
          ∙ drop-drop (length line) u O;
      row = next_long t g.row;
      short = λ q. absurd (omega arith);
    }
