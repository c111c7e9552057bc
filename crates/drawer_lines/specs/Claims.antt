-- What is claimed of a line that is written to a lent buffer.
use Rattle.std.specs.Prelude.{List, ◌≡◌, ℕ, ◌<◌, ◌≤◌, drop, length, take}
use Rattle.drawer_lines.specs.Lines.{count_of, written}

-- A text is written whole, to the front of the buffer, and the rest stays; where it doesn't fit, nothing is written.
abbrev pub WholeOrNothing : Type 0
WholeOrNothing =
    (text out : List ℕ) → let count = count_of text (length out) in let after = written text out in
    (length text ≤ length out
    → (count ≡ length text) × (take (length text) after ≡ text) × (drop (length text) after ≡ drop (length text) out))
    × (length out < length text → (count ≡ 0) × (after ≡ out))
