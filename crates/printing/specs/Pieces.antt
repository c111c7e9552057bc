-- A text handed out in pieces, each in a lent buffer of any length.
use Rattle.std.specs.Prelude.{false, true, List, [], ◌++◌, ◌≡◌, ℕ, ◌+◌, ◌<◌, ◌≤◌, drop, length, take}
use Rattle.drawer_lines.specs.Lines.{longest_line}
use Rattle.printing.specs.Left.{left}
use Rattle.printing.specs.declared.Filled.{Filled}
use Rattle.printing.specs.declared.Printing.{Printing}

-- what filling a buffer promises: the bytes written, and then what is left, are what was left; the rest of the buffer is as it was;
-- done exactly when nothing is left; until then the buffer is filled as far as a longest line would fit, so that one shorter than that gets nothing
pub record Fills (s : Printing) (before after : List ℕ) (f : Filled) : Type 0 where
  pub long : length after ≡ length before
  pub inside : f.used ≤ length before
  pub text : take f.used after ++ left f.state ≡ left s
  pub rest : drop f.used after ≡ drop f.used before
  pub all : f.done ≡ true → left f.state ≡ []
  pub only : left f.state ≡ [] → f.done ≡ true
  pub full : f.done ≡ false → length before < f.used + longest_line
  pub short : length before < longest_line → f.used ≡ 0

-- the bytes that fills in a row hand out, one piece behind the other, and the printing behind them
pub data HandedOut (s : Printing) : List ℕ → Printing → Type 0 where
  nothing : HandedOut s [] s
  piece : {bytes before after : List ℕ} {t : Printing} {f : Filled} → HandedOut s bytes t → Fills t before after f → HandedOut s (bytes ++ take f.used after) f.state
