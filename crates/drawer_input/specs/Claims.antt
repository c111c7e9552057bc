-- Which texts the drawer program takes, and which line refusal 10 names, as plain facts.
use Rattle.std.specs.Prelude.{Ok, Err, List, map, ◌++◌, ◌↔◌, ◌⊎◌, ◌≡◌, ℕ, ◌≤◌, ◌<◌, drop, length, take}
use Rattle.refusal.specs.declared.Refusal.{Refusal}
use Rattle.refusal.specs.declared.Refusal.TheVariants.{Text}
use Rattle.text.specs.Ascii.{Every, IsUnspaced, ascii}
use Rattle.text.specs.Decimals.{decimal}
use Rattle.text.specs.Symbols.{symbol_of}
use Rattle.drawer_input.specs.Input.{Asked, limit_filled, read_drawer}

-- "the names `stations holes kind limit`", "ended by a line feed"
abbrev pub names_line : List ℕ
names_line = ascii "stations holes kind limit\n"

-- "256 bytes in all at most", the names and a rest
pub record Named (s rest : List ℕ) : Type 0 where
  pub few : length s ≤ 256
  pub whole : s ≡ names_line ++ rest

-- "one line of values, single spaces", "ended by a line feed": the line that has these values.
-- "Numbers are decimal, one to three digits"; "The limit is one or more bytes with no space".
pub record ValueLine (line : List ℕ) (a : Asked) : Type 0 where
  pub numbers : (a.stations < 1000) × (a.holes < 1000) × (a.kind < 1000)
  pub bytes : List ℕ
  pub some : 1 ≤ length bytes
  pub unspaced : Every IsUnspaced bytes
  pub symbols : a.limit ≡ map symbol_of bytes
  pub whole :
      line
      ≡ decimal a.stations ++ ascii " " ++ decimal a.holes ++ ascii " " ++ decimal a.kind ++ ascii " "
      ++ bytes ++ ascii "\n"

-- ---- the texts that are taken

-- "the names `stations holes kind limit`, then one line of values"
pub record Taken (s : List ℕ) (a : Asked) : Type 0 where
  pub line : List ℕ
  pub named : Named s line
  pub values : ValueLine line a

abbrev pub TakenExactly : Type 0
TakenExactly = (s : List ℕ) (a : Asked) → (read_drawer s ≡ Ok a) ↔ Taken s a

-- ---- "10 names the first line that is faulty, missing or too many."

-- line 1: "Over 256 bytes in all", or the names do not "match byte for byte"
abbrev pub FirstFaulty : List ℕ → Type 0
FirstFaulty s = (256 < length s) ⊎ ((rest : List ℕ) → s ≡ names_line ++ rest → ⊥)

abbrev pub FirstExactly : Type 0
FirstExactly = (s : List ℕ) → (read_drawer s ≡ Err (Text 1)) ↔ FirstFaulty s

-- line 2: no line of values follows the names
pub record SecondFaulty (s : List ℕ) : Type 0 where
  pub rest : List ℕ
  pub named : Named s rest
  pub none : (line more : List ℕ) (a : Asked) → rest ≡ line ++ more → ValueLine line a → ⊥

abbrev pub SecondExactly : Type 0
SecondExactly = (s : List ℕ) → (read_drawer s ≡ Err (Text 2)) ↔ SecondFaulty s

-- line 3: more follows the line of values
pub record ThirdFaulty (s : List ℕ) : Type 0 where
  pub line : List ℕ
  pub more : List ℕ
  pub asked : Asked
  pub named : Named s (line ++ more)
  pub values : ValueLine line asked
  pub some : 1 ≤ length more

abbrev pub ThirdExactly : Type 0
ThirdExactly = (s : List ℕ) → (read_drawer s ≡ Err (Text 3)) ↔ ThirdFaulty s

-- no other refusal, and no other line
abbrev pub NoOther : Type 0
NoOther = (s : List ℕ) (r : Refusal) → read_drawer s ≡ Err r → (r ≡ Text 1) ⊎ ((r ≡ Text 2) ⊎ (r ≡ Text 3))

-- ---- the buffer that is lent for the limit

-- The limit's symbols fill its front and the rest stays; where the text is refused, or the limit doesn't fit, all of it stays.
abbrev pub LimitWritten : Type 0
LimitWritten =
    (s out : List ℕ) → let after = limit_filled (read_drawer s) out in
    ((r : Refusal) → read_drawer s ≡ Err r → after ≡ out)
    × ((a : Asked) → read_drawer s ≡ Ok a → length a.limit ≤ length out
    → (take (length a.limit) after ≡ a.limit) × (drop (length a.limit) after ≡ drop (length a.limit) out))
    × ((a : Asked) → read_drawer s ≡ Ok a → length out < length a.limit → after ≡ out)
