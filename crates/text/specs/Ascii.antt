-- Texts as a reader sees them, and plain facts about bytes.
use Rattle.std.specs.Prelude.{List, ◌≡◌, ℕ, ◌≤◌}
use mathlib.Core.List as list
use Prim.Native.Char.{code}
use Prim.Native.String.{String, [], ◌∷◌}

-- the bytes of a text of ASCII characters
unfoldable pub ascii : String → List ℕ
ascii [] = List.[]
ascii (c ∷ s) = list.◌∷◌ (code c) (ascii s)

-- each byte of a text is of a sort
abbrev pub Every : (ℕ → Type 0) → List ℕ → Type 0
Every P List.[] = Unit {0}
Every P (list.◌∷◌ b s) = P b × Every P s

-- a digit, `0` to `9`
abbrev pub IsDigit : ℕ → Type 0
IsDigit b = (48 ≤ b) × (b ≤ 57)

-- neither a space nor a line feed
abbrev pub IsUnspaced : ℕ → Type 0
IsUnspaced b = (b ≡ 32 → ⊥) × (b ≡ 10 → ⊥)
