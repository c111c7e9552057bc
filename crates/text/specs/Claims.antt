-- What bytes, numbers and symbols are in a text, and that what is written is read back.
use Rattle.std.specs.Prelude.{true, List, [], ◌∷◌, ◌++◌, ◌↔◌, ◌≡◌, ℕ, ◌+◌, ◌*◌, ◌-◌, ◌≤◌, ◌<◌}
use Rattle.text.specs.Ascii.{Every, IsDigit, IsUnspaced}
use Rattle.text.specs.Decimals.{decimal}
use Rattle.text.specs.Parts.{belongs, is_numeral, value_from}
use Rattle.text.specs.Symbols.{character_of, symbol_of}
use Rattle.text.specs.declared.Bytes.TheVariants.{Digits, Unspaced}

-- ---- symbols

-- "the characters 0 and 1 stand for the symbols, and any other byte counts as a wrong symbol": the byte b as x
abbrev pub StandsFor : ℕ → ℕ → Type 0
StandsFor b x = ((x ≡ 0) ↔ (b ≡ 48)) × ((x ≡ 1) ↔ (b ≡ 49)) × ((b ≡ 48 → ⊥) → (b ≡ 49 → ⊥) → 2 ≤ x)

abbrev pub SymbolMeans : Type 0
SymbolMeans = (b : ℕ) → StandsFor b (symbol_of b)

-- "the characters 0 and 1 stand for the symbols"
abbrev pub CharacterMeans : Type 0
CharacterMeans = (character_of 0 ≡ 48) × ((x : ℕ) → (x ≡ 0 → ⊥) → character_of x ≡ 49)

-- a symbol's character is read back
abbrev pub SymbolBack : Type 0
SymbolBack = (x : ℕ) → x ≤ 1 → symbol_of (character_of x) ≡ x

-- ---- the sorts of bytes

-- "Numbers are decimal": their digits are the bytes of `0` to `9`
abbrev pub DigitBytes : Type 0
DigitBytes = (b : ℕ) → (belongs Digits b ≡ true) ↔ IsDigit b

-- "bytes with no space", in a line that is "ended by a line feed (byte 10)"
abbrev pub UnspacedBytes : Type 0
UnspacedBytes = (b : ℕ) → (belongs Unspaced b ≡ true) ↔ IsUnspaced b

-- ---- numbers

-- "Numbers are decimal": a digit more is ten times the value, and the digit
abbrev pub ValueMeans : Type 0
ValueMeans =
    (value_from 0 [] ≡ 0) × ((s : List ℕ) (b : ℕ) → value_from 0 (s ++ (b ∷ [])) ≡ 10 * value_from 0 s + (b - 48))

-- "Numbers are decimal": a number's digits have its value
abbrev pub DecimalValue : Type 0
DecimalValue = (n : ℕ) → value_from 0 (decimal n) ≡ n

-- one digit or more, with "no leading zero but in 0 itself"
abbrev pub NoLeadingZero : List ℕ → Type 0
NoLeadingZero [] = ⊥
NoLeadingZero (b ∷ []) = Unit {0}
NoLeadingZero (b ∷ (c ∷ s)) = b ≡ 48 → ⊥

-- a number is written so, which with its value fixes its digits
abbrev pub DecimalDigits : Type 0
DecimalDigits = (n : ℕ) → Every IsDigit (decimal n) × NoLeadingZero (decimal n)

-- "Numbers are decimal, one to three digits, no leading zero but in 0 itself."
abbrev pub NumeralExactly : Type 0
NumeralExactly =
    (s : List ℕ) → Every IsDigit s → (is_numeral s ≡ true) ↔ ((n : ℕ) × (n < 1000) × (s ≡ decimal n))
