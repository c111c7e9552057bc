-- The parts of a text, each from a place on: runs of bytes, numbers, and numbers with a space behind them.
use Rattle.std.specs.Prelude.{Bool, Option, Some, None, cond, not, ◌&&◌, ◌||◌, List, [], ◌∷◌, ℕ, suc, ◌+◌, ◌*◌, ◌-◌, eqb, leb, length, drop, get_or}
use Rattle.words.specs.Tests.{is_prefix}
use Rattle.text.specs.declared.Bytes.{Bytes}
use Rattle.text.specs.declared.Bytes.TheVariants.{Digits, Unspaced}
use Rattle.text.specs.declared.Numeral.{Numeral}

-- the bytes of a space, a line feed and the digit 0
abbrev pub space : ℕ
space = 32

abbrev pub feed : ℕ
feed = 10

abbrev pub zero_digit : ℕ
zero_digit = 48

-- the bytes of each sort: the digits 0 to 9; the bytes "with no space", of one line
unfoldable pub belongs : Bytes → ℕ → Bool
belongs Digits b = leb 48 b && leb b 57
belongs Unspaced b = not (eqb b space) && not (eqb b feed)

-- the bytes of a sort that a text begins with
unfoldable pub run : Bytes → List ℕ → List ℕ
run sort [] = []
run sort (b ∷ s) = let rest = b ∷ run sort s in cond (belongs sort b) rest []

-- the value of decimal digits, behind others of value v
unfoldable pub value_from : ℕ → List ℕ → ℕ
value_from v [] = v
value_from v (b ∷ s) = value_from (v * 10 + (b - zero_digit)) s

-- "Numbers are decimal, one to three digits, no leading zero but in 0 itself."
unfoldable pub is_numeral : List ℕ → Bool
is_numeral s = leb 1 (length s) && leb (length s) 3 && (eqb (length s) 1 || not (eqb (get_or s 0 0) zero_digit))

-- the number that stands at a place: its value, and the place behind it
unfoldable pub numeral_at : List ℕ → ℕ → Option Numeral
numeral_at s at =
    let digits = run Digits (drop at s) in
    cond (is_numeral digits) (Some (record { value = value_from 0 digits; next = at + length digits })) None

-- "single spaces": a number is followed by one, and the place is behind it
abbrev pub spaced : List ℕ → Option Numeral → Option Numeral
spaced s (Some n) = cond (is_prefix (space ∷ []) (drop n.next s)) (Some (record n { next = n.next + 1 })) None
spaced s None = None

unfoldable pub spaced_at : List ℕ → ℕ → Option Numeral
spaced_at s at = spaced s (numeral_at s at)

-- how many lines a text has, each ended by a line feed
unfoldable pub line_feeds : List ℕ → ℕ
line_feeds [] = 0
line_feeds (b ∷ s) = let more = line_feeds s in cond (eqb b feed) (suc more) more
