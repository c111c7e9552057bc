-- The drawer program's printed lines: "single spaces", each ended by a line feed.
use Rattle.std.specs.Prelude.{cond, List, [], ◌∷◌, ◌++◌, ℕ, ◌+◌, leb, length}
use Rattle.refusal.specs.declared.Refusal.{Refusal}
use Rattle.refusal.specs.Refusals.{number_of, place_of}
use Rattle.refusal.specs.Verdicts.{most_stations}
use Rattle.text.specs.Parts.{space, feed}
use Rattle.text.specs.Decimals.{field}
use Rattle.text.specs.Symbols.{row_field}
use Rattle.words.specs.Buffers.{fronted}

-- ---- lines

-- `number row period trials`
abbrev pub header : List ℕ
header = 110 ∷ 117 ∷ 109 ∷ 98 ∷ 101 ∷ 114 ∷ 32 ∷ 114 ∷ 111 ∷ 119 ∷ 32 ∷ 112 ∷ 101 ∷ 114 ∷ 105 ∷ 111 ∷ 100 ∷ 32 ∷ 116 ∷ 114 ∷ 105 ∷ 97 ∷ 108 ∷ 115 ∷ 10 ∷ []

-- "the running number, the row, its period and the trials spent since the line before"
unfoldable pub ring_line : ℕ → List ℕ → ℕ → ℕ → List ℕ
ring_line number row period trials = field number space ++ (row_field row ++ (field period space ++ field trials feed))

-- `end - - `
abbrev pub end_mark : List ℕ
end_mark = 101 ∷ 110 ∷ 100 ∷ 32 ∷ 45 ∷ 32 ∷ 45 ∷ 32 ∷ []

-- "The last line is `end - -` and the trials that found none."
unfoldable pub end_line : ℕ → List ℕ
end_line trials = end_mark ++ field trials feed

-- `refused place`
abbrev pub refused_names : List ℕ
refused_names = 114 ∷ 101 ∷ 102 ∷ 117 ∷ 115 ∷ 101 ∷ 100 ∷ 32 ∷ 112 ∷ 108 ∷ 97 ∷ 99 ∷ 101 ∷ 10 ∷ []

-- "A refusal prints the line `refused place`, then a line with the two numbers, and nothing else."
unfoldable pub refusal_text : Refusal → List ℕ
refusal_text r = refused_names ++ (field (number_of r) space ++ field (place_of r) feed)

-- the longest that a line or a refusal's text can be: a row, three numbers of 64 bits, which have up to 20 digits, and four bytes between and behind them
abbrev pub longest_line : ℕ
longest_line = most_stations + 64

-- ---- a lent buffer

-- a text in a buffer that may be too short: then nothing is written
abbrev pub written : List ℕ → List ℕ → List ℕ
written text out = cond (leb (length text) (length out)) (fronted text out) out

-- how many bytes are written
abbrev pub count_of : List ℕ → ℕ → ℕ
count_of text room = cond (leb (length text) room) (length text) 0
