-- What a printing has still to print. Where no line can follow, as in a printing that no start hands out, the text ends with refusal 22.
use Rattle.std.specs.Prelude.{cond, List, [], ◌++◌, ℕ, ◌+◌, leb, ltb}
use Rattle.drawer_lines.specs.Lines.{end_line, header, refusal_text, ring_line}
use Rattle.refusal.specs.declared.Refusal.TheVariants.{Unfit}
use Rattle.printing.specs.declared.Due.{Due}
use Rattle.printing.specs.declared.Due.TheVariants.{Refused, Header, Rings, Done}
use Rattle.printing.specs.declared.Printing.{Printing}
use Rattle.walk.specs.ToCome.{stands}
use Rattle.walk.specs.Fit.{fit}
use Rattle.listing.specs.Listing.{Line, Listing, entry, none, over, ring}
use Rattle.walk.specs.Moves.{rules}
use Rattle.walk.specs.declared.Walk.{Walk}
use Rattle.words.specs.Rotation.{period}

-- the highest number of 64 bits: the most trials that a step can be allowed, and the most lines that can be numbered
abbrev pub highest64 : ℕ
highest64 = 18446744073709551615

-- what ends a text that cannot go on
abbrev pub stopped : List ℕ
stopped = refusal_text Unfit

-- what follows line k: the next line, at its price, and `on` behind it
abbrev pub line_left : ℕ → Line → ℕ → List ℕ → List ℕ
line_left k (ring r) p on = cond (ltb k highest64) (ring_line (k + 1) r (period r) p ++ on) stopped
line_left k none p on = end_line p

-- the lines of a book behind line k
unfoldable pub lines_left : ℕ → Listing → List ℕ
lines_left k over = stopped
lines_left k (entry s p rest) = cond (leb p highest64) (line_left k s p (lines_left (k + 1) rest)) stopped

-- the lines that a walk has still to give
abbrev pub listing_of : Walk → Listing
listing_of w = stands rules w

-- the same, printed behind line k
unfoldable pub rings_left : ℕ → Walk → List ℕ
rings_left k w = cond (fit rules w) (lines_left k (listing_of w)) stopped

-- by what is due
abbrev pub left_at : Due → ℕ → Walk → List ℕ
left_at (Refused r) k w = refusal_text r
left_at Header k w = header ++ rings_left k w
left_at Rings k w = rings_left k w
left_at Done k w = []

-- all that a printing has still to print
unfoldable pub left : Printing → List ℕ
left s = left_at s.due s.number s.walk
