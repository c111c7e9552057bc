-- The lines of document 01's example, a refusal's text, and the longest line.
use mathlib.Core.List.{[], ◌∷◌}
use mathlib.Core.Path.{refl, ◌≡◌}
use lib.ListN.{length}
use Rattle.drawer_lines.specs.Lines.{end_line, header, longest_line, refusal_text, ring_line}
use Rattle.refusal.specs.Verdicts.{most_stations}
use Rattle.refusal.specs.declared.Refusal.TheVariants.{Symbol}
use Rattle.text.specs.Ascii.{ascii}
use Rattle.text.specs.Decimals.{decimal, decimal_by, field}
use Rattle.text.specs.Symbols.{row_field}
use Rattle.words.specs.Symbols.{ones}

pub example_header : header ≡ ascii "number row period trials\n"
unfolding ascii
example_header = refl

pub example_ring : ring_line 1 (0 ∷ 1 ∷ 0 ∷ 1 ∷ 0 ∷ 1 ∷ []) 2 11 ≡ ascii "1 010101 2 11\n"
unfolding ascii ring_line field row_field decimal decimal_by
example_ring = refl

pub example_end : end_line 2 ≡ ascii "end - - 2\n"
unfolding ascii end_line field decimal decimal_by
example_end = refl

pub example_refusal : refusal_text (Symbol 12) ≡ ascii "refused place\n3 12\n"
unfolding ascii refusal_text field decimal decimal_by
example_refusal = refl

-- a row of the most stations beside three numbers of 64 bits
pub example_longest : length (ring_line 18446744073709551615 (ones most_stations) 18446744073709551615 18446744073709551615) ≡ longest_line
unfolding ring_line field row_field decimal decimal_by
example_longest = refl
