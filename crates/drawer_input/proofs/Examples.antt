-- Document 01's example, and texts at the edges of what is taken.
use mathlib.Core.List.{List, [], ◌++◌, ◌∷◌}
use mathlib.Core.Path.{refl, ◌≡◌}
use Prim.Native.Nat.{ℕ}
use lib.ListN.{replicate}
use Rattle.drawer_input.specs.Input.{Asked, limit_at, read_drawer, values_at}
use Rattle.std.specs.Prelude.{Result, Ok, Err}
use Rattle.refusal.specs.declared.Refusal.{Refusal}
use Rattle.refusal.specs.declared.Refusal.TheVariants.{Text}
use Rattle.text.specs.Ascii.{ascii}
use Rattle.text.specs.Parts.{belongs, is_numeral, numeral_at, run, spaced_at, value_from}
use Rattle.words.specs.Tests.{is_prefix}

pub example_input :
    read_drawer (ascii "stations holes kind limit\n6 3 1 111111\n")
    ≡ Ok (record { stations = 6; holes = 3; kind = 1; limit = 1 ∷ 1 ∷ 1 ∷ 1 ∷ 1 ∷ 1 ∷ [] })
unfolding ascii read_drawer values_at limit_at spaced_at numeral_at is_numeral value_from run belongs is_prefix
example_input = refl

-- what is read of the names and the values behind them
abbrev pub behind_names : List ℕ → Result Asked Refusal
behind_names values = read_drawer (ascii "stations holes kind limit\n" ++ values)

-- in the limit the letter O, a colon and the digit 2 are no symbols
pub example_bytes :
    behind_names (ascii "0 10 999 0O:12\n")
    ≡ Ok (record { stations = 0; holes = 10; kind = 999; limit = 0 ∷ 2 ∷ 2 ∷ 1 ∷ 2 ∷ [] })
unfolding ascii read_drawer values_at limit_at spaced_at numeral_at is_numeral value_from run belongs is_prefix
example_bytes = refl

-- no names, and names that are not ended
pub example_line_1 :
    (read_drawer (ascii "") ≡ Err (Text 1)) × (read_drawer (ascii "stations holes kind limit") ≡ Err (Text 1))
unfolding ascii read_drawer is_prefix
example_line_1 = (refl, refl)

-- nothing behind the names; a leading zero; four digits; a colon, the byte behind 9; two spaces; no limit; no line feed
pub example_line_2 :
    (behind_names [] ≡ Err (Text 2))
    × (behind_names (ascii "06 3 1 111111\n") ≡ Err (Text 2))
    × (behind_names (ascii "6 1000 1 111111\n") ≡ Err (Text 2))
    × (behind_names (ascii "6 : 1 111111\n") ≡ Err (Text 2))
    × (behind_names (ascii "6 3  1 111111\n") ≡ Err (Text 2))
    × (behind_names (ascii "6 3 1 \n") ≡ Err (Text 2))
    × (behind_names (ascii "6 3 1 111111") ≡ Err (Text 2))
unfolding ascii read_drawer values_at limit_at spaced_at numeral_at is_numeral value_from run belongs is_prefix
example_line_2 = (refl, refl, refl, refl, refl, refl, refl)

-- a line feed more
pub example_line_3 : behind_names (ascii "6 3 1 111111\n\n") ≡ Err (Text 3)
unfolding ascii read_drawer values_at limit_at spaced_at numeral_at is_numeral value_from run belongs is_prefix
example_line_3 = refl

-- a limit of 223 ones makes 256 bytes in all
abbrev pub ones_limit : ℕ → List ℕ
ones_limit size = ascii "6 3 1 " ++ (replicate size 49 ++ ascii "\n")

pub example_256 :
    behind_names (ones_limit 223) ≡ Ok (record { stations = 6; holes = 3; kind = 1; limit = replicate 223 1 })
unfolding ascii read_drawer values_at limit_at spaced_at numeral_at is_numeral value_from run belongs is_prefix
example_256 = refl

pub example_257 : behind_names (ones_limit 224) ≡ Err (Text 1)
unfolding ascii read_drawer is_prefix
example_257 = refl
