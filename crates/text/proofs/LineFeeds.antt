-- The line feeds of a text are those of its pieces; a number's digits and a row's characters have none.
use mathlib.Core.Bool.{Bool, cond, false, true}
use mathlib.Core.List.{List, [], map, ◌++◌, ◌∷◌}
use mathlib.Core.Path.{refl, ◌∙◌, ◌≡◌}
use Prim.Native.Nat.{suc, zero, ℕ, ◌%◌, ◌+◌, ◌/◌}
use native.Mathlib.Omega.{arith}
use lib.Dec.{eqb, ltb}
use borrow.Author.Tests.{ne_eqb}
use Rattle.text.specs.Decimals.{decimal, decimal_by, field}
use Rattle.text.specs.Parts.{feed, line_feeds, space}
use Rattle.text.specs.Symbols.{character_of, row_field}

pub feeds_append : (a b : List ℕ) → line_feeds (a ++ b) ≡ line_feeds a + line_feeds b
unfolding line_feeds
feeds_append [] b = omega arith
feeds_append (x ∷ a) b = go (feeds_append a b) (eqb x feed)
  where
    go : line_feeds (a ++ b) ≡ line_feeds a + line_feeds b → (t : Bool) → cond t (suc (line_feeds (a ++ b))) (line_feeds (a ++ b)) ≡ cond t (suc (line_feeds a)) (line_feeds a) + line_feeds b
    go ih true = omega (arith, ih)
    go ih false = ih

digit_feeds : (n : ℕ) → line_feeds ((48 + n) ∷ []) ≡ 0
unfolding line_feeds
digit_feeds n = rw (ne_eqb (48 + n) feed (λ e. omega (arith, e)))

by_feeds : (f n : ℕ) → line_feeds (decimal_by f n) ≡ 0
unfolding decimal_by
by_feeds zero n = digit_feeds n
by_feeds (suc f) n = go (by_feeds f (n / 10)) (ltb n 10)
  where
    go : line_feeds (decimal_by f (n / 10)) ≡ 0 → (t : Bool) → line_feeds (cond t ((48 + n) ∷ []) (decimal_by f (n / 10) ++ ((48 + n % 10) ∷ []))) ≡ 0
    go ih true = digit_feeds n
    go ih false = feeds_append (decimal_by f (n / 10)) ((48 + n % 10) ∷ []) ∙ rw (ih, digit_feeds (n % 10))

-- of a number and the byte behind it, that of the byte
pub field_feeds : (n end : ℕ) → line_feeds (field n end) ≡ line_feeds (end ∷ [])
unfolding field decimal
field_feeds n end = omega (arith, feeds_append (decimal_by n n) (end ∷ []), by_feeds n n)

characters_feeds : (row : List ℕ) → line_feeds (map character_of row) ≡ 0
unfolding line_feeds
characters_feeds [] = refl
characters_feeds (x ∷ row) = go (characters_feeds row) (eqb x 0)
  where
    go : line_feeds (map character_of row) ≡ 0 → (t : Bool) → line_feeds (cond t 48 49 ∷ map character_of row) ≡ 0
    go ih true = ih
    go ih false = ih

pub row_feeds : (row : List ℕ) → line_feeds (row_field row) ≡ 0
unfolding row_field line_feeds
row_feeds row = omega (arith, feeds_append (map character_of row) (space ∷ []), characters_feeds row)
