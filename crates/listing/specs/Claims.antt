-- What document 01 claims of the drawer's book, each claim as a statement of its own.
use Rattle.std.specs.Prelude.{Bool, false, true, ◌↔◌, ◌≡◌, ℕ, ◌*◌, ◌+◌, ◌-◌, ◌<◌, ◌^◌, ◌≤◌, length}
use mathlib.Core.List.{List, Memᴰ, ◌++◌, ◌∷◌}
use Rattle.density.specs.Necklaces.{is_necklace_of, necklaces}
use Rattle.listing.specs.Listing.{all_lines, book, counted, entry, lines_below, none, over, price, ring}
use Rattle.listing.specs.Totals.{AtMost, all_trials}
use Rattle.words.specs.Falling.{Highest}
use Rattle.words.specs.Order.{lt}
use Rattle.words.specs.Symbols.{Within}

-- ---- lines and prices

-- "If the limit is a kind 1 row of the drawer, it is the first line, at price 0."
abbrev pub LimitLine : Type 0
LimitLine =
    (n d : ℕ) (limit : List ℕ)
    → (is_necklace_of d limit ≡ true → all_lines n d limit ≡ entry (ring limit) 0 (lines_below true n d limit))
    × (is_necklace_of d limit ≡ false → all_lines n d limit ≡ lines_below false n d limit)

-- "Each further line is the drawer's highest kind 1 row below x, where x is the line before it, or the limit while there is none."
abbrev pub NextLine : Type 0
NextLine =
    (is_line : Bool) (n d : ℕ) (x r : List ℕ)
    → (lines_below is_line n d x ≡ entry (ring r) (price is_line x r) (lines_below true n d r)) ↔ Highest (λ v. lt v x) (necklaces n d) r

-- "When no such row is left, none follows, at the price of all holes of x."
abbrev pub LastLine : Type 0
LastLine =
    (is_line : Bool) (n d : ℕ) (x : List ℕ)
    → (lines_below is_line n d x ≡ entry none (counted is_line x) over) ↔ ((v : List ℕ) → Memᴰ v (necklaces n d) → lt v x ≡ false)

-- "If it first differs from x at place p, its price is the holes of x at places p to n, plus n - p."
abbrev pub Price : Type 0
Price = (is_line : Bool) (u x r : List ℕ) (a b : ℕ) → (a ≡ b → ⊥) → price is_line (u ++ (a ∷ x)) (u ++ (b ∷ r)) ≡ counted is_line (a ∷ x) + length r

-- ---- ceilings

-- of kind 1, no line and no none costs more than 2 n - 1 trials
abbrev pub Kind1Prices : Type 0
Kind1Prices = (n d : ℕ) (limit : List ℕ) → 1 ≤ n → length limit ≡ n → AtMost (2 * n - 1) (book n d 1 limit)

-- of kind 2, none costs more than 4 n - 2
abbrev pub Kind2Prices : Type 0
Kind2Prices = (n d : ℕ) (limit : List ℕ) → 1 ≤ n → length limit ≡ n → Within 2 limit → AtMost (4 * n - 2) (book n d 2 limit)

-- of any kind, all lines and none together cost fewer than 2 ^ n
abbrev pub AllPrices : Type 0
AllPrices = (n d kind : ℕ) (limit : List ℕ) → 1 ≤ n → length limit ≡ n → Within 2 limit → all_trials (book n d kind limit) < 2 ^ n
