-- The highest row that begins a necklace, at or below a row, of as many symbols. Not of document 01: what an inner function computes.
use Rattle.std.specs.Prelude.{Bool, true, false, ◌&&◌, List, [], ◌∷◌, ◌++◌, ℕ, zero, suc, length}
use Rattle.words.specs.InnerScan.{◌▹◌, Scan, barred, periodic, scan}
use Rattle.words.specs.Symbols.{ones}

pub data Bound : Type 0 where
  none : Bound
  at : List ℕ → Bound

-- one pass: a row begins a necklace
abbrev pub passes : Scan → Bool
passes barred = false
passes (periodic p) = true

-- the first of two that there is
abbrev pub or_else : Bound → Bound → Bound
or_else none h = h
or_else (at v) h = at v

abbrev pub only_if : Bool → List ℕ → Bound
only_if true v = at v
only_if false v = none

-- the symbols a are kept, r comes behind them: the highest below a r that begins as a does
unfoldable pub highest_below : List ℕ → List ℕ → Bound
highest_below a [] = none
highest_below a (zero ∷ r) = highest_below (a ▹ 0) r
highest_below a (suc c ∷ r) =
    let v : List ℕ = (a ▹ 0) ++ ones (length r) in
    let h = highest_below (a ▹ suc c) r in
    or_else h (only_if (passes (scan (a ▹ 0))) v)

-- v itself, where that is allowed and it begins a necklace
unfoldable pub highest_up_to : Bool → List ℕ → Bound
highest_up_to allowed v = or_else (only_if (allowed && passes (scan v)) v) (highest_below [] v)
