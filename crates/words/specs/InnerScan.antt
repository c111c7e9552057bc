-- One pass over a row: does it begin a necklace, and with which period? Over any alphabet. Not of document 01: what inner functions compute.
use Rattle.std.specs.Prelude.{◌≡◌, List, [], ◌∷◌, ◌++◌, length, get_or, take}
use Prim.Native.Nat.{ℕ, zero, suc, ◌-◌, ◌≤◌, ◌<◌, compare, Ordering}
use Rattle.words.specs.Symbols.{zeros}

infixl 68 ◌▹◌
-- a row and one more symbol
abbrev pub ◌▹◌ : List ℕ → ℕ → List ℕ
a ▹ b = a ++ (b ∷ [])

-- a begins with z zeros, and then comes another symbol or nothing
pub record Leading (a : List ℕ) (z : ℕ) : Type 0 where
  pub within : z ≤ length a
  pub front : take z a ≡ zeros z
  pub then : z < length a → 0 < get_or a z 0

-- What the pass finds: the row begins no necklace, or it repeats its first symbols, of this number, which are a Lyndon word.
pub data Scan : Type 0 where
  barred : Scan
  periodic : ℕ → Scan

-- as a number: 0 where the row begins no necklace
abbrev pub coded : ℕ → Scan
coded zero = barred
coded (suc p) = periodic (suc p)

-- the symbol that goes on with period p
unfoldable pub next : ℕ → List ℕ → ℕ
next p a = get_or a (length a - p) 0

-- the symbol that comes is below the one that goes on with the period, the same, or above it
abbrev pub onward : Ordering → Scan → Scan → Scan
onward Ordering.lt same up = barred
onward Ordering.eq same up = same
onward Ordering.gt same up = up

-- the symbols a, of period p, are passed; those behind them are to come
unfoldable pub scan_from : List ℕ → ℕ → List ℕ → Scan
scan_from a p [] = periodic p
scan_from a p (b ∷ bs) =
    let same = scan_from (a ▹ b) p bs in
    let up = scan_from (a ▹ b) (suc (length a)) bs in
    onward (compare b (next p a)) same up

unfoldable pub scan : List ℕ → Scan
scan [] = periodic 0
scan (b ∷ bs) = scan_from (b ∷ []) 1 bs
