-- The search over the places behind a prefix. Not of document 01: what the inner functions compute.
use Rattle.std.specs.Prelude.{Bool, true, false, ◌&&◌, ◌||◌, List, [], ◌∷◌, ℕ, zero, suc, ◌-◌, ◌%◌, length, eqb, leb}
use Rattle.words.specs.Order.{le}
use Rattle.words.specs.Symbols.{sum}
use Rattle.words.specs.InnerScan.{◌▹◌, next, Scan, barred, periodic, scan}
use Rattle.density.specs.InnerBalanced.{balanced}

-- the Lyndon word g begins a necklace of density d with m more symbols: the largest necklace of those m symbols is not
-- below g
unfoldable pub fits : ℕ → ℕ → List ℕ → Bool
fits d zero g = eqb (sum g) d
fits d (suc m) g = leb (sum g) d && (leb (d - sum g) (suc m) && le g (balanced (suc m) (d - sum g)))

-- a has period p, and m symbols are to come. They go on with the period, to a power of the Lyndon word, or leave it
-- upwards.
unfoldable pub continues : ℕ → ℕ → ℕ → List ℕ → Bool
continues d p zero a = eqb (length a % p) 0 && eqb (sum a) d
continues d p (suc m) a = eqb (next p a) 0 && fits d m (a ▹ 1) || continues d p m (a ▹ next p a)

abbrev pub extends_scanned : ℕ → ℕ → List ℕ → Scan → Bool
extends_scanned n d a barred = false
extends_scanned n d a (periodic p) = continues d p (n - length a) a

unfoldable pub extends : ℕ → ℕ → List ℕ → Bool
extends n d [] = true
extends n d (b ∷ bs) = extends_scanned n d (b ∷ bs) (scan (b ∷ bs))
