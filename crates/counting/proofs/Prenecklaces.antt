-- Prenecklaces: what one pass says of them, and that ones may follow them.
use mathlib.Core.Bool.{Bool, false, true}
use mathlib.Core.List.{List, [], append_assoc, append-nil, ◌++◌, ◌∷◌}
use mathlib.Core.Path.{ap, subst, sym, ◌∙◌, ◌≡◌}
use Prim.Native.Nat.{suc, zero, ℕ, ◌+◌, ◌<◌, ◌≤◌}
use native.Mathlib.Omega.{arith}
use lib.ListN.{length, length-append}
use Rattle.counting.specs.InnerBound.{passes}
use Rattle.density.proofs.Binary.{Binary, binary_snoc, empty, one∷, zero∷}
use Rattle.words.proofs.AtMost.{not_both}
use Rattle.words.proofs.Below.{◌≺◌}
use Rattle.words.proofs.Cut.{cut}
use Rattle.words.proofs.FirstDifference.{at_head, ext, in_tail, ◌≪◌}
use Rattle.words.proofs.OnePeriod.{pre_begins}
use Rattle.words.proofs.PowerOrder.{Necklace}
use Rattle.words.proofs.Prefixes.{Pre}
use Rattle.words.proofs.ScanMeaning.{Scanned, has_period, no_necklace, scan_is}
use Rattle.words.specs.InnerScan.{Scan, scan, ◌▹◌}
use Rattle.words.specs.Symbols.{ones}

-- no end of v differs from v by a lower symbol
abbrev pub Prenecklace : List ℕ → Type 0
Prenecklace v = (z y : List ℕ) → v ≡ z ++ y → ◌≪◌ y v → ⊥

-- a row that one pass finds to begin a necklace is one
pub pre→prenecklace : {v : List ℕ} {p : ℕ} → Pre v p → Prenecklace v
pre→prenecklace {v} q z y e h =
    let t = pre_begins q in
    let cut : v ++ t.0 ≡ z ++ (y ++ t.0) = ap (λ r. r ++ t.0) e ∙ append_assoc z y t.0 in
    let low : ((y ++ t.0) ++ z) ≺ (v ++ t.0) = rw append_assoc (ext h (t.0 ++ z) t.0) in
    not_both low (t.1 z (y ++ t.0) cut)

-- ---- what one pass says

pub data Passes (a : List ℕ) : Bool → Type 0 where
  passed : Prenecklace a → Passes a true
  failed : ((z : List ℕ) → Necklace (a ++ z) → ⊥) → Passes a false

pub passes_is : (a : List ℕ) → 0 < length a → Passes a (passes (scan a))
passes_is [] h = absurd (omega arith)
passes_is (b ∷ a) h = go (scan_is b a)
  where
    go : {o : Scan} → Scanned (b ∷ a) o → Passes (b ∷ a) (passes o)
    go (no_necklace f) = failed f
    go (has_period q) = passed (pre→prenecklace q)

-- ---- ones behind it

≪-left : {a b : List ℕ} → ◌≪◌ a b → 0 < length a
≪-left (at_head h) = omega arith
≪-left (in_tail h) = omega arith

-- a row with 1 behind it is below a row of zeros and ones: it is so without the 1
not_last : (r : List ℕ) {w : List ℕ} → Binary w → ◌≪◌ (r ▹ 1) w → ◌≪◌ r w
not_last [] empty h = elim h [ ]
not_last (c ∷ r) empty h = elim h [ ]
not_last [] (zero∷ b) (at_head h) = absurd (omega arith)
not_last [] (one∷ b) (at_head h) = absurd (omega arith)
not_last [] (one∷ b) (in_tail h) = absurd (omega (arith, ≪-left h))
not_last (c ∷ r) (zero∷ b) (at_head h) = at_head h
not_last (c ∷ r) (one∷ b) (at_head h) = at_head h
not_last (zero ∷ r) (zero∷ b) (in_tail h) = in_tail (not_last r b h)
not_last (suc zero ∷ r) (one∷ b) (in_tail h) = in_tail (not_last r b h)

-- a row is below one as long at least, with more behind it: it is so without that
not_behind : (r a u : List ℕ) → length r ≤ length a → ◌≪◌ r (a ++ u) → ◌≪◌ r a
not_behind [] a u l h = absurd (omega (arith, ≪-left h))
not_behind (b ∷ r) [] u l h = absurd (omega arith)
not_behind (b ∷ r) (c ∷ a) u l (at_head h) = at_head h
not_behind (b ∷ r) (c ∷ a) u l (in_tail h) = in_tail (not_behind r a u (omega arith) h)

prenecklace_one : (a : List ℕ) → Binary a → Prenecklace a → Prenecklace (a ▹ 1)
prenecklace_one a b s z y e h =
    let sizes : length a + 1 ≡ length z + length y = sym (length-append a (1 ∷ [])) ∙ ap length e ∙ length-append z y in
    let k = cut z y a (1 ∷ []) (sym e) (omega (arith, ≪-left h)) in
    let low : ◌≪◌ k.r (a ▹ 1) = not_last k.r (binary_snoc b 1 (omega arith)) (subst (λ t. ◌≪◌ t (a ▹ 1)) k.right h) in
    s z k.r k.left (not_behind k.r a (1 ∷ []) (omega (arith, ap length k.left ∙ length-append z k.r)) low)

pub prenecklace_ones : (k : ℕ) (a : List ℕ) → Binary a → Prenecklace a → Prenecklace (a ++ ones k)
prenecklace_ones zero a b s = rw append-nil s
prenecklace_ones (suc k) a b s = rw append_assoc at (prenecklace_ones k (a ▹ 1) (binary_snoc b 1 (omega arith)) (prenecklace_one a b s))
