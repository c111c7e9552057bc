-- What symbols and the sorts of bytes are.
use mathlib.Core.Bool.{Bool, cond, false, not, true}
use mathlib.Core.Path.{refl, ◌≡◌}
use Prim.Native.Nat.{suc, zero}
use native.Mathlib.Omega.{arith}
use lib.Dec.{eqb, leb}
use borrow.Author.Tests.{eqb-false, eqb-true, le-leb, leb-true, ne_eqb, not-true}
use Rattle.text.specs.Ascii.{IsUnspaced}
use Rattle.text.specs.Claims.{CharacterMeans, DigitBytes, StandsFor, SymbolBack, SymbolMeans, UnspacedBytes}
use Rattle.text.specs.Parts.{belongs, feed, space}
use Rattle.text.specs.declared.Bytes.TheVariants.{Unspaced}
use Rattle.words.proofs.Booleans.{and→, →and}

pub symbol_means : SymbolMeans
symbol_means b = go (eqb b 48) refl (eqb b 49) refl
  where
    go : (t : Bool) → eqb b 48 ≡ t → (u : Bool) → eqb b 49 ≡ u → StandsFor b (cond t 0 (cond u 1 2))
    go true p u q = let e = eqb-true b 48 p in omega arith
    go false p true q = let e = eqb-true b 49 q in omega arith
    go false p false q =
        let m = eqb-false b 48 p in
        let n = eqb-false b 49 q in
        omega arith

pub character_means : CharacterMeans
character_means = (refl, λ x n. rw (ne_eqb x 0 n))

pub symbol_back : SymbolBack
symbol_back zero h = refl
symbol_back (suc zero) h = refl
symbol_back (suc (suc x)) h = absurd (omega arith)

pub digit_bytes : DigitBytes
unfolding belongs
digit_bytes b = (
  λ h.
      let r = and→ (leb 48 b) (leb b 57) h in
      (leb-true 48 b r.0, leb-true b 57 r.1),
  λ r. →and (le-leb 48 b r.0) (le-leb b 57 r.1),
)

pub unspaced_bytes : UnspacedBytes
unfolding belongs
unspaced_bytes b = (to, λ r. rw (ne_eqb b space r.0, ne_eqb b feed r.1))
  where
    to : belongs Unspaced b ≡ true → IsUnspaced b
    to h =
        let r = and→ (not (eqb b space)) (not (eqb b feed)) h in
        (eqb-false b space (not-true _ r.0), eqb-false b feed (not-true _ r.1))
