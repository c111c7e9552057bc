-- What may follow a Lyndon word in a necklace.
use mathlib.Core.Bool.{false, true, ◌&&◌}
use mathlib.Core.List.{List, [], ◌∷◌}
use mathlib.Core.Path.{ap, refl, sym, ◌∙◌, ◌≡◌}
use Prim.Native.Nat.{suc, zero, ℕ, ◌*◌, ◌+◌, ◌-◌, ◌<◌, ◌≤◌}
use native.Mathlib.Nat.{sub-zero}
use native.Mathlib.Omega.{arith}
use lib.Dec.{leb}
use lib.ListN.{length, length-append}
use borrow.Author.Tests.{eq-eqb, eqb-true, le-leb, leb-true, lt-leb, ne_eqb}
use Rattle.density.proofs.BalancedRow.{balanced_binary, balanced-length, balanced_necklace, balanced-total}
use Rattle.density.proofs.Begun.{begun_whole}
use Rattle.density.proofs.Binary.{Binary, binary_append, binary_behind, binary_sum}
use Rattle.density.proofs.Counts.{sum-append}
use Rattle.density.proofs.FirstOne.{product_yes}
use Rattle.density.proofs.Largest.{tail_balanced}
use Rattle.density.proofs.Members.{Begun, member_of, member_sum}
use Rattle.density.specs.InnerBalanced.{balanced, balanced_from}
use Rattle.extension.specs.InnerSearch.{fits}
use Rattle.words.proofs.AtMost.{◌≼◌}
use Rattle.words.proofs.Booleans.{and→, →and}
use Rattle.words.proofs.Following.{join_necklace}
use Rattle.words.proofs.Lyndon.{Lyndon}
use Rattle.words.proofs.OrderTests.{le→, →le}
use Rattle.words.proofs.PowerOrder.{lyndon→necklace}
use Rattle.words.specs.Order.{le}
use Rattle.words.specs.InnerScan.{Leading}
use Rattle.words.specs.Symbols.{sum}

-- ---- a Lyndon word g and m more symbols

module _ (n d : ℕ) (g : List ℕ) (l : Lyndon g) where
  -- g, and then the highest necklace of m symbols and density d - sum g
  pub fits→ : (m : ℕ) → length g + m ≡ n → Binary g → fits d m g ≡ true → Begun n d g
  unfolding fits
  fits→ zero h x e = begun_whole (member_of (omega arith) x (eqb-true _ _ e) (lyndon→necklace l))
  fits→ (suc m) h x e = record {
    rest = v;
    member =
        member_of (omega (arith, length-append g v, size)) (binary_append x (balanced_binary (suc m) d' (omega arith) few (suc m) 0))
        (omega (arith, sum-append g v, balanced-total (suc m) d' (omega arith), leb-true (sum g) d s.0))
        (join_necklace l (omega (arith, size)) (balanced_necklace (suc m) d' (omega arith)) (le→ g v t.1));
  }
    where
      d' : ℕ
      d' = d - sum g

      v : List ℕ
      v = balanced (suc m) d'

      s : (leb (sum g) d ≡ true) × ((leb d' (suc m) && le g v) ≡ true)
      s = and→ (leb (sum g) d) (leb d' (suc m) && le g v) e

      t : (leb d' (suc m) ≡ true) × (le g v ≡ true)
      t = and→ (leb d' (suc m)) (le g v) s.1

      few : d' ≤ suc m
      few = leb-true d' (suc m) t.0

      size : length v ≡ suc m
      size = balanced-length (suc m) d' (omega arith) (suc m) 0

  pub →fits : (m : ℕ) → length g + m ≡ n → Begun n d g → fits d m g ≡ true
  unfolding fits sum
  →fits m h b = go m b.rest refl h
    where
      size : length g + length b.rest ≡ n
      size = sym (length-append g b.rest) ∙ b.member.long

      count : sum g + sum b.rest ≡ d
      count = sym (sum-append g b.rest) ∙ member_sum b.member

      go : (m : ℕ) (r : List ℕ) → b.rest ≡ r → length g + m ≡ n → fits d m g ≡ true
      go zero [] e h = eq-eqb (sum g) d (omega (arith, count, ap sum e))
      go zero (c ∷ r) e h = absurd (omega (arith, size, ap length e))
      go (suc m) [] e h = absurd (omega (arith, size, ap length e))
      go (suc m) (c ∷ r) e h =
          let lr : length b.rest ≡ suc m = omega (arith, size) in
          let sr : sum b.rest ≡ d - sum g = omega (arith, count) in
          let few : sum b.rest ≤ length b.rest = binary_sum (binary_behind g b.member.binary) in
          let low : g ≼ balanced (suc m) (d - sum g) = rw (lr, sr) at (tail_balanced l b.rest (omega arith) b.member.least) in
          →and (le-leb (sum g) d (omega (arith, count))) (→and (le-leb (d - sum g) (suc m) (omega arith)) (→le g (balanced (suc m) (d - sum g)) low))

-- ---- the counts

pub fits_many : (d m : ℕ) (g : List ℕ) → d < sum g → fits d m g ≡ false
unfolding fits
fits_many d zero g h = ne_eqb (sum g) d (λ e. omega arith)
fits_many d (suc m) g h = rw (lt-leb (sum g) d h)

pub fits_few : (d m : ℕ) (g : List ℕ) → m < d - sum g → fits d m g ≡ false
unfolding fits
fits_few d zero g h = ne_eqb (sum g) d (λ e. omega arith)
fits_few d (suc m) g h = rw (le-leb (sum g) d (omega arith), lt-leb (d - sum g) (suc m) h)

pub fits-none : (d : ℕ) (g : List ℕ) → sum g ≡ d → fits d 0 g ≡ true
unfolding fits
fits-none d g e = eq-eqb (sum g) d e

pub fits_some : (d m h : ℕ) (g : List ℕ) → h ≡ sum g → 0 < m → h ≤ d → d - h ≤ m → fits d m g ≡ le g (balanced_from m (d - h) 0 (m - 0))
unfolding fits
fits_some d zero h g e p k l = absurd (omega arith)
fits_some d (suc m) h g e p k l = rw (e, sub-zero, le-leb (sum g) d (omega arith), le-leb (d - sum g) (suc m) (omega arith))

-- so many zeros for each 1 to come reach as far as the symbols to come
pub product_fits : (g : List ℕ) (m d h z : ℕ) → Leading g z → z < length g → h ≡ sum g → h ≤ d → d - h ≤ m → m ≤ z * (d - h) → fits d m g ≡ true
product_fits g zero d h z q i e k l u = fits-none d g (omega arith)
product_fits g (suc m) d h z q i e k l u = fits_some d (suc m) h g e (omega arith) k l ∙ product_yes g (suc m) (d - h) z q i (omega arith) l u
