-- The highest row that begins a necklace, below a row: no necklace lies between.
use mathlib.Core.Bool.{Bool}
use mathlib.Core.List.{List, [], append_assoc, ◌++◌, ◌∷◌}
use mathlib.Core.Logic.{inl, inr, ◌⊎◌}
use mathlib.Core.Path.{ap, refl, sym, ◌∙◌, ◌≡◌}
use Prim.Native.Nat.{suc, ℕ, ◌≤◌}
use native.Mathlib.Omega.{arith}
use lib.Dec.{lit<}
use lib.ListN.{length, length-append, length-replicate}
use Rattle.counting.proofs.Prenecklaces.{Passes, Prenecklace, failed, passed, passes_is, prenecklace_ones}
use Rattle.counting.specs.InnerBound.{Bound, at, highest_below, none, only_if, or_else, passes}
use Rattle.density.proofs.Binary.{Binary, binary_replicate, binary_snoc, empty, one∷, ones_most, zero∷}
use Rattle.words.proofs.AtMost.{lower, ≼_under, ◌≼◌}
use Rattle.words.proofs.Below.{here, there, ≺-size, ≺_strip, ≺_under, ◌≺◌}
use Rattle.words.proofs.PowerOrder.{Necklace}
use Rattle.words.specs.InnerScan.{scan, ◌▹◌}
use Rattle.words.specs.Symbols.{ones}

-- z behind a: a necklace below a r
pub record Candidate (a r z : List ℕ) : Type 0 where
  pub long : length z ≡ length r
  pub binary : Binary z
  pub necklace : Necklace (a ++ z)
  pub less : z ≺ r

-- v is below a r, and no candidate is above it
pub record Best (a r v : List ℕ) : Type 0 where
  pub tail : List ℕ
  pub is : v ≡ a ++ tail
  pub long : length tail ≡ length r
  pub binary : Binary tail
  pub pre : Prenecklace v
  pub less : tail ≺ r
  pub most : (z : List ℕ) → Candidate a r z → (a ++ z) ≼ v

pub data Found (a r : List ℕ) : Bound → Type 0 where
  nowhere : ((z : List ℕ) → Candidate a r z → ⊥) → Found a r none
  there_is : {v : List ℕ} → Best a r v → Found a r (at v)

-- ---- the first symbol of a candidate, moved to the front

pub record Kept (c : ℕ) (a r z : List ℕ) : Type 0 where
  pub rest : List ℕ
  pub is : z ≡ c ∷ rest
  pub next : Candidate (a ▹ c) r rest

pub record Lowered (a r z : List ℕ) : Type 0 where
  pub rest : List ℕ
  pub is : z ≡ 0 ∷ rest
  pub long : length rest ≡ length r
  pub binary : Binary rest
  pub necklace : Necklace ((a ▹ 0) ++ rest)

shift : (a : List ℕ) (c : ℕ) (z : List ℕ) → a ++ (c ∷ z) ≡ (a ▹ c) ++ z
shift a c z = sym (append_assoc a (c ∷ []) z)

kept : (c : ℕ) (a r : List ℕ) {y : List ℕ} → Candidate a (c ∷ r) (c ∷ y) → Binary y → Kept c a r (c ∷ y)
kept c a r {y} k b = record { rest = y; is = refl; next = record { long = omega (arith, k.long); binary = b; necklace = rw (shift a c y) at k.necklace; less = ≺_strip (c ∷ []) {a = y} {b = r} k.less } }

after_zero : (a r z : List ℕ) → Candidate a (0 ∷ r) z → Kept 0 a r z
after_zero a r z k = go k k.binary
  where
    go : {z : List ℕ} → Candidate a (0 ∷ r) z → Binary z → Kept 0 a r z
    go k empty = absurd (omega (arith, k.long))
    go k (zero∷ b) = kept 0 a r k b
    go k (one∷ {w = y} b) = absurd (omega (arith, ≺_heads k.less))
      where
        ≺_heads : {x y : ℕ} {xs ys : List ℕ} → (x ∷ xs) ≺ (y ∷ ys) → x ≤ y
        ≺_heads (here h) = omega arith
        ≺_heads (there h) = omega arith

after_one : (a r z : List ℕ) → Candidate a (1 ∷ r) z → Kept 1 a r z ⊎ Lowered a r z
after_one a r z k = go k k.binary
  where
    go : {z : List ℕ} → Candidate a (1 ∷ r) z → Binary z → Kept 1 a r z ⊎ Lowered a r z
    go k empty = absurd (omega (arith, k.long))
    go k (zero∷ {w = y} b) = inr (record { rest = y; is = refl; long = omega (arith, k.long); binary = b; necklace = rw (shift a 0 y) at k.necklace })
    go k (one∷ b) = inl (kept 1 a r k b)

-- ---- the search

module _ (a r : List ℕ) where
  keep_zero : {h : Bound} → Found (a ▹ 0) r h → Found a (0 ∷ r) h
  keep_zero (nowhere f) = nowhere (λ z k. let n = after_zero a r z k in f n.rest n.next)
  keep_zero (there_is {v = v} m) = there_is (record {
    tail = 0 ∷ m.tail;
    is = m.is ∙ sym (shift a 0 m.tail);
    long = ap suc m.long;
    binary = zero∷ m.binary;
    pre = m.pre;
    less = there m.less;
    most = most;
  })
    where
      most : (z : List ℕ) → Candidate a (0 ∷ r) z → (a ++ z) ≼ v
      most z k = let n = after_zero a r z k in rw (n.is, shift a 0 n.rest) (m.most n.rest n.next)

  -- the symbol 1 is kept, and something is found behind it
  keep_one : {v : List ℕ} → Best (a ▹ 1) r v → Best a (1 ∷ r) v
  keep_one {v} m = record {
    tail = 1 ∷ m.tail;
    is = m.is ∙ sym (shift a 1 m.tail);
    long = ap suc m.long;
    binary = one∷ m.binary;
    pre = m.pre;
    less = there m.less;
    most = λ z k. go z (after_one a r z k);
  }
    where
      go : (z : List ℕ) → Kept 1 a r z ⊎ Lowered a r z → (a ++ z) ≼ v
      go z (inl n) = rw (n.is, shift a 1 n.rest) (m.most n.rest n.next)
      go z (inr n) = rw (n.is, m.is, append_assoc a (1 ∷ []) m.tail) (lower (≺_under a (here (lit< tt))))

  -- nothing is found behind the symbol 1: it becomes 0
  lower_one : Binary a → ((z : List ℕ) → Candidate (a ▹ 1) r z → ⊥) → {t : Bool} → Passes (a ▹ 0) t → Found a (1 ∷ r) (only_if t ((a ▹ 0) ++ ones (length r)))
  lower_one b f (passed s) = there_is (record {
    tail = 0 ∷ ones (length r);
    is = sym (shift a 0 (ones (length r)));
    long = ap suc (length-replicate (length r) 1);
    binary = zero∷ (binary_replicate (length r) 1 (omega arith));
    pre = prenecklace_ones (length r) (a ▹ 0) (binary_snoc b 0 (omega arith)) s;
    less = here (lit< tt);
    most = λ z k. go z (after_one a r z k);
  })
    where
      go : (z : List ℕ) → Kept 1 a r z ⊎ Lowered a r z → (a ++ z) ≼ ((a ▹ 0) ++ ones (length r))
      go z (inl n) = absurd (f n.rest n.next)
      go z (inr n) = rw (n.is, shift a 0 n.rest) (≼_under (a ▹ 0) (ones_most n.binary (length r) n.long))
  lower_one b f (failed g) = nowhere (λ z k. go z (after_one a r z k))
    where
      go : (z : List ℕ) → Kept 1 a r z ⊎ Lowered a r z → ⊥
      go z (inl n) = f n.rest n.next
      go z (inr n) = g n.rest n.necklace

pub below_is : (a r : List ℕ) → Binary a → Binary r → Found a r (highest_below a r)
unfolding highest_below
below_is a r b empty = nowhere (λ z k. omega (arith, ≺-size k.less))
below_is a r b (zero∷ {w = r₁} c) = keep_zero a r₁ (below_is (a ▹ 0) r₁ (binary_snoc b 0 (omega arith)) c)
below_is a r b (one∷ {w = r₁} c) = go (below_is (a ▹ 1) r₁ (binary_snoc b 1 (omega arith)) c)
  where
    go : {h : Bound} → Found (a ▹ 1) r₁ h → Found a (1 ∷ r₁) (or_else h (only_if (passes (scan (a ▹ 0))) ((a ▹ 0) ++ ones (length r₁))))
    go (nowhere f) = lower_one a r₁ b f (passes_is (a ▹ 0) (simp length-append (omega arith)))
    go (there_is m) = there_is (keep_one a r₁ m)
