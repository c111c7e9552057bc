-- Every row has a rotation at or below the balanced row of its length and sum (the cycle lemma).
use mathlib.Core.List.{List}
use mathlib.Core.Logic.{inl, inr, ◌⊎◌}
use mathlib.Core.Path.{ap, subst, sym, ◌∙◌, ◌≡◌}
use Prim.Native.Nat.{suc, zero, ℕ, ◌*◌, ◌+◌, ◌-◌, ◌<◌, ◌≤◌}
use native.Mathlib.Nat.{eq-or-lt_of_le, le-div_iff_mul-le, le_refl}
use native.Mathlib.Omega.{arith}
use lib.Arith.{le-zero}
use lib.ListN.{drop, length, length-drop, take, take-append-drop}
use lib.Seq.{take-add, take-append-add, take-append-le, take-take}
use Rattle.density.proofs.BalancedRow.{balanced-length, prefix_sum}
use Rattle.density.proofs.Counts.{sum-append}
use Rattle.density.proofs.Sums.{by_sums}
use Rattle.density.specs.InnerBalanced.{balanced}
use Rattle.words.proofs.AtMost.{◌≼◌}
use Rattle.words.proofs.Below.{le_or}
use Rattle.words.proofs.Rotations.{rotation-length, rotation_whole, rotation_zero}
use Rattle.words.specs.Rotation.{rotation}
use Rattle.words.specs.Symbols.{sum}

-- of 0 .. n one i at which g is most above h
record Most (g h : ℕ → ℕ) (n : ℕ) : Type 0 where
  i : ℕ
  inside : i ≤ n
  best : (k : ℕ) → k ≤ n → g k + h i ≤ g i + h k

more_most : (g h : ℕ → ℕ) (n : ℕ) (m : Most g h n) → (g (suc n) + h m.i ≤ g m.i + h (suc n)) ⊎ (g m.i + h (suc n) < g (suc n) + h m.i) → Most g h (suc n)
more_most g h n m c = go c
  where
    low : (k : ℕ) → k ≤ suc n → (k ≡ suc n) ⊎ (k ≤ n)
    low k l = pick (eq-or-lt_of_le l)
      where
        pick : (k ≡ suc n) ⊎ (k < suc n) → (k ≡ suc n) ⊎ (k ≤ n)
        pick (inl e) = inl e
        pick (inr q) = inr (omega arith)

    go : (g (suc n) + h m.i ≤ g m.i + h (suc n)) ⊎ (g m.i + h (suc n) < g (suc n) + h m.i) → Most g h (suc n)
    go (inl q) = record { i = m.i; inside = omega (arith, m.inside); best = λ k l. old k (low k l) }
      where
        old : (k : ℕ) → (k ≡ suc n) ⊎ (k ≤ n) → g k + h m.i ≤ g m.i + h k
        old k (inl e) = rw e q
        old k (inr l) = m.best k l
    go (inr q) = record { i = suc n; inside = le_refl (suc n); best = λ k l. new k (low k l) }
      where
        new : (k : ℕ) → (k ≡ suc n) ⊎ (k ≤ n) → g k + h (suc n) ≤ g (suc n) + h k
        new k (inl e) = rw e (le_refl (g (suc n) + h (suc n)))
        new k (inr l) = omega (arith, m.best k l)

most : (g h : ℕ → ℕ) (n : ℕ) → Most g h n
most g h zero = record { i = 0; inside = le_refl 0; best = λ k l. rw (le-zero l) (le_refl (g 0 + h 0)) }
most g h (suc n) = let m = most g h n in more_most g h n m (le_or (g (suc n) + h m.i) (g m.i + h (suc n)))

-- the sums of a rotation's beginnings: within the row, and around its end
module _ (r : List ℕ) where
  inside_sum : (i j : ℕ) → i + j ≤ length r → sum (take i r) + sum (take j (rotation i r)) ≡ sum (take (i + j) r)
  unfolding rotation
  inside_sum i j h =
      let l : j ≤ length (drop i r) = simp length-drop (omega arith) in
      rw (take-append-le j (drop i r) (take i r) l, take-add i j r) (sym (sum-append (take i r) (take j (drop i r))))

  around_sum : (i j k : ℕ) → i ≤ length r → k ≤ i → k + length r ≡ i + j → sum (take i r) + sum (take j (rotation i r)) ≡ sum r + sum (take k r)
  unfolding rotation
  around_sum i j k h l e =
      let m : j ≡ length (drop i r) + k = simp length-drop (omega arith) in
      let whole : sum (take i r) + sum (drop i r) ≡ sum r = sym (sum-append (take i r) (drop i r)) ∙ ap sum (take-append-drop i r) in
      rw (m, take-append-add (drop i r) (take i r) k, take-take k i r l) (omega (arith, sum-append (drop i r) (take k r)))

-- some rotation of r has its sums at most in proportion to its length
record LowSums (r : List ℕ) : Type 0 where
  i : ℕ
  inside : i ≤ length r
  low : (j : ℕ) → j ≤ length r → sum (take j (rotation i r)) * length r ≤ j * sum r

low_sums : (r : List ℕ) → LowSums r
low_sums r = record { i = i; inside = m.inside; low = λ j h. pick j h (le_or (i + j) (length r)) }
  where
    n : ℕ
    n = length r

    g : ℕ → ℕ
    g k = sum (take k r) * n

    h : ℕ → ℕ
    h k = k * sum r

    m : Most g h n
    m = most g h n

    i : ℕ
    i = m.i

    pick : (j : ℕ) → j ≤ n → (i + j ≤ n) ⊎ (n < i + j) → sum (take j (rotation i r)) * n ≤ j * sum r
    pick j l (inl q) = omega (arith, ap (λ x. x * n) (inside_sum r i j q), m.best (i + j) q)
    pick j l (inr q) =
        let k : ℕ = i + j - n in
        let e : k + n ≡ i + j = omega arith in
        let ki : k ≤ i = omega arith in
        omega (arith, ap (λ x. x * n) (around_sum r i j k m.inside ki e), m.best k (omega (arith, m.inside)), ap (λ x. x * sum r) e)

-- the row has such a rotation
pub record Lowered (r : List ℕ) : Type 0 where
  pub i : ℕ
  pub inside : i < length r
  pub low : rotation i r ≼ balanced (length r) (sum r)

pub lowered : (r : List ℕ) → 0 < length r → Lowered r
lowered r p = go (le_or (length r) t.i)
  where
    t : LowSums r
    t = low_sums r

    c : List ℕ
    c = balanced (length r) (sum r)

    sums : (j : ℕ) → j ≤ length (rotation t.i r) → sum (take j (rotation t.i r)) ≤ sum (take j c)
    sums j h =
        let l : j ≤ length r = rw rotation-length at h in
        rw (prefix_sum (length r) (sum r) p j l) ((le-div_iff_mul-le p).1 (t.low j l))

    below : rotation t.i r ≼ c
    below = by_sums (rotation t.i r) c (rotation-length t.i r ∙ sym (balanced-length (length r) (sum r) p (length r) 0)) sums

    go : (length r ≤ t.i) ⊎ (t.i < length r) → Lowered r
    go (inl q) = record { i = 0; inside = p; low = subst (λ w. w ≼ c) (rotation_whole t.i r q ∙ sym (rotation_zero r)) below }
    go (inr q) = record { i = t.i; inside = q; low = below }
