-- A necklace that begins with z zeros and a 1 has no run of more than z zeros: so it needs a 1 in each z + 1 places.
use mathlib.Core.Bool.{false, true}
use mathlib.Core.List.{List, [], append_assoc, append-nil, ◌++◌, ◌∷◌}
use mathlib.Core.Logic.{inl, inr, ◌⊎◌}
use mathlib.Core.Path.{ap, subst, sym, ◌∙◌, ◌≡◌}
use Prim.Native.Nat.{suc, zero, ℕ, ◌*◌, ◌+◌, ◌-◌, ◌<◌, ◌≤◌}
use native.Mathlib.Omega.{arith}
use lib.ListN.{drop, get_or, length, length-append, take, take-append-drop}
use lib.Seq.{drop-cons}
use Rattle.density.proofs.Binary.{Binary, binary_behind, binary_sum, empty, one∷, zero∷}
use Rattle.density.proofs.Counts.{sum-append}
use Rattle.density.proofs.Members.{Begun, begins→, member_sum}
use Rattle.density.specs.Necklaces.{begins}
use Rattle.words.proofs.AtMost.{≼_strip, ≼-uncons, ◌≼◌}
use Rattle.words.proofs.Below.{le_or}
use Rattle.words.proofs.Booleans.{never}
use Rattle.words.proofs.PowerOrder.{Necklace}
use Rattle.words.proofs.Zeros.{zeros_round, zeros_swap}
use Rattle.words.specs.Symbols.{sum, zeros}

not_below : (s t : List ℕ) → (1 ∷ s) ≼ (0 ∷ t) → ⊥
not_below s t h = go (≼-uncons h)
  where
    go : (1 < 0) ⊎ ((◌≡◌ {A = ℕ} 1 0) × (s ≼ t)) → ⊥
    go (inl k) = omega arith
    go (inr k) = omega (arith, k.0)

module _ (z : ℕ) (w s : List ℕ) (is : w ≡ zeros z ++ (1 ∷ s)) (l : Necklace w) where
  -- no rotation begins with more zeros
  low : (y v t : List ℕ) → w ≡ y ++ v → v ++ y ≡ zeros z ++ (0 ∷ t) → ⊥
  low y v t e f = not_below s t (≼_strip (zeros z) (subst (λ a. a ≼ (zeros z ++ (0 ∷ t))) is (subst (λ b. w ≼ b) f (l y v e))))

  abbrev front : List ℕ → List ℕ
  front u = zeros z ++ (1 ∷ u)

  -- q zeros, and then r: each block has a 1, and the row ends with one
  blocks_have_ones : (r u : List ℕ) (q : ℕ) → q ≤ z → Binary r → w ≡ front u ++ (zeros q ++ r) → length r + q ≤ suc z * sum r
  unfolding sum
  blocks_have_ones [] u zero h empty e = omega arith
  blocks_have_ones [] u (suc q) h empty e =
      absurd (low (front u) (zeros (suc q) ++ []) (zeros q ++ (1 ∷ u)) e (ap (λ a. a ++ front u) (append-nil (zeros (suc q))) ∙ zeros_swap (suc q) z (1 ∷ u)))
  blocks_have_ones (zero ∷ r) u q h (zero∷ x) e = go (λ k. blocks_have_ones r u (suc q) k x (e ∙ ap (λ a. front u ++ a) (sym (zeros_round q r)))) (le_or (suc q) z)
    where
      go : (suc q ≤ z → length r + suc q ≤ suc z * sum r) → (suc q ≤ z) ⊎ (z < suc q) → length (0 ∷ r) + q ≤ suc z * sum (0 ∷ r)
      go ih (inl k) = omega (arith, ih k)
      go ih (inr k) =
          let same : q ≡ z = omega arith in
          absurd (low (front u) (zeros q ++ (0 ∷ r)) (r ++ front u) e (append_assoc (zeros q) (0 ∷ r) (front u) ∙ ap (λ k. zeros k ++ (0 ∷ (r ++ front u))) same))
  blocks_have_ones (suc (suc k) ∷ r) u q h x e = elim x [ ]
  blocks_have_ones (suc zero ∷ r) u q h (one∷ x) e =
      let u' : List ℕ = u ++ (zeros q ++ (1 ∷ [])) in
      omega (arith, blocks_have_ones r u' 0 (omega arith) x (e ∙ simp append_assoc))

-- ---- what rules a prefix out

module _ (n d : ℕ) (a : List ℕ) (h : length a ≤ n) where
  counts : (b : Begun n d a) → (sum a + sum b.rest ≡ d) × (length a + length b.rest ≡ n)
  counts b = (sym (sum-append a b.rest) ∙ member_sum b.member, sym (length-append a b.rest) ∙ b.member.long)

  pub too_many : d < sum a → begins n d a ≡ false
  too_many k = never (begins n d a) (λ e. omega (arith, (counts (begins→ n d a e)).0))

  pub too_few : n - length a < d - sum a → begins n d a ≡ false
  too_few k = never (begins n d a) (λ e. let b = begins→ n d a e in omega (arith, (counts b).0, (counts b).1, binary_sum (binary_behind a b.member.binary)))

  -- z zeros, and then a 1
  pub too_sparse : (z : ℕ) → z < length a → take z a ≡ zeros z → get_or a z 0 ≡ 1 → suc z * (d - sum a) < n - length a → begins n d a ≡ false
  too_sparse z l t o k = never (begins n d a) absurdly
    where
      u : List ℕ
      u = drop (suc z) a

      is : a ≡ zeros z ++ (1 ∷ u)
      is = sym (take-append-drop z a) ∙ rw (t, drop-cons a z 0 l, o)

      absurdly : begins n d a ≡ true → ⊥
      absurdly e =
          let b = begins→ n d a e in
          let r = b.rest in
          let whole : a ++ r ≡ zeros z ++ (1 ∷ (u ++ r)) = ap (λ w. w ++ r) is ∙ append_assoc (zeros z) (1 ∷ u) r in
          let bound = blocks_have_ones z (a ++ r) (u ++ r) whole b.member.least r u 0 (omega arith) (binary_behind a b.member.binary) (ap (λ w. w ++ r) is) in
          let rest : sum r ≡ d - sum a = omega (arith, (counts b).0) in
          let scaled = ap (λ x. suc z * x) rest in
          omega (arith, (counts b).1, bound, scaled)
