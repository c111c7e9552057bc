-- The necklaces of (n, d) below a row, and up to it.
use mathlib.Core.Bool.{Bool, false, true, true≢false, ◌&&◌}
use mathlib.Core.List.{List, Memᴰ, [], append_assoc, map, ◌++◌, ◌∷◌}
use mathlib.Core.Logic.{inl, inr, ◌⊎◌}
use mathlib.Core.Path.{ap, ap₂, refl, sym, ◌∙◌, ◌≡◌}
use Prim.Native.Nat.{Ordering, suc, ℕ, ◌<◌, ◌≤◌}
use native.Mathlib.Nat.{eq-or-lt_of_le}
use native.Mathlib.Omega.{arith}
use lib.Dec.{is_le}
use lib.ListN.{length}
use Rattle.density.proofs.Binary.{Binary, empty, one∷, zero∷}
use Rattle.density.proofs.Enumeration.{out_rows}
use Rattle.density.proofs.Members.{is_necklace_of→, member_test, member→, necklaces_falling}
use Rattle.density.specs.Density.{all_rows}
use Rattle.density.specs.Necklaces.{is_necklace_of, necklaces, necklaces_below, necklaces_up_to}
use Rattle.words.proofs.AtMost.{lower, ≼_refl, ≼_there, ≼-uncons, ◌≼◌}
use Rattle.words.proofs.Below.{Means, cmp_means, here, is_eq, is_gt, is_less, ◌≺◌}
use Rattle.words.proofs.Beside.{not_under_zeros}
use Rattle.words.proofs.Falling.{keep-none, rest_below}
use Rattle.words.proofs.Booleans.{and→}
use Rattle.words.proofs.Lists.{keep_append, keep-keep, keep-map, keep_same, keep→}
use Rattle.words.proofs.OrderTests.{lt→, not_lt}
use Rattle.words.proofs.PowerOrder.{Necklace}
use Rattle.words.specs.Order.{is_lt, le, lt}
use Rattle.words.specs.Symbols.{zeros}
use Rattle.words.specs.Tests.{keep}

-- the rows below x are the first of them and the rows below that one
module _ (n d : ℕ) (x r : List ℕ) (rs : List (List ℕ)) (first : necklaces_below n d x ≡ r ∷ rs) where
  r_in : Memᴰ r (necklaces n d) × (lt r x ≡ true)
  unfolding necklaces_below
  r_in = keep→ (λ v. lt v x) r (necklaces n d) (rw (← first) at (Memᴰ.head {x = r} {xs = rs} refl))

  -- the first of the rows below x is below x
  pub next_below : r ≺ x
  next_below = lt→ r x r_in.1

  -- the others are the rows below it
  pub next_rest : necklaces_below n d r ≡ rs
  unfolding necklaces_below
  next_rest = rest_below (necklaces_falling n d) next_below r_in.0 first

-- none is equal to a row that is no ring
pub not_itself : (n d : ℕ) (x : List ℕ) → is_necklace_of d x ≡ false → necklaces_below n d x ≡ necklaces_up_to n d x
unfolding necklaces_below necklaces_up_to lt le
not_itself n d x no-ring = keep_same (λ r. lt r x) (λ r. le r x) (necklaces n d) same
  where
    same : (r : List ℕ) → Memᴰ r (necklaces n d) → lt r x ≡ le r x
    same r m = go (cmp_means r x)
      where
        go : {o : Ordering} → Means ◌≺◌ r x o → is_lt o ≡ is_le o
        go (is_less h) = refl
        go (is_eq e) = absurd (true≢false (sym (member_test (member→ n d r m)) ∙ ap (is_necklace_of d) e ∙ no-ring))
        go (is_gt h) = refl

-- nothing is below zeros
pub under_zeros : (n d : ℕ) → necklaces_below n d (zeros n) ≡ []
unfolding necklaces_below
under_zeros n d = keep-none (λ r. lt r (zeros n)) (necklaces n d) (λ r m e. true≢false (sym e ∙ not_under_zeros r n (member→ n d r m).long))

-- ---- a ring that begins with 1 has no 0, so it is not below any row

module _ {r : List ℕ} (s : Necklace (1 ∷ r)) where
  no_zero : (x y : List ℕ) (b : ℕ) → 1 ∷ r ≡ x ++ (b ∷ y) → 1 ≤ b
  no_zero x y b e = go (≼-uncons (s x (b ∷ y) e))
    where
      go : (1 < b) ⊎ ((1 ≡ b) × (r ≼ (y ++ x))) → 1 ≤ b
      go (inl h) = omega arith
      go (inr h) = omega (arith, h.0)

  -- x, and then z, is the ring; l is no higher than z
  high : (x : List ℕ) {l : List ℕ} → Binary l → (z : List ℕ) → length l ≡ length z → 1 ∷ r ≡ x ++ z → l ≼ z
  high x empty [] e q = ≼_refl []
  high x empty (b ∷ z) e q = absurd (omega arith)
  high x (zero∷ l) [] e q = absurd (omega arith)
  high x (zero∷ l) (b ∷ z) e q = lower (here (no_zero x z b q))
  high x (one∷ l) [] e q = absurd (omega arith)
  high x (one∷ l) (b ∷ z) e q = go (eq-or-lt_of_le (no_zero x z b q)) (high (x ++ (b ∷ [])) l z (omega arith) (q ∙ sym (append_assoc x (b ∷ []) z)))
    where
      go : {l : List ℕ} → (1 ≡ b) ⊎ (1 < b) → l ≼ z → (1 ∷ l) ≼ (b ∷ z)
      go (inl h) k = rw (← h) (≼_there 1 k)
      go (inr h) k = lower (here h)

-- so the rings below a row begin with 0
pub below_begin : (n d : ℕ) (x : List ℕ) → Binary x → length x ≡ suc n → necklaces_below (suc n) d x ≡ map (λ w. 0 ∷ w) (keep (λ w. is_necklace_of d (0 ∷ w) && lt (0 ∷ w) x) (all_rows n))
unfolding necklaces_below necklaces all_rows
below_begin n d x b l =
    keep-keep (is_necklace_of d) (λ r. lt r x) (all_rows (suc n)) ∙ keep_append ring (map (λ w. 1 ∷ w) (all_rows n)) (map (λ w. 0 ∷ w) (all_rows n))
    ∙ ap₂ (λ (p q : List (List ℕ)). p ++ q) (keep-map ring 1 (all_rows n) ∙ ap (map (λ w. 1 ∷ w)) none) (keep-map ring 0 (all_rows n))
  where
    ring : List ℕ → Bool
    ring r = is_necklace_of d r && lt r x

    none : keep (λ w. ring (1 ∷ w)) (all_rows n) ≡ []
    none = keep-none (λ w. ring (1 ∷ w)) (all_rows n) (λ w m e.
        let h = and→ (is_necklace_of d (1 ∷ w)) (lt (1 ∷ w) x) e in
        let k = high (is_necklace_of→ d (1 ∷ w) h.0).1 [] b (1 ∷ w) (l ∙ ap suc (sym (out_rows n w m).0)) refl in
        true≢false (sym h.1 ∙ not_lt (1 ∷ w) x k))
