-- Prices: from u 1 0..0 to a row that starts with u 0, and from two rows that differ only after u.
use mathlib.Core.Bool.{Bool, false, true}
use mathlib.Core.List.{List, Memᴰ, [], ◌++◌, ◌∷◌}
use mathlib.Core.Path.{ap, refl, sym, ◌∙◌, ◌≡◌}
use Prim.Native.Nat.{suc, zero, ℕ, ◌+◌}
use native.Mathlib.Nat.{zero-add}
use native.Mathlib.Omega.{arith}
use lib.ListN.{length}
use borrow.Author.Tests.{eq-eqb, ne_eqb}
use Rattle.density.proofs.Counts.{density_last, density_one_more, density-zeros}
use Rattle.density.specs.Density.{density}
use Rattle.listing.specs.Listing.{Listing, counted, entry, front, lines_from, over, price, raise}
use Rattle.words.proofs.FirstDifference.{at_head, in_tail, ◌≪◌}
use Rattle.words.specs.Symbols.{zeros}

pub front_last : (w : List ℕ) (b : ℕ) → front (w ++ (b ∷ [])) ≡ w
unfolding front
front_last [] b = refl
front_last (x ∷ []) b = refl
front_last (x ∷ (y ∷ w)) b = ap {B = List ℕ} (λ t. x ∷ t) (front_last (y ∷ w) b)

pub front-zeros : (n : ℕ) → density (front (zeros n)) ≡ 0
unfolding density front
front-zeros zero = refl
front-zeros (suc zero) = refl
front-zeros (suc (suc n)) = front-zeros (suc n)

-- from u 1 0..0 to u 0 z: the hole, and each place after it
pub price_next : (u : List ℕ) (k : ℕ) (z : List ℕ) → length z ≡ k → price false (u ++ (1 ∷ zeros k)) (u ++ (0 ∷ z)) ≡ 1 + k
unfolding price density
price_next [] k z l = omega (arith, density-zeros k)
price_next (a ∷ u) k z l = rw (eq-eqb a a refl) (price_next u k z l)

-- if what is counted differs by c, so does the price of a row that is lower within u
module _ (l m : Bool) (c : ℕ) (y y' : List ℕ) (by : (w : List ℕ) → counted l (w ++ y) ≡ c + counted m (w ++ y')) where
  price_within : {r u : List ℕ} → ◌≪◌ r u → price l (u ++ y) r ≡ c + price m (u ++ y') r
  unfolding price
  price_within (at_head {x = b} {y = a} {xs = r} {ys = u} h) =
      rw (ne_eqb a b (λ e. omega arith)) (omega (arith, by (a ∷ u)))
  price_within (in_tail {x = a} {xs = r} {ys = u} h) = rw (eq-eqb a a refl) (price_within h)

  pub lines_within : (u : List ℕ) (rs : List (List ℕ)) → ((r : List ℕ) → Memᴰ r rs → ◌≪◌ r u)
      → lines_from l (u ++ y) rs ≡ raise c (lines_from m (u ++ y') rs)
  unfolding lines_from
  lines_within u [] h = rw (by u)
  lines_within u (r ∷ rs) h = rw (price_within (h r (Memᴰ.head refl)))

-- a hole less after u
pub lines_dearer : (u : List ℕ) (k : ℕ) (rs : List (List ℕ)) → ((r : List ℕ) → Memᴰ r rs → ◌≪◌ r u)
    → lines_from false (u ++ (1 ∷ zeros k)) rs ≡ raise 1 (lines_from false (u ++ (0 ∷ zeros k)) rs)
lines_dearer u k rs h = lines_within false false 1 _ _ (λ w. density_one_more w (zeros k)) u rs h

pub raise_zero : (l : Listing) → raise 0 l ≡ l
raise_zero over = refl
raise_zero (entry s k rest) = ap {B = Listing} (λ t. entry s t rest) (zero-add k)

-- the last hole of a line isn't counted
pub lines_cleared : (v : List ℕ) (rs : List (List ℕ)) → ((r : List ℕ) → Memᴰ r rs → ◌≪◌ r v)
    → lines_from true (v ++ (1 ∷ [])) rs ≡ lines_from false (v ++ (0 ∷ [])) rs
lines_cleared v rs h = lines_within true false 0 _ _ (λ w. ap density (front_last w 1) ∙ sym (density_last w) ∙ sym (zero-add _)) v rs h ∙ raise_zero _
