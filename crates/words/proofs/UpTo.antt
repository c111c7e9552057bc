-- The rows of a falling list at or below a row: at a place of the list they are those from there on.
use mathlib.Core.Bool.{Bool, and-false, false, true, ◌&&◌}
use mathlib.Core.List.Memᴰ
use mathlib.Core.List.{List, Memᴰ, [], append_assoc, reverse, reverse-append, reverse-cons, ◌++◌, ◌∷◌}
use mathlib.Core.Logic.{inl, inr, ◌⊎◌}
use mathlib.Core.Path.{ap, refl, sym, ◌∙◌, ◌≡◌}
use Prim.Native.Nat.{suc, ℕ, ◌<◌, ◌≤◌}
use native.Mathlib.Omega.{arith}
use lib.ListN.{get_or, length, length-reverse}
use lib.Seq.{get_or_at}
use Rattle.words.proofs.AtMost.{equal, lower, ≼_trans, ≺-≼_trans, ◌≼◌}
use Rattle.words.proofs.Below.{le_or, ◌≺◌}
use Rattle.words.proofs.Falling.{falling_back, falls_below, keep_fewer}
use Rattle.words.proofs.Lists.{keep_all, keep-keep, keep_same}
use Rattle.words.proofs.OrderTests.{le→, not_le, →le}
use Rattle.words.specs.Falling.{Falling}
use Rattle.words.specs.Order.{le}
use Rattle.words.specs.Tests.{keep}

-- the rows of l at or below w
abbrev pub up_to : List ℕ → List (List ℕ) → List (List ℕ)
up_to w l = keep (λ x. le x w) l

-- a lower row has no more of them
pub up_to_less : (r w : List ℕ) (l : List (List ℕ)) → r ≼ w → length (up_to r l) ≤ length (up_to w l)
up_to_less r w l h = rw (keep_same (λ x. le x r) (λ x. le x w && le x r) l (λ x m. go x (le x r) refl) ∙ sym (keep-keep (λ x. le x w) (λ x. le x r) l)) (keep_fewer (λ x. le x r) (up_to w l))
  where
    go : (x : List ℕ) (b : Bool) → le x r ≡ b → le x r ≡ (le x w && le x r)
    go x true e = rw (e, →le x w (≼_trans (le→ x r e) h))
    go x false e = rw (e, and-false (le x w))

-- ---- at a place of a falling list

module _ (w r : List ℕ) (b : List (List ℕ)) (low : w ≼ r) where
  -- the rows before r are not among them
  pub above : (a : List (List ℕ)) → Falling (a ++ (r ∷ b)) → up_to w (a ++ (r ∷ b)) ≡ up_to w (r ∷ b)
  unfolding keep
  above [] f = refl
  above (c ∷ a) f =
      let first : r ≺ c = falls_below f r (Memᴰ.append_right a (Memᴰ.head refl)) in
      rw (not_le c w (go low first)) (above a (falling_back (c ∷ []) (a ++ (r ∷ b)) f))
    where
      go : w ≼ r → {c : List ℕ} → r ≺ c → w ≺ c
      go (equal e) k = rw e k
      go (lower h) k = ≺-≼_trans h (lower k)

module _ (a : List (List ℕ)) (r : List ℕ) (b : List (List ℕ)) (f : Falling (a ++ (r ∷ b))) where
  -- of r: itself, and those behind it
  pub at_place : up_to r (a ++ (r ∷ b)) ≡ r ∷ b
  unfolding keep
  at_place = above r r b (equal refl) a f ∙ rw (→le r r (equal refl)) (ap {B = List (List ℕ)} (λ t. r ∷ t) (keep_all (λ x. le x r) b (λ x m. →le x r (lower (falls_below (falling_back a (r ∷ b) f) x m)))))

  -- of a row below r there are fewer
  pub before_place : (w : List ℕ) → w ≺ r → length (up_to w (a ++ (r ∷ b))) ≤ length b
  unfolding keep
  before_place w h = rw (above w r b (lower h) a f, not_le r w h) (keep_fewer (λ x. le x w) b)

-- ---- a place for each number, counted from the end

pub record Place (l : List (List ℕ)) (s : ℕ) : Type 0 where
  pub before : List (List ℕ)
  pub row : List ℕ
  pub behind : List (List ℕ)
  pub whole : l ≡ before ++ (row ∷ behind)
  pub count : suc (length behind) ≡ s

pub place : (l : List (List ℕ)) (s : ℕ) → 0 < s → s ≤ length l → Place l s
place [] s p h = absurd (omega arith)
place (x ∷ l) s p h = go (place l s p) (le_or s (length l))
  where
    go : (s ≤ length l → Place l s) → (s ≤ length l) ⊎ (length l < s) → Place (x ∷ l) s
    go ih (inl k) = let q = ih k in record { before = x ∷ q.before; row = q.row; behind = q.behind; whole = ap {B = List (List ℕ)} (λ t. x ∷ t) q.whole; count = q.count }
    go ih (inr k) = record { before = []; row = x; behind = l; whole = refl; count = omega arith }

-- and for each member
pub place_of : {r : List ℕ} {l : List (List ℕ)} → Memᴰ r l → (a : List (List ℕ)) × (b : List (List ℕ)) × (l ≡ a ++ (r ∷ b))
place_of (Memᴰ.head {x = x} {xs = l} e) = ([], l, ap {B = List (List ℕ)} (λ t. t ∷ l) (sym e))
place_of (Memᴰ.tail {x = x} {xs = l} m) = let k = place_of m in (x ∷ k.0, k.1, ap {B = List (List ℕ)} (λ t. x ∷ t) k.2)

-- the entry of that number in the list, rising
pub entry_there : (a : List (List ℕ)) (r : List ℕ) (b : List (List ℕ)) → get_or (reverse (a ++ (r ∷ b))) (length b) [] ≡ r
entry_there a r b =
    rw (reverse-append a (r ∷ b), reverse-cons r b, append_assoc (reverse b) (r ∷ []) (reverse a))
    (get_or_at (reverse b) r (reverse a) [] (length b) (length-reverse b))
