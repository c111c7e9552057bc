-- Rows of zeros and ones.
use mathlib.Core.Bool.{true}
use mathlib.Core.List.{List, [], ◌++◌, ◌∷◌}
use mathlib.Core.Path.{refl, ◌≡◌}
use Prim.Native.Nat.{suc, zero, ℕ, ◌≤◌}
use native.Mathlib.Omega.{arith}
use lib.Dec.{lit<}
use lib.ListN.{get_or, length, replicate, set}
use Rattle.density.specs.Density.{density}
use Rattle.words.proofs.Alphabet.{within_set, within_tail}
use Rattle.words.proofs.AtMost.{equal, lower, ≼_there, ◌≼◌}
use Rattle.words.proofs.Below.{here}
use Rattle.words.proofs.HighestSymbol.{up_to→, →up_to}
use Rattle.words.proofs.Wrong.{right_within, within_right}
use Rattle.words.specs.Symbols.{Within, all_up_to, first_wrong, ones, sum}

pub data Binary : List ℕ → Type 0 where
  empty : Binary []
  zero∷ : {w : List ℕ} → Binary w → Binary (0 ∷ w)
  one∷ : {w : List ℕ} → Binary w → Binary (1 ∷ w)

pub binary_cons : (x : ℕ) {w : List ℕ} → x ≤ 1 → Binary w → Binary (x ∷ w)
binary_cons zero h b = zero∷ b
binary_cons (suc zero) h b = one∷ b
binary_cons (suc (suc x)) h b = absurd (omega arith)

-- where a head is a call, a match on `Binary` is refused: this instead
pub binary_uncons : {x : ℕ} {w : List ℕ} → Binary (x ∷ w) → (x ≤ 1) × Binary w
binary_uncons (zero∷ b) = (omega arith, b)
binary_uncons (one∷ b) = (omega arith, b)

pub binary_append : {a b : List ℕ} → Binary a → Binary b → Binary (a ++ b)
binary_append empty y = y
binary_append (zero∷ x) y = zero∷ (binary_append x y)
binary_append (one∷ x) y = one∷ (binary_append x y)

pub binary_front : (a b : List ℕ) → Binary (a ++ b) → Binary a
binary_front [] b x = empty
binary_front (c ∷ a) b x = let q = binary_uncons x in binary_cons c q.0 (binary_front a b q.1)

pub binary_behind : (a : List ℕ) {b : List ℕ} → Binary (a ++ b) → Binary b
binary_behind [] x = x
binary_behind (c ∷ a) x = binary_behind a (binary_uncons x).1

pub binary_snoc : {a : List ℕ} → Binary a → (b : ℕ) → b ≤ 1 → Binary (a ++ (b ∷ []))
binary_snoc x b h = binary_append x (binary_cons b h empty)

pub binary_at : {a : List ℕ} → Binary a → (i : ℕ) → get_or a i 0 ≤ 1
binary_at empty i = omega arith
binary_at (zero∷ x) zero = omega arith
binary_at (zero∷ x) (suc i) = binary_at x i
binary_at (one∷ x) zero = omega arith
binary_at (one∷ x) (suc i) = binary_at x i

-- of an alphabet of two
pub binary_within : {w : List ℕ} → Binary w → Within 2 w
binary_within {w} b i h = omega (arith, binary_at b i)

pub within_binary : (w : List ℕ) → Within 2 w → Binary w
within_binary [] h = empty
within_binary (x ∷ w) h = binary_cons x (omega (arith, h 0 (omega arith))) (within_binary w (within_tail x w h))

pub binary_replicate : (n x : ℕ) → x ≤ 1 → Binary (replicate n x)
binary_replicate zero x h = empty
binary_replicate (suc n) x h = binary_cons x h (binary_replicate n x h)

pub binary_set : {x : List ℕ} → Binary x → (q b : ℕ) → Binary (b ∷ []) → Binary (set x q b)
binary_set {x} w q b c = within_binary (set x q b) (within_set x q b (binary_within w) (omega (arith, (binary_uncons c).0)))

-- ---- the tests: no symbol above 1, no wrong symbol

pub binary_test : {x : List ℕ} → Binary x → all_up_to 1 x ≡ true
binary_test {x} b = →up_to 1 x (binary_at b)

pub test_binary : (b : ℕ) (x : List ℕ) → b ≤ 1 → all_up_to b x ≡ true → Binary x
test_binary b x h e = within_binary x (λ i l. omega (arith, up_to→ b x e i))

-- a row without one is binary, and a binary row has none
pub no_wrong : (w : List ℕ) → first_wrong 2 w ≡ 0 → Binary w
no_wrong w e = within_binary w (right_within 2 w e)

pub binary_no_wrong : {w : List ℕ} → Binary w → first_wrong 2 w ≡ 0
binary_no_wrong {w} b = within_right 2 w (binary_within b)

-- ---- the density is the sum

pub density-sum : {w : List ℕ} → Binary w → density w ≡ sum w
unfolding density sum
density-sum empty = refl
density-sum (zero∷ b) = omega (arith, density-sum b)
density-sum (one∷ b) = omega (arith, density-sum b)

pub binary_sum : {a : List ℕ} → Binary a → sum a ≤ length a
unfolding sum
binary_sum empty = omega arith
binary_sum (zero∷ x) = omega (arith, binary_sum x)
binary_sum (one∷ x) = omega (arith, binary_sum x)

-- the highest row of k zeros and ones
pub ones_most : {w : List ℕ} → Binary w → (k : ℕ) → length w ≡ k → w ≼ ones k
ones_most empty zero l = equal refl
ones_most empty (suc k) l = absurd (omega arith)
ones_most (zero∷ b) zero l = absurd (omega arith)
ones_most (zero∷ b) (suc k) l = lower (here (lit< tt))
ones_most (one∷ b) zero l = absurd (omega arith)
ones_most (one∷ b) (suc k) l = ≼_there 1 (ones_most b k (omega arith))
