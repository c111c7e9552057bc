-- A row beside the beginning of another: it is lower within it, it starts with it, or it is higher within it.
use mathlib.Core.Bool.{false, true}
use mathlib.Core.List.{List, [], ◌++◌, ◌∷◌}
use mathlib.Core.Path.{refl, ◌≡◌}
use Prim.Native.Nat.{Ordering, suc, zero, ℕ, ◌<◌, ◌≤◌}
use native.Mathlib.Omega.{arith}
use lib.ListN.{length}
use Rattle.words.proofs.AtMost.{lower}
use Rattle.words.proofs.Below.{Means, cmp_under, compare_means, here, is_eq, is_gt, is_less}
use Rattle.words.proofs.FirstDifference.{at_head, ext_left, ext_right, in_tail, ◌≪◌}
use Rattle.words.proofs.OrderTests.{not_le, not_lt, →le, →lt}
use Rattle.words.specs.Order.{cmp, le, lt}
use Rattle.words.specs.Symbols.{zeros}

pub data Beside (u r : List ℕ) : Type 0 where
  lower_in : ◌≪◌ r u → Beside u r
  starts : (z : List ℕ) → r ≡ u ++ z → Beside u r
  higher_in : ◌≪◌ u r → Beside u r

pub beside : (u r : List ℕ) → length u ≤ length r → Beside u r
beside [] r l = starts r refl
beside (a ∷ u) [] l = absurd (omega arith)
beside (a ∷ u) (b ∷ r) l = go (compare_means b a) (beside u r (omega arith))
  where
    same : b ≡ a → Beside u r → Beside (a ∷ u) (b ∷ r)
    same e (lower_in h) = rw e (lower_in (in_tail h))
    same e (starts z f) = starts z (cc)
    same e (higher_in h) = rw e (higher_in (in_tail h))

    go : {o : Ordering} → Means ◌<◌ b a o → Beside u r → Beside (a ∷ u) (b ∷ r)
    go (is_less h) k = lower_in (at_head h)
    go (is_eq e) k = same e k
    go (is_gt h) k = higher_in (at_head h)

module _ {u r : List ℕ} (y : List ℕ) where
  pub lt_lower_in : ◌≪◌ r u → lt r (u ++ y) ≡ true
  lt_lower_in h = →lt r (u ++ y) (ext_right h y)

  pub lt_higher_in : ◌≪◌ u r → lt r (u ++ y) ≡ false
  lt_higher_in h = not_lt r (u ++ y) (lower (ext_left h y))

  pub le_lower_in : ◌≪◌ r u → le r (u ++ y) ≡ true
  le_lower_in h = →le r (u ++ y) (lower (ext_right h y))

  pub le_higher_in : ◌≪◌ u r → le r (u ++ y) ≡ false
  le_higher_in h = not_le r (u ++ y) (ext_left h y)

pub lt_starts : (u z y : List ℕ) → lt (u ++ z) (u ++ y) ≡ lt z y
unfolding lt
lt_starts u z y = rw cmp_under

pub le_starts : (u z y : List ℕ) → le (u ++ z) (u ++ y) ≡ le z y
unfolding le
le_starts u z y = rw cmp_under

-- no row of k symbols is below k zeros
pub not_under_zeros : (z : List ℕ) (k : ℕ) → length z ≡ k → lt z (zeros k) ≡ false
unfolding lt cmp
not_under_zeros [] zero l = refl
not_under_zeros [] (suc k) l = absurd (omega arith)
not_under_zeros (b ∷ z) zero l = absurd (omega arith)
not_under_zeros (zero ∷ z) (suc k) l = not_under_zeros z k (omega arith)
not_under_zeros (suc b ∷ z) (suc k) l = not_lt (suc b ∷ z) (0 ∷ zeros k) (lower (here (omega arith)))
