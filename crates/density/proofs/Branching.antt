-- What one question tells of the rows to come: below u 1 0..0, and at or below u 1..1.
use mathlib.Core.Bool.{false, true, true≢false}
use mathlib.Core.List.Memᴰ
use mathlib.Core.List.{List, Memᴰ, [], append_assoc, ◌++◌, ◌∷◌}
use mathlib.Core.Logic.{inl, inr, ◌⊎◌}
use mathlib.Core.Path.{ap, refl, sym, ◌∙◌, ◌≡◌}
use Prim.Native.Nat.{suc, zero, ℕ, ◌+◌}
use native.Mathlib.Omega.{arith}
use lib.Dec.{lit<}
use lib.ListN.{length, length-append}
use Rattle.density.proofs.Binary.{Binary, binary_behind, empty, one∷, zero∷}
use Rattle.density.proofs.Members.{Begun, Member, begins→, member→, necklaces_falling, not_begins, →member}
use Rattle.density.specs.Necklaces.{begins, necklaces, necklaces_below, necklaces_up_to}
use Rattle.words.proofs.AtMost.{lower}
use Rattle.words.proofs.Below.{here, ≺_asym, ≺_irrefl, ◌≺◌}
use Rattle.words.proofs.Beside.{Beside, beside, higher_in, le_higher_in, le_lower_in, le_starts, lower_in, lt_higher_in, lt_lower_in, lt_starts, not_under_zeros, starts}
use Rattle.words.proofs.Falling.{falls_below, keep_falling}
use Rattle.words.proofs.FirstDifference.{ext_left, ext_right, ◌≪◌}
use Rattle.words.proofs.Lists.{keep_same, keep→, →keep}
use Rattle.words.proofs.OrderTests.{not_le, not_lt, →le, →lt}
use Rattle.words.specs.Falling.{Falling}
use Rattle.words.specs.Order.{cmp, le, lt}
use Rattle.words.specs.Symbols.{ones, zeros}

-- no row of k symbols is above k ones
pub under_ones : {z : List ℕ} (k : ℕ) → Binary z → length z ≡ k → le z (ones k) ≡ true
unfolding le cmp
under_ones zero empty l = refl
under_ones (suc k) empty l = absurd (omega arith)
under_ones zero (zero∷ b) l = absurd (omega arith)
under_ones (suc k) (zero∷ {w = w} b) l = →le (0 ∷ w) (1 ∷ ones k) (lower (here (lit< tt)))
under_ones zero (one∷ b) l = absurd (omega arith)
under_ones (suc k) (one∷ b) l = under_ones k b (omega arith)

-- ---- a row of zeros and ones beside u 0.. and u 1..

pub data Branches (u : List ℕ) (k : ℕ) (r : List ℕ) : Type 0 where
  lower_than : ◌≪◌ r u → Branches u k r
  with_zero : (z : List ℕ) → r ≡ u ++ (0 ∷ z) → Binary z → length z ≡ k → Branches u k r
  with_one : (z : List ℕ) → r ≡ u ++ (1 ∷ z) → Binary z → length z ≡ k → Branches u k r
  higher_than : ◌≪◌ u r → Branches u k r

pub branches : (u : List ℕ) (k : ℕ) (r : List ℕ) → Binary r → length r ≡ length u + suc k → Branches u k r
branches u k r b l = go (beside u r (omega arith))
  where
    next_bit : {z : List ℕ} → Binary z → length z ≡ suc k → r ≡ u ++ z → Branches u k r
    next_bit empty m e = absurd (omega arith)
    next_bit (zero∷ {w = z} c) m e = with_zero z e c (omega arith)
    next_bit (one∷ {w = z} c) m e = with_one z e c (omega arith)

    go : Beside u r → Branches u k r
    go (lower_in h) = lower_than h
    go (starts z e) = next_bit (binary_behind u (rw e at b)) (omega (arith, simp length-append at (ap length e))) e
    go (higher_in h) = higher_than h

-- the tests where r starts with u
module _ (u z y : List ℕ) {r : List ℕ} where
  lt_as : r ≡ u ++ z → lt r (u ++ y) ≡ lt z y
  lt_as e = rw e (lt_starts u z y)

  le_as : r ≡ u ++ z → le r (u ++ y) ≡ le z y
  le_as e = rw e (le_starts u z y)

lt_one_one : (z : List ℕ) (k : ℕ) → length z ≡ k → lt (1 ∷ z) (1 ∷ zeros k) ≡ false
unfolding lt cmp
lt_one_one z k l = not_under_zeros z k l

le_zero_zero : {z : List ℕ} (k : ℕ) → Binary z → length z ≡ k → le (0 ∷ z) (0 ∷ ones k) ≡ true
unfolding le cmp
le_zero_zero k b l = under_ones k b l

zero_one : (z y : List ℕ) → (0 ∷ z) ≺ (1 ∷ y)
zero_one z y = here (lit< tt)

one_not_lt : (z y : List ℕ) → lt (1 ∷ z) (0 ∷ y) ≡ false
one_not_lt z y = not_lt (1 ∷ z) (0 ∷ y) (lower (zero_one y z))

module _ (n d : ℕ) (u : List ℕ) (k : ℕ) (fits : length u + suc k ≡ n) where
  at_branches : (r : List ℕ) → Memᴰ r (necklaces n d) → Branches u k r
  at_branches r m = let i = member→ n d r m in branches u k r i.binary (i.long ∙ sym fits)

  no_way : (b : ℕ) → begins n d (u ++ (b ∷ [])) ≡ false → {r : List ℕ} (z : List ℕ) → Memᴰ r (necklaces n d) → r ≡ u ++ (b ∷ z) → ⊥
  no_way b nay {r} z m e = not_begins n d (u ++ (b ∷ [])) nay (record { rest = z; member = member→ n d _ (rw append_assoc (rw e at m)) })

  -- no row starts with u 0: below u 1 0..0 is below u 0 0..0
  pub down_no : begins n d (u ++ (0 ∷ [])) ≡ false → necklaces_below n d (u ++ (1 ∷ zeros k)) ≡ necklaces_below n d (u ++ (0 ∷ zeros k))
  unfolding necklaces_below
  down_no nay = keep_same (λ r. lt r (u ++ (1 ∷ zeros k))) (λ r. lt r (u ++ (0 ∷ zeros k))) (necklaces n d) (λ r m. go r m (at_branches r m))
    where
      go : (r : List ℕ) → Memᴰ r (necklaces n d) → Branches u k r → lt r (u ++ (1 ∷ zeros k)) ≡ lt r (u ++ (0 ∷ zeros k))
      go r m (lower_than h) = lt_lower_in _ h ∙ sym (lt_lower_in _ h)
      go r m (with_zero z e b l) = absurd (no_way 0 nay z m e)
      go r m (with_one z e b l) = lt_as u _ _ e ∙ lt_one_one z k l ∙ sym (lt_as u _ _ e ∙ one_not_lt z _)
      go r m (higher_than h) = lt_higher_in _ h ∙ sym (lt_higher_in _ h)

  -- below u 1 0..0 is at or below u 0 1..1
  pub down_yes : necklaces_below n d (u ++ (1 ∷ zeros k)) ≡ necklaces_up_to n d (u ++ (0 ∷ ones k))
  unfolding necklaces_below necklaces_up_to
  down_yes = keep_same (λ r. lt r (u ++ (1 ∷ zeros k))) (λ r. le r (u ++ (0 ∷ ones k))) (necklaces n d) (λ r m. go r (at_branches r m))
    where
      go : (r : List ℕ) → Branches u k r → lt r (u ++ (1 ∷ zeros k)) ≡ le r (u ++ (0 ∷ ones k))
      go r (lower_than h) = lt_lower_in _ h ∙ sym (le_lower_in _ h)
      go r (with_zero z e b l) = lt_as u _ _ e ∙ →lt _ _ (zero_one z _) ∙ sym (le_as u _ _ e ∙ le_zero_zero k b l)
      go r (with_one z e b l) = lt_as u _ _ e ∙ lt_one_one z k l ∙ sym (le_as u _ _ e ∙ not_le _ _ (zero_one _ z))
      go r (higher_than h) = lt_higher_in _ h ∙ sym (le_higher_in _ h)

  -- no row starts with u 1: at or below u 1 1..1 is at or below u 0 1..1
  pub up_no : begins n d (u ++ (1 ∷ [])) ≡ false → necklaces_up_to n d (u ++ (1 ∷ ones k)) ≡ necklaces_up_to n d (u ++ (0 ∷ ones k))
  unfolding necklaces_up_to
  up_no nay = keep_same (λ r. le r (u ++ (1 ∷ ones k))) (λ r. le r (u ++ (0 ∷ ones k))) (necklaces n d) (λ r m. go r m (at_branches r m))
    where
      go : (r : List ℕ) → Memᴰ r (necklaces n d) → Branches u k r → le r (u ++ (1 ∷ ones k)) ≡ le r (u ++ (0 ∷ ones k))
      go r m (lower_than h) = le_lower_in _ h ∙ sym (le_lower_in _ h)
      go r m (with_zero z e b l) = le_as u _ _ e ∙ →le _ _ (lower (zero_one z _)) ∙ sym (le_as u _ _ e ∙ le_zero_zero k b l)
      go r m (with_one z e b l) = absurd (no_way 1 nay z m e)
      go r m (higher_than h) = le_higher_in _ h ∙ sym (le_higher_in _ h)

  -- a row that starts with u starts with u 0, if none starts with u 1
  pub other_way : begins n d u ≡ true → begins n d (u ++ (1 ∷ [])) ≡ false → Begun n d (u ++ (0 ∷ []))
  other_way aye nay = go (at_branches (u ++ s.rest) (→member s.member))
    where
      s : Begun n d u
      s = begins→ n d u aye

      go : Branches u k (u ++ s.rest) → Begun n d (u ++ (0 ∷ []))
      go (lower_than h) = absurd (≺_irrefl (ext_right h s.rest))
      go (with_zero z e b l) = record { rest = z; member = rw append_assoc (rw e at s.member) }
      go (with_one z e b l) = absurd (no_way 1 nay z (→member s.member) e)
      go (higher_than h) = absurd (≺_irrefl (ext_left h s.rest))

  -- if a row starts with u 0, the highest below u 1 0..0 does
  pub record Next : Type 0 where
    pub tail : List ℕ
    pub rest : List (List ℕ)
    pub is : necklaces_below n d (u ++ (1 ∷ zeros k)) ≡ (u ++ (0 ∷ tail)) ∷ rest
    pub long : length tail ≡ k

  pub next : begins n d (u ++ (0 ∷ [])) ≡ true → Next
  unfolding necklaces_below
  next aye = go (necklaces_below n d x) refl
    where
      x : List ℕ
      x = u ++ (1 ∷ zeros k)

      s : Begun n d (u ++ (0 ∷ []))
      s = begins→ n d (u ++ (0 ∷ [])) aye

      -- a row that starts so, as a row below x
      v : List ℕ
      v = u ++ (0 ∷ s.rest)

      v_in : Memᴰ v (necklaces_below n d x)
      v_in = →keep (λ r. lt r x) v (necklaces n d) (rw append_assoc at (→member s.member)) (lt_starts u _ _ ∙ →lt _ _ (zero_one s.rest (zeros k)))

      not_lower : (r : List ℕ) (rs : List (List ℕ)) → Falling (r ∷ rs) → Memᴰ v (r ∷ rs) → r ≺ v → ⊥
      not_lower r rs f m h = pick (Memᴰ.cases_cons m)
        where
          pick : (v ≡ r) ⊎ Memᴰ v rs → ⊥
          pick (inl e) = ≺_irrefl (rw e at h)
          pick (inr k) = ≺_asym h (falls_below f v k)

      go : (l : List (List ℕ)) → necklaces_below n d x ≡ l → Next
      go [] e = absurd (Memᴰ.not-nil (rw e at v_in))
      go (r ∷ rs) e = at (at_branches r k'.0)
        where
          k' : Memᴰ r (necklaces n d) × (lt r x ≡ true)
          k' = keep→ (λ r. lt r x) r (necklaces n d) (rw (← e) at (Memᴰ.head {x = r} {xs = rs} refl))

          at : Branches u k r → Next
          at (lower_than h) = absurd (not_lower r rs (rw e at (keep_falling (λ r. lt r x) (necklaces_falling n d))) (rw e at v_in) (ext_right h (0 ∷ s.rest)))
          at (with_zero z q b l) = record { tail = z; rest = rs; is = e ∙ ap {B = List (List ℕ)} (λ t. t ∷ rs) q; long = l }
          at (with_one z q b l) = absurd (true≢false (sym k'.1 ∙ lt_as u _ _ q ∙ lt_one_one z k l))
          at (higher_than h) = absurd (true≢false (sym k'.1 ∙ lt_higher_in _ h))

  -- what is below u 0 0..0 is lower within u
  pub within : (r : List ℕ) → Memᴰ r (necklaces_below n d (u ++ (0 ∷ zeros k))) → ◌≪◌ r u
  unfolding necklaces_below
  within r m = go (at_branches r q.0)
    where
      q : Memᴰ r (necklaces n d) × (lt r (u ++ (0 ∷ zeros k)) ≡ true)
      q = keep→ (λ r. lt r (u ++ (0 ∷ zeros k))) r (necklaces n d) m

      go : Branches u k r → ◌≪◌ r u
      go (lower_than h) = h
      go (with_zero z e b l) = absurd (true≢false (sym q.1 ∙ lt_as u _ _ e ∙ not_under_zeros (0 ∷ z) (suc k) (ap suc l)))
      go (with_one z e b l) = absurd (true≢false (sym q.1 ∙ lt_as u _ _ e ∙ one_not_lt z _))
      go (higher_than h) = absurd (true≢false (sym q.1 ∙ lt_higher_in _ h))

-- what begins a ring has one at or below it and then ones
pub up_some : (n d : ℕ) (u : List ℕ) (k : ℕ) → length u + k ≡ n → begins n d u ≡ true → necklaces_up_to n d (u ++ ones k) ≡ [] → ⊥
unfolding necklaces_up_to
up_some n d u k l e nil = Memᴰ.not-nil (rw nil at (→keep (λ r. le r (u ++ ones k)) (u ++ s.rest) (necklaces n d) (→member s.member) low))
  where
    s : Begun n d u
    s = begins→ n d u e

    i : Member n d (u ++ s.rest)
    i = s.member

    low : le (u ++ s.rest) (u ++ ones k) ≡ true
    low = le_starts u s.rest (ones k) ∙ under_ones k (binary_behind u i.binary) (omega (arith, i.long, length-append u s.rest))
