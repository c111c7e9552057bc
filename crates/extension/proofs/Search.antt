-- The search answers the prefix question.
use mathlib.Core.Bool.{false≢true, or-true, true, ◌&&◌}
use mathlib.Core.List.{List, [], ◌++◌, ◌∷◌}
use mathlib.Core.Logic.{inl, inr, ◌⊎◌}
use mathlib.Core.Path.{ap, refl, subst, sym, ◌∙◌, ◌≡◌}
use Prim.Native.Nat.{Ordering, suc, zero, ℕ, ◌%◌, ◌+◌, ◌-◌, ◌<◌, ◌≤◌}
use native.Mathlib.Omega.{arith}
use lib.Dec.{eqb}
use lib.ListN.{length, length-append}
use borrow.Author.Tests.{eq-eqb, eqb-true}
use Rattle.density.proofs.Begun.{begins_empty, begun_less, begun_more, begun_whole, nothing_left}
use Rattle.density.proofs.Binary.{Binary, binary_at, binary_behind, binary_snoc, binary_uncons}
use Rattle.density.proofs.Members.{Begun, begins→, member_of, member_sum, →begins}
use Rattle.density.specs.Necklaces.{begins}
use Rattle.extension.proofs.Fits.{fits→, →fits}
use Rattle.extension.specs.InnerSearch.{extends, extends_scanned, continues, fits}
use Rattle.words.proofs.Below.{Means, compare_means, is_eq, is_gt, is_less}
use Rattle.words.proofs.Booleans.{and→, or→, same_test, →and}
use Rattle.words.proofs.PowerOrder.{Necklace}
use Rattle.words.proofs.Prefixes.{Pre, falls, goes_on, leaves}
use Rattle.words.proofs.Repetition.{period-divides, whole_power}
use Rattle.words.proofs.ScanMeaning.{Scanned, has_period, no_necklace, scan_is}
use Rattle.words.specs.InnerScan.{Scan, next, ◌▹◌}
use Rattle.words.specs.Symbols.{sum}

-- ---- the search

module _ (n d p : ℕ) where
  pub continues→ : (m : ℕ) (a : List ℕ) → length a + m ≡ n → Pre a p → Binary a → continues d p m a ≡ true → Begun n d a
  unfolding continues next
  continues→ zero a h q x e =
      let t = and→ (eqb (length a % p) 0) (eqb (sum a) d) e in
      begun_whole (member_of (omega arith) x (eqb-true _ _ t.1) (whole_power q (eqb-true _ _ t.0)))
  continues→ (suc m) a h q x e =
      go (λ f. begun_less c (continues→ m (a ▹ c) (more c) (goes_on q) (binary_snoc x c (binary_at x (length a - p))) f))
      (or→ (eqb c 0 && fits d m (a ▹ 1)) (continues d p m (a ▹ c)) e)
    where
      c : ℕ
      c = next p a

      more : (b : ℕ) → length (a ▹ b) + m ≡ n
      more b = omega (arith, length-append a (b ∷ []))

      up : c ≡ 0 → fits d m (a ▹ 1) ≡ true → Begun n d a
      up z f = begun_less 1 (fits→ n d (a ▹ 1) (leaves q 1 (omega arith)) m (more 1) (binary_snoc x 1 (omega arith)) f)

      go : (continues d p m (a ▹ c) ≡ true → Begun n d a) → ((eqb c 0 && fits d m (a ▹ 1)) ≡ true) ⊎ (continues d p m (a ▹ c) ≡ true) → Begun n d a
      go ih (inl f) = let t = and→ (eqb c 0) (fits d m (a ▹ 1)) f in up (eqb-true _ _ t.0) t.1
      go ih (inr f) = ih f

  -- the necklace goes on with the period, or leaves it upwards
  pub →continues : (m : ℕ) (a : List ℕ) → length a + m ≡ n → Pre a p → Begun n d a → continues d p m a ≡ true
  unfolding continues
  →continues zero a h q b =
      let whole : a ++ b.rest ≡ a = nothing_left a b.rest (omega (arith, b.member.long)) in
      →and (eq-eqb _ _ (period-divides q (subst Necklace whole b.member.least))) (eq-eqb _ _ (ap sum (sym whole) ∙ member_sum b.member))
  →continues (suc m) a h q b = go b.rest refl (→continues m (a ▹ c) (more c) (goes_on q))
    where
      c : ℕ
      c = next p a

      more : (b : ℕ) → length (a ▹ b) + m ≡ n
      more b = omega (arith, length-append a (b ∷ []))

      -- the necklace goes on with e
      with_symbol : (e : ℕ) (r : List ℕ) → b.rest ≡ e ∷ r → (Begun n d (a ▹ c) → continues d p m (a ▹ c) ≡ true)
          → {o : Ordering} → Means ◌<◌ e c o → continues d p (suc m) a ≡ true
      with_symbol e r f ih (is_less k) = absurd (falls q e k r (subst (λ w. Necklace (a ++ w)) f b.member.least))
      with_symbol e r f ih (is_eq k) = rw (ih (begun_more c r b (f ∙ ap (λ x. x ∷ r) k))) (or-true (eqb c 0 && fits d m (a ▹ 1)))
      with_symbol e r f ih (is_gt k) =
          let one : e ≤ 1 = (binary_uncons (subst Binary f (binary_behind a b.member.binary))).0 in
          let t : fits d m (a ▹ 1) ≡ true = →fits n d (a ▹ 1) (leaves q 1 (omega arith)) m (more 1) (begun_more 1 r b (f ∙ ap (λ x. x ∷ r) (omega arith))) in
          rw (→and (eq-eqb c 0 (omega arith)) t)

      go : (r : List ℕ) → b.rest ≡ r → (Begun n d (a ▹ c) → continues d p m (a ▹ c) ≡ true) → continues d p (suc m) a ≡ true
      go [] f ih = absurd (omega (arith, simp length-append at b.member.long, ap length f))
      go (e ∷ r) f ih = with_symbol e r f ih (compare_means e c)

-- ---- the question

module _ (n d : ℕ) (a : List ℕ) (h : length a ≤ n) (x : Binary a) where
  pub scanned→ : {o : Scan} → Scanned a o → extends_scanned n d a o ≡ true → Begun n d a
  scanned→ (no_necklace f) e = absurd (false≢true e)
  scanned→ (has_period {p = p} q) e = continues→ n d p (n - length a) a (omega arith) q x e

  pub →scanned : {o : Scan} → Scanned a o → Begun n d a → extends_scanned n d a o ≡ true
  →scanned (no_necklace f) b = absurd (f b.rest b.member.least)
  →scanned (has_period {p = p} q) b = →continues n d p (n - length a) a (omega arith) q b

pub extends-begins : (n d : ℕ) (a : List ℕ) → 0 < n → d ≤ n → length a ≤ n → Binary a → extends n d a ≡ begins n d a
unfolding extends
extends-begins n d [] p l h x = sym (begins_empty n d p l)
extends-begins n d (b ∷ a) p l h x = same_test (extends n d (b ∷ a)) (begins n d (b ∷ a))
    (λ e. →begins (scanned→ n d (b ∷ a) h x (scan_is b a) e))
    (λ e. →scanned n d (b ∷ a) h x (scan_is b a) (begins→ n d (b ∷ a) e))
