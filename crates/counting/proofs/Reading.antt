-- A row read against a row v, as in a search for v: what of v is still to come. Nothing is left: v was met, or something lower.
use mathlib.Core.List.Memᴰ
use mathlib.Core.List.{List, Memᴰ, [], append_assoc, append-nil, ◌++◌, ◌∷◌}
use mathlib.Core.Logic.{inl, inr, ◌⊎◌}
use mathlib.Core.Path.{ap, refl, subst, sym, ◌∙◌, ◌≡◌}
use Prim.Native.Nat.{Ordering, compare, ℕ, ◌+◌, ◌<◌, ◌≤◌}
use native.Mathlib.Omega.{arith}
use lib.ListN.{drop, length, length-append}
use lib.Seq.{drop_at}
use Rattle.counting.proofs.Prenecklaces.{Prenecklace}
use Rattle.counting.proofs.Sums.{total_zero}
use Rattle.counting.specs.InnerSums.{total}
use Rattle.words.proofs.Below.{Means, compare_means, is_eq, is_gt, is_less, le_or}
use Rattle.words.proofs.FirstDifference.{at_head, in_tail, ◌≪◌}
use Rattle.words.specs.InnerScan.{◌▹◌}

-- the symbol read is below the one that was to come, the same, or above it (then a block ends, and v begins anew)
abbrev pub moved : Ordering → List ℕ → List ℕ → List ℕ
moved Ordering.lt r v = []
moved Ordering.eq r v = r
moved Ordering.gt r v = v

abbrev pub move : List ℕ → List ℕ → ℕ → List ℕ
move v [] b = []
move v (c ∷ r) b = moved (compare b c) r v

-- x is read where r, an end of v, is to come
unfoldable pub track : List ℕ → List ℕ → List ℕ → List ℕ
track v r [] = r
track v r (b ∷ x) = track v (move v r b) x

-- the ends of v that are not empty
unfoldable pub ends : List ℕ → List (List ℕ)
ends [] = []
ends (c ∷ r) = (c ∷ r) ∷ ends r

pub track_append : (v r x y : List ℕ) → track v r (x ++ y) ≡ track v (track v r x) y
unfolding track
track_append v r [] y = refl
track_append v r (b ∷ x) y = track_append v (move v r b) x y

pub track_dead : (v x : List ℕ) → track v [] x ≡ []
unfolding track
track_dead v [] = refl
track_dead v (b ∷ x) = track_dead v x

-- something of v is still to come
abbrev pub Alive : List ℕ → Type 0
Alive r = r ≡ [] → ⊥

pub alive_before : (v r x y : List ℕ) → Alive (track v r (x ++ y)) → Alive (track v r x)
alive_before v r x y a e = a (track_append v r x y ∙ ap (λ s. track v s y) e ∙ track_dead v y)

≪-under : (p : List ℕ) {a b : List ℕ} → ◌≪◌ a b → ◌≪◌ (p ++ a) (p ++ b)
≪-under [] h = h
≪-under (x ∷ p) h = in_tail (≪-under p h)

module _ (v : List ℕ) where
  -- r and s are ends of v, and what stands before s in v also stands before r
  pub record Lag (r s : List ℕ) : Type 0 where
    pub z : List ℕ
    pub p : List ℕ
    pub front : v ≡ (z ++ p) ++ r
    pub back : v ≡ p ++ s

  -- x is read from r, to r', and from s, to s': no block has ended, or both came to the same
  pub data Both (r x r' s' : List ℕ) : Type 0 where
    apart : r ≡ x ++ r' → Lag r' s' → Both r x r' s'
    joined : r' ≡ s' → Both r x r' s'

  pub lag_start : (p r : List ℕ) → v ≡ p ++ r → Lag r v
  lag_start p r e = record { z = p; p = []; front = e ∙ ap (λ s. s ++ r) (sym (append-nil p)); back = refl }

  lag_next : {b c d : ℕ} {r s : List ℕ} → b ≡ c → b ≡ d → Lag (c ∷ r) (d ∷ s) → Lag r s
  lag_next {b} {c} {d} {r} {s} e f l = record {
    z = l.z;
    p = l.p ▹ c;
    front = l.front ∙ simp append_assoc;
    back = l.back ∙ ap (λ t. l.p ++ (t ∷ s)) (sym f ∙ e) ∙ simp append_assoc;
  }

  module _ (self : Prenecklace v) where
    -- the symbol to come behind the shorter part is not above the other
    lag_head : {c d : ℕ} {r s : List ℕ} → Lag (c ∷ r) (d ∷ s) → d ≤ c
    lag_head {c} {d} {r} {s} l = go (le_or d c)
      where
        go : (d ≤ c) ⊎ (c < d) → d ≤ c
        go (inl h) = h
        go (inr h) = absurd (self l.z (l.p ++ (c ∷ r)) (l.front ∙ append_assoc l.z l.p (c ∷ r)) (subst (λ t. ◌≪◌ (l.p ++ (c ∷ r)) t) (sym l.back) (≪-under l.p (at_head h))))

    pub lag : (x r s : List ℕ) → Lag r s → Alive (track v r x) → Both r x (track v r x) (track v s x)
    unfolding track
    lag [] r s l a = apart refl l
    lag (b ∷ x) [] s l a = absurd (a (track_dead v x))
    lag (b ∷ x) (c ∷ r) [] l a = absurd (omega (arith, simp length-append at (ap length (sym l.front ∙ l.back))))
    lag (b ∷ x) (c ∷ r) (d ∷ s) l a = go (lag x) (compare_means b c) (compare_means b d) a
      where
        longer : {r' s' : List ℕ} → b ≡ c → Both r x r' s' → Both (c ∷ r) (b ∷ x) r' s'
        longer e (apart q k) = apart (cc) k
        longer e (joined q) = joined q

        behind : v ≡ ((l.z ++ l.p) ++ (c ∷ [])) ++ r
        behind = l.front ∙ simp append_assoc

        go : ((r s : List ℕ) → Lag r s → Alive (track v r x) → Both r x (track v r x) (track v s x))
            → {o p : Ordering} → Means ◌<◌ b c o → Means ◌<◌ b d p → Alive (track v (moved o r v) x)
            → Both (c ∷ r) (b ∷ x) (track v (moved o r v) x) (track v (moved p s v) x)
        go ih (is_less h) m a = absurd (a (track_dead v x))
        go ih (is_eq e) (is_less k) a = absurd (omega (arith, lag_head l))
        go ih (is_eq e) (is_eq f) a = longer e (ih r s (lag_next e f l) a)
        go ih (is_eq e) (is_gt k) a = longer e (ih r v (lag_start ((l.z ++ l.p) ++ (c ∷ [])) r behind) a)
        go ih (is_gt h) (is_less k) a = absurd (omega (arith, lag_head l))
        go ih (is_gt h) (is_eq f) a = absurd (omega (arith, lag_head l))
        go ih (is_gt h) (is_gt k) a = joined refl

-- ---- the ends that are not empty: each stands once in the list

pub record End (v r : List ℕ) : Type 0 where
  pub before : List ℕ
  pub whole : v ≡ before ++ r
  pub alive : Alive r

pub alive_size : (r : List ℕ) → Alive r → 0 < length r
alive_size [] a = absurd (a refl)
alive_size (c ∷ r) a = omega arith

pub cons_alive : (c : ℕ) (r : List ℕ) → Alive (c ∷ r)
cons_alive c r e = omega (arith, ap length e)

-- ends of one length are the same
pub same_end : (v q r p s : List ℕ) → v ≡ q ++ r → v ≡ p ++ s → length r ≡ length s → r ≡ s
same_end v q r p s e f l =
    let long : length q ≡ length p = omega (arith, ap length e ∙ length-append q r, ap length f ∙ length-append p s) in
    sym (drop_at q r (length p) long) ∙ ap (drop (length p)) (sym e ∙ f) ∙ drop_at p s (length p) refl

pub ends→ : (v r : List ℕ) → Memᴰ r (ends v) → End v r
unfolding ends
ends→ [] r m = absurd (Memᴰ.not-nil m)
ends→ (c ∷ v) r m = go (ends→ v r) (Memᴰ.cases_cons m)
  where
    go : (Memᴰ r (ends v) → End v r) → (r ≡ c ∷ v) ⊎ Memᴰ r (ends v) → End (c ∷ v) r
    go ih (inl e) = record { before = []; whole = sym e; alive = λ f. cons_alive c v (sym e ∙ f) }
    go ih (inr k) = let n = ih k in record { before = c ∷ n.before; whole = ap (λ s. c ∷ s) n.whole; alive = n.alive }

pub →ends : (p : List ℕ) {v r : List ℕ} → v ≡ p ++ r → Alive r → Memᴰ r (ends v)
unfolding ends
→ends [] {v} {r = []} e a = absurd (a refl)
→ends [] {v} {r = c ∷ r} e a = rw e (Memᴰ.head refl)
→ends (c ∷ p) {v} {r} e a = rw e (Memᴰ.tail (→ends p {v = p ++ r} refl a))

end_size : (v r : List ℕ) → Memᴰ r (ends v) → length r ≤ length v
end_size v r m = let n = ends→ v r m in omega (arith, simp length-append at (ap length n.whole))

-- a sum that is 1 at one end, and 0 at the others
pub one_end : (f : List ℕ → ℕ) (v r : List ℕ) → Memᴰ r (ends v) → f r ≡ 1
    → ((s : List ℕ) → Memᴰ s (ends v) → (s ≡ r → ⊥) → f s ≡ 0) → total f (ends v) ≡ 1
unfolding total ends
one_end f [] r m e h = absurd (Memᴰ.not-nil m)
one_end f (c ∷ v) r m e h = go (one_end f v r) (Memᴰ.cases_cons m)
  where
    go : (Memᴰ r (ends v) → f r ≡ 1 → ((s : List ℕ) → Memᴰ s (ends v) → (s ≡ r → ⊥) → f s ≡ 0) → total f (ends v) ≡ 1)
        → (r ≡ c ∷ v) ⊎ Memᴰ r (ends v) → f (c ∷ v) + total f (ends v) ≡ 1
    go ih (inl q) =
        let rest : total f (ends v) ≡ 0 = total_zero f (ends v) (λ s k. h s (Memᴰ.tail k) (λ i. omega (arith, end_size v s k, ap length (i ∙ q)))) in
        rw (rest, ← q, e)
    go ih (inr k) = rw (h (c ∷ v) (Memᴰ.head refl) (λ i. omega (arith, end_size v r k, ap length i)), ih k e (λ s n. h s (Memᴰ.tail n)))
