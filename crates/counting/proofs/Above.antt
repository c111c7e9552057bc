-- A row read against v: what it tells of the order, where something of v is still to come, and where nothing is.
use mathlib.Core.List.{List, [], append_assoc, append-nil, ◌++◌, ◌∷◌}
use mathlib.Core.Logic.{inl, inr, ◌⊎◌}
use mathlib.Core.Path.{ap, refl, sym, ◌∙◌, ◌≡◌}
use Prim.Native.Nat.{Ordering, compare, ℕ, ◌<◌}
use native.Mathlib.Omega.{arith}
use lib.ListN.{length, length-append}
use Rattle.counting.proofs.Reading.{Alive, alive_size, cons_alive, track_dead, moved, track}
use Rattle.words.proofs.Below.{Means, compare_means, here, is_eq, is_gt, is_less, there, ◌≺◌}
use Rattle.words.proofs.FirstDifference.{at_head, in_tail, ◌≪◌}
use Rattle.words.specs.InnerScan.{◌▹◌}

pub ≪→≺ : {a b : List ℕ} → ◌≪◌ a b → a ≺ b
≪→≺ (at_head h) = here h
≪→≺ (in_tail h) = there (≪→≺ h)

≪-size : {a b : List ℕ} → ◌≪◌ a b → 0 < length b
≪-size (at_head h) = omega arith
≪-size (in_tail h) = omega arith

pub ≪-more : {a b : List ℕ} (u : List ℕ) → ◌≪◌ a b → ◌≪◌ (a ++ u) b
≪-more u (at_head h) = at_head h
≪-more u (in_tail h) = in_tail (≪-more u h)

-- of a row with more behind it, where the row is as long
pub trim : (y t : List ℕ) {v : List ℕ} → length y ≡ length v → ◌≪◌ (y ++ t) v → ◌≪◌ y v
trim [] t {v = []} e h = absurd (omega (arith, ≪-size h))
trim [] t {v = c ∷ v} e h = absurd (omega arith)
trim (b ∷ y) t e (at_head h) = at_head h
trim (b ∷ y) t e (in_tail h) = in_tail (trim y t (omega arith) h)

module _ (v : List ℕ) where
  -- an end of v comes out, or nothing
  pub track_end : (x r p : List ℕ) → v ≡ p ++ r → (q : List ℕ) × (v ≡ q ++ track v r x)
  unfolding track
  track_end [] r p e = (p, e)
  track_end (b ∷ x) [] p e = track_end x [] p e
  track_end (b ∷ x) (c ∷ r) p e = go (track_end x) (compare b c)
    where
      go : ((r p : List ℕ) → v ≡ p ++ r → (q : List ℕ) × (v ≡ q ++ track v r x)) → (o : Ordering) → (q : List ℕ) × (v ≡ q ++ track v (moved o r v) x)
      go ih Ordering.lt = ih [] v (sym (append-nil v))
      go ih Ordering.eq = ih r (p ▹ c) (e ∙ simp append_assoc)
      go ih Ordering.gt = ih v [] refl

  -- what is read is above what was to come, or is its beginning
  read_above : (y r : List ℕ) → Alive (track v r y) → (◌≪◌ r y) ⊎ (r ≡ y ++ track v r y)
  unfolding track
  read_above [] r a = inr refl
  read_above (b ∷ y) [] a = absurd (a (track_dead v y))
  read_above (b ∷ y) (c ∷ r) a = go (read_above y) (compare_means b c) a
    where
      go : ((r : List ℕ) → Alive (track v r y) → (◌≪◌ r y) ⊎ (r ≡ y ++ track v r y)) → {o : Ordering} → Means ◌<◌ b c o
          → Alive (track v (moved o r v) y) → (◌≪◌ (c ∷ r) (b ∷ y)) ⊎ (c ∷ r ≡ b ∷ (y ++ track v (moved o r v) y))
      go ih (is_less h) a = absurd (a (track_dead v y))
      go ih (is_eq e) a = pick (ih r a)
        where
          pick : (◌≪◌ r y) ⊎ (r ≡ y ++ track v r y) → (◌≪◌ (c ∷ r) (b ∷ y)) ⊎ (c ∷ r ≡ b ∷ (y ++ track v r y))
          pick (inl h) = inl (rw e (in_tail h))
          pick (inr q) = inr (cc)
      go ih (is_gt h) a = inl (at_head h)

  pub alive_above : (y : List ℕ) → length y ≡ length v → Alive (track v v y) → v ≺ y
  alive_above y l a = go (read_above y v a)
    where
      go : (◌≪◌ v y) ⊎ (v ≡ y ++ track v v y) → v ≺ y
      go (inl h) = ≪→≺ h
      go (inr e) = absurd (omega (arith, alive_size (track v v y) a, simp length-append at (ap length e)))

  -- ---- where the reading ends in nothing

  -- w begins with r, or is below it
  abbrev pub Under : List ℕ → List ℕ → Type 0
  Under w r = (◌≪◌ w r) ⊎ ((c : List ℕ) × (w ≡ r ++ c))

  pub record Later (w : List ℕ) : Type 0 where
    pub a : List ℕ
    pub t : List ℕ
    pub is : w ≡ a ++ t
    pub low : Under t v

  later : (b : ℕ) {w : List ℕ} → Later w → Later (b ∷ w)
  later b l = record { a = b ∷ l.a; t = l.t; is = ap {B = List ℕ} (λ s. b ∷ s) l.is; low = l.low }

  pub dies : Alive v → (w r : List ℕ) → Alive r → track v r w ≡ [] → (Under w r) ⊎ Later w
  unfolding track
  dies n [] r a e = absurd (a e)
  dies n (b ∷ w) [] a e = absurd (a refl)
  dies n (b ∷ w) (c ∷ r) a e = go (dies n w) (compare_means b c) e
    where
      now : (r : List ℕ) → b ≡ c → (Under w r) ⊎ Later w → (Under (b ∷ w) (c ∷ r)) ⊎ Later (b ∷ w)
      now r q (inl (inl h)) = inl (inl (rw q (in_tail h)))
      now r q (inl (inr k)) = inl (inr (k.0, cc (q, k.1)))
      now r q (inr l) = inr (later b l)

      alike : ((r : List ℕ) → Alive r → track v r w ≡ [] → (Under w r) ⊎ Later w) → (r : List ℕ) → b ≡ c → track v r w ≡ [] → (Under (b ∷ w) (c ∷ r)) ⊎ Later (b ∷ w)
      alike ih [] q e = inl (inr (w, ap {B = List ℕ} (λ s. s ∷ w) q))
      alike ih (d ∷ r) q e = now (d ∷ r) q (ih (d ∷ r) (cons_alive d r) e)

      anew : (Under w v) ⊎ Later w → (Under (b ∷ w) (c ∷ r)) ⊎ Later (b ∷ w)
      anew (inl u) = inr (record { a = b ∷ []; t = w; is = refl; low = u })
      anew (inr l) = inr (later b l)

      go : ((r : List ℕ) → Alive r → track v r w ≡ [] → (Under w r) ⊎ Later w) → {o : Ordering} → Means ◌<◌ b c o
          → track v (moved o r v) w ≡ [] → (Under (b ∷ w) (c ∷ r)) ⊎ Later (b ∷ w)
      go ih (is_less h) e = inl (inl (at_head h))
      go ih (is_eq q) e = alike ih r q e
      go ih (is_gt h) e = anew (ih v n e)
