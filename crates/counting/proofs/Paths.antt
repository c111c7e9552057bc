-- The rows that lead from one end of v to another, weighted by their density: the last symbol, and the first.
use mathlib.Core.Bool.{Bool, false, true}
use mathlib.Core.List.{List, [], ◌++◌, ◌∷◌}
use mathlib.Core.Path.{ap, ap₂, refl, sym, ◌∙◌, ◌≡◌}
use Prim.Native.Nat.{Ordering, suc, zero, ℕ, ◌*◌, ◌+◌, ◌<◌, ◌≤◌}
use native.Mathlib.Nat.{add_comm, add-zero, mul-zero, zero-add}
use native.Mathlib.Omega.{arith}
use lib.Dec.{eqb}
use lib.ListN.{length, length-append}
use borrow.Author.Tests.{eqb-false, eqb-true}
use Rattle.counting.proofs.Above.{track_end}
use Rattle.counting.proofs.Reading.{Alive, cons_alive, same_end, track_append, track_dead, move, moved, track}
use Rattle.counting.proofs.RowCounts.{total_rows, total_rows_last}
use Rattle.counting.proofs.Sums.{delta, delta_differ, delta_iff, total_same, total_zero}
use Rattle.counting.specs.InnerSums.{flag, total}
use Rattle.density.proofs.Counts.{density-append}
use Rattle.density.specs.Density.{all_rows, density}
use Rattle.words.proofs.Below.{Means, compare_means, is_eq, is_gt, is_less}
use Rattle.words.specs.InnerScan.{◌▹◌}

-- rows of l symbols that lead from r to t, each weighted by ψ at its density
unfoldable pub paths : List ℕ → (ℕ → ℕ) → ℕ → List ℕ → List ℕ → ℕ
paths v ψ l r t = total (λ x. ψ (density x) * delta (track v r x) t) (all_rows l)

module _ (v : List ℕ) where
  pub paths_same : (ψ χ : ℕ → ℕ) → ((y : ℕ) → ψ y ≡ χ y) → (l : ℕ) (r t : List ℕ) → paths v ψ l r t ≡ paths v χ l r t
  unfolding paths
  paths_same ψ χ h l r t = total_same (λ x. ψ (density x) * delta (track v r x) t) (λ x. χ (density x) * delta (track v r x) t) (all_rows l) (λ x. ap (λ s. s * delta (track v r x) t) (h (density x)))

  pub paths_none : (ψ : ℕ → ℕ) → ((y : ℕ) → ψ y ≡ 0) → (l : ℕ) (r t : List ℕ) → paths v ψ l r t ≡ 0
  unfolding paths
  paths_none ψ h l r t = total_zero (λ x. ψ (density x) * delta (track v r x) t) (all_rows l) (λ x m. rw (h (density x)) (omega arith))

  pub paths_dead : (ψ : ℕ → ℕ) (l : ℕ) (t : List ℕ) → Alive t → paths v ψ l [] t ≡ 0
  unfolding paths
  paths_dead ψ l t a = total_zero (λ x. ψ (density x) * delta (track v [] x) t) (all_rows l) (λ x m. rw (track_dead v x, delta_differ [] t (λ e. a (sym e))) (mul-zero (ψ (density x))))

  -- ---- by the first symbol

  pub paths_first : (ψ : ℕ → ℕ) (l : ℕ) (r t : List ℕ) → paths v ψ (suc l) r t ≡ paths v (λ y. ψ (suc y)) l (move v r 1) t + paths v ψ l (move v r 0) t
  unfolding paths density track
  paths_first ψ l r t = total_rows (λ x. ψ (density x) * delta (track v r x) t) l

  -- ---- by the last symbol

  -- an end t, with c before it, is reached from c t by the symbol c only
  module _ (p t : List ℕ) (c : ℕ) (whole : v ≡ p ++ (c ∷ t)) (live : Alive t) where
    move_into : (b : ℕ) (s q : List ℕ) → v ≡ q ++ s → delta (move v s b) t ≡ flag (eqb b c) * delta s (c ∷ t)
    move_into b [] q e = rw (delta_differ [] t (λ i. live (sym i)), delta_differ [] (c ∷ t) (λ i. cons_alive c t (sym i))) (omega arith)
    move_into b (d ∷ s) q e = go (compare_means b d)
      where
        head_same : d ∷ s ≡ c ∷ t → d ≡ c
        head_same j = cc

        tail_same : d ∷ s ≡ c ∷ t → s ≡ t
        tail_same j = cc

        none : (b ≡ c → d ∷ s ≡ c ∷ t → ⊥) → 0 ≡ flag (eqb b c) * delta (d ∷ s) (c ∷ t)
        none f = pick (eqb b c) refl
          where
            pick : (a : Bool) → eqb b c ≡ a → 0 ≡ flag a * delta (d ∷ s) (c ∷ t)
            pick true i = rw (delta_differ (d ∷ s) (c ∷ t) (f (eqb-true b c i)))
            pick false i = omega arith

        alike : b ≡ d → delta s t ≡ flag (eqb b c) * delta (d ∷ s) (c ∷ t)
        alike i =
            pick (eqb b c) refl
          where
            whole_end : s ≡ t → d ∷ s ≡ c ∷ t
            whole_end j = same_end v q (d ∷ s) p (c ∷ t) e whole (ap (λ r. suc (length r)) j)

            pick : (a : Bool) → eqb b c ≡ a → delta s t ≡ flag a * delta (d ∷ s) (c ∷ t)
            pick true k = delta_iff s t (d ∷ s) (c ∷ t) whole_end tail_same ∙ omega arith
            pick false k = delta_differ s t (λ j. eqb-false b c k (i ∙ head_same (whole_end j))) ∙ omega arith

        go : {o : Ordering} → Means ◌<◌ b d o → delta (moved o s v) t ≡ flag (eqb b c) * delta (d ∷ s) (c ∷ t)
        go (is_less h) = delta_differ [] t (λ i. live (sym i)) ∙ none (λ i j. omega (arith, head_same j))
        go (is_eq i) = alike i
        go (is_gt h) = delta_differ v t (λ i. omega (arith, ap length i, ap length whole ∙ length-append p (c ∷ t))) ∙ none (λ i j. omega (arith, head_same j))

    -- the rows that lead to t, by their last symbol
    last_one : (ψ : ℕ → ℕ) (b : ℕ) (r q : List ℕ) → v ≡ q ++ r → (x : List ℕ)
        → ψ (density (x ▹ b)) * delta (track v r (x ▹ b)) t ≡ flag (eqb b c) * (ψ (density x + density (b ∷ [])) * delta (track v r x) (c ∷ t))
    unfolding track
    last_one ψ b r q e x =
        let f = track_end v x r q e in
        rw (density-append x (b ∷ []), track_append v r x (b ∷ []), move_into b (track v r x) f.0 f.1) (omega arith)

  pub paths_last : (p t : List ℕ) (c : ℕ) → c ≤ 1 → v ≡ p ++ (c ∷ t) → Alive t → (ψ : ℕ → ℕ) (l : ℕ) (r q : List ℕ) → v ≡ q ++ r
      → paths v ψ (suc l) r t ≡ paths v (λ y. ψ (density (c ∷ []) + y)) l r (c ∷ t)
  unfolding paths density
  paths_last p t zero h whole live ψ l r q e =
      total_rows_last (λ x. ψ (density x) * delta (track v r x) t) l
      ∙ ap₂ (λ (a b : ℕ). a + b)
      (total_zero (λ x. ψ (density (x ▹ 1)) * delta (track v r (x ▹ 1)) t) (all_rows l) (λ x m. last_one p t 0 whole live ψ 1 r q e x ∙ omega arith))
      (total_same (λ x. ψ (density (x ▹ 0)) * delta (track v r (x ▹ 0)) t) (λ x. ψ (0 + density x) * delta (track v r x) (0 ∷ t)) (all_rows l)
      (λ x. last_one p t 0 whole live ψ 0 r q e x ∙ shift x (add_comm (density x) 0)))
      ∙ zero-add (total (λ x. ψ (0 + density x) * delta (track v r x) (0 ∷ t)) (all_rows l))
    where
      shift : (x : List ℕ) → density x + 0 ≡ 0 + density x → 1 * (ψ (density x + 0) * delta (track v r x) (0 ∷ t)) ≡ ψ (0 + density x) * delta (track v r x) (0 ∷ t)
      shift x i = rw i (omega arith)
  paths_last p t (suc zero) h whole live ψ l r q e =
      total_rows_last (λ x. ψ (density x) * delta (track v r x) t) l
      ∙ ap₂ (λ (a b : ℕ). a + b)
      (total_same (λ x. ψ (density (x ▹ 1)) * delta (track v r (x ▹ 1)) t) (λ x. ψ (1 + density x) * delta (track v r x) (1 ∷ t)) (all_rows l)
      (λ x. last_one p t 1 whole live ψ 1 r q e x ∙ shift x (add_comm (density x) 1)))
      (total_zero (λ x. ψ (density (x ▹ 0)) * delta (track v r (x ▹ 0)) t) (all_rows l) (λ x m. last_one p t 1 whole live ψ 0 r q e x ∙ omega arith))
      ∙ add-zero (total (λ x. ψ (1 + density x) * delta (track v r x) (1 ∷ t)) (all_rows l))
    where
      shift : (x : List ℕ) → density x + 1 ≡ 1 + density x → 1 * (ψ (density x + 1) * delta (track v r x) (1 ∷ t)) ≡ ψ (1 + density x) * delta (track v r x) (1 ∷ t)
      shift x i = rw i (omega arith)
  paths_last p t (suc (suc c)) h whole live ψ l r q e = absurd (omega arith)
