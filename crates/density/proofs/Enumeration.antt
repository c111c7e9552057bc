-- All rows of n symbols: which they are, and that they fall.
use mathlib.Core.List.Memᴰ
use mathlib.Core.List.{List, Memᴰ, [], map, ◌∷◌}
use mathlib.Core.Logic.{inl, inr, ◌⊎◌}
use mathlib.Core.Path.{ap, refl, ◌≡◌}
use Prim.Native.Nat.{suc, zero, ℕ}
use lib.Dec.{lit<}
use lib.ListN.{length}
use Rattle.density.proofs.Binary.{Binary, empty, one∷, zero∷}
use Rattle.density.specs.Density.{all_rows}
use Rattle.words.proofs.Below.{here, ◌≺◌}
use Rattle.words.proofs.Falling.{falling_append, falling_map}
use Rattle.words.specs.Falling.{Falling, falls_from, falls_none}

pub in_rows : {w : List ℕ} → Binary w → Memᴰ w (all_rows (length w))
unfolding all_rows
in_rows empty = Memᴰ.head refl
in_rows (zero∷ {w = w} b) = Memᴰ.append_right (map (λ v. 1 ∷ v) (all_rows (length w))) (Memᴰ.map (λ v. 0 ∷ v) (in_rows b))
in_rows (one∷ {w = w} b) = Memᴰ.append_left (map (λ v. 0 ∷ v) (all_rows (length w))) (Memᴰ.map (λ v. 1 ∷ v) (in_rows b))

pub out_rows : (n : ℕ) (w : List ℕ) → Memᴰ w (all_rows n) → (length w ≡ n) × Binary w
unfolding all_rows
out_rows zero w m = go (Memᴰ.eq_of_singleton m)
  where
    go : w ≡ [] → (length w ≡ 0) × Binary w
    go e = rw e (refl, empty)
out_rows (suc n) w m = go (out_rows n) (Memᴰ.append_cases (map (λ v. 1 ∷ v) (all_rows n)) m)
  where
    fit : (x : ℕ) → ((v : List ℕ) → Binary v → Binary (x ∷ v)) → ((v : List ℕ) → Memᴰ v (all_rows n) → (length v ≡ n) × Binary v)
        → (v : List ℕ) × Memᴰ v (all_rows n) × (x ∷ v ≡ w) → (length w ≡ suc n) × Binary w
    fit x c ih q =
        let i = ih q.0 q.1 in
        rw (← q.2) (ap suc i.0, c q.0 i.1)

    go : ((v : List ℕ) → Memᴰ v (all_rows n) → (length v ≡ n) × Binary v) → Memᴰ w (map (λ v. 1 ∷ v) (all_rows n)) ⊎ Memᴰ w (map (λ v. 0 ∷ v) (all_rows n)) → (length w ≡ suc n) × Binary w
    go ih (inl k) = fit 1 (λ v. one∷) ih (Memᴰ.of_map (λ v. 1 ∷ v) (all_rows n) k)
    go ih (inr k) = fit 0 (λ v. zero∷) ih (Memᴰ.of_map (λ v. 0 ∷ v) (all_rows n) k)

pub rows_falling : (n : ℕ) → Falling (all_rows n)
unfolding all_rows
rows_falling zero = falls_from (λ v m. absurd (Memᴰ.not-nil m)) falls_none
rows_falling (suc n) = falling_append (falling_map 1 (rows_falling n)) (falling_map 0 (rows_falling n)) across
  where
    across : (u v : List ℕ) → Memᴰ u (map (λ w. 1 ∷ w) (all_rows n)) → Memᴰ v (map (λ w. 0 ∷ w) (all_rows n)) → v ≺ u
    across u v m k =
        let q = Memᴰ.of_map (λ w. 1 ∷ w) (all_rows n) m in
        let r = Memᴰ.of_map (λ w. 0 ∷ w) (all_rows n) k in
        rw (← q.2, ← r.2) (here (lit< tt))
