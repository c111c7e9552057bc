-- From an end of v back to it: the rest of a block, blocks, and a beginning of v. Each number of symbols s before a block's end gives s + 1 of them.
use mathlib.Core.List.{List, [], append_assoc, ◌++◌, ◌∷◌}
use mathlib.Core.Logic.{inl, inr, ◌⊎◌}
use mathlib.Core.Path.{ap, ap₂, refl, sym, ◌∙◌, ◌≡◌}
use Prim.Native.Nat.{suc, zero, ℕ, ◌*◌, ◌+◌, ◌<◌, ◌≤◌}
use native.Mathlib.Nat.{zero-add}
use native.Mathlib.Omega.{arith}
use lib.ListN.{length, length-append}
use Rattle.counting.proofs.Paths.{paths, paths_dead, paths_first, paths_last, paths_same}
use Rattle.counting.proofs.Reading.{Alive, alive_size, cons_alive, ends, track}
use Rattle.counting.proofs.Sums.{delta_differ}
use Rattle.counting.specs.InnerSums.{total}
use Rattle.density.proofs.Binary.{Binary, empty, one∷, zero∷}
use Rattle.density.proofs.Counts.{density-append}
use Rattle.density.specs.Density.{all_rows, density}
use Rattle.words.specs.InnerScan.{◌▹◌}

-- behind p in v comes t. The rows of |p| and k more symbols that lead to t end with p.
abbrev pub EndsWith : List ℕ → List ℕ → List ℕ → Type 0
EndsWith v p t = (ψ : ℕ → ℕ) (k : ℕ) (r q : List ℕ) → v ≡ q ++ r → paths v ψ (length p + k) r t ≡ paths v (λ y. ψ (density p + y)) k r v

module _ (v : List ℕ) where
  ends_start : EndsWith v [] v
  unfolding density
  ends_start ψ k r q e = ap (λ n. paths v ψ n r v) (zero-add k) ∙ paths_same v ψ (λ y. ψ (0 + y)) (λ y. ap ψ (sym (zero-add y))) k r v

  ends_next : (p t : List ℕ) (c : ℕ) → c ≤ 1 → v ≡ p ++ (c ∷ t) → Alive t → EndsWith v p (c ∷ t) → EndsWith v (p ▹ c) t
  ends_next p t c h whole live f ψ k r q e =
      let long : length (p ▹ c) + k ≡ suc (length p + k) = omega (arith, length-append p (c ∷ [])) in
      ap (λ n. paths v ψ n r t) long ∙ paths_last v p t c h whole live ψ (length p + k) r q e
      ∙ f (λ y. ψ (density (c ∷ []) + y)) k r q e
      ∙ paths_same v (λ y. ψ (density (c ∷ []) + (density p + y))) (λ y. ψ (density (p ▹ c) + y)) (λ y. ap ψ (order y)) k r v
    where
      order : (y : ℕ) → density (c ∷ []) + (density p + y) ≡ density (p ▹ c) + y
      order y = omega (arith, density-append p (c ∷ []))

  -- ---- from an end to the end of the first block

  abbrev pub whole_blocks : ℕ → (ℕ → ℕ) → ℕ
  whole_blocks l ψ = paths v ψ l v v

  unfoldable pub firsts : (ℕ → ℕ) → ℕ → List ℕ → ℕ
  firsts ψ zero r = 0
  firsts ψ (suc l) [] = 0
  firsts ψ (suc l) (zero ∷ r) = whole_blocks l (λ y. ψ (suc y)) + firsts ψ l r
  firsts ψ (suc l) (suc c ∷ r) = firsts (λ y. ψ (suc y)) l r

  pub first_block_lem : Alive v → (ψ : ℕ → ℕ) (l : ℕ) {r : List ℕ} → Binary r → (length r < length v) ⊎ (0 < l) → length r ≤ length v → paths v ψ l r v ≡ firsts ψ l r
  unfolding firsts paths all_rows total track
  first_block_lem a ψ zero {r} b (inl h) k = rw (delta_differ r v (λ e. omega (arith, ap length e))) (omega arith)
  first_block_lem a ψ zero {r} b (inr h) k = absurd (omega arith)
  first_block_lem a ψ (suc l) empty h k = paths_dead v ψ (suc l) v a
  first_block_lem a ψ (suc l) (zero∷ {w = r} b) h k =
      paths_first v ψ l (0 ∷ r) v ∙ ap (λ n. whole_blocks l (λ y. ψ (suc y)) + n) (first_block_lem a ψ l b (inl (omega arith)) (omega arith))
  first_block_lem a ψ (suc l) (one∷ {w = r} b) h k =
      let i = paths_first v ψ l (1 ∷ r) v in
      let j = first_block_lem a (λ y. ψ (suc y)) l b (inl (omega arith)) (omega arith) in
      let d = paths_dead v ψ l v a in
      i ∙ ap₂ (λ (m n : ℕ). m + n) j d ∙ omega arith

  -- ---- the sum over the ends

  unfoldable pub weighted : ℕ → (ℕ → ℕ) → List ℕ → ℕ
  weighted s ψ [] = 0
  weighted s ψ (zero ∷ r) = suc s * whole_blocks (length r) (λ y. ψ (suc y)) + weighted (suc s) ψ r
  weighted s ψ (suc c ∷ r) = weighted (suc s) (λ y. ψ (suc y)) r

  module _ (φ : ℕ → ℕ) where
    at_end : (ψ : ℕ → ℕ) (p t : List ℕ) → Binary t → v ≡ p ++ t → Alive t → EndsWith v p t → ((y : ℕ) → ψ y ≡ φ (density p + y)) → paths v φ (length v) t t ≡ firsts ψ (length t) t
    at_end ψ p t b e a f h =
        let long : length v ≡ length p + length t = ap length e ∙ length-append p t in
        let size = alive_size t a in
        ap (λ n. paths v φ n t t) long ∙ f φ (length t) t p e
        ∙ paths_same v (λ y. φ (density p + y)) ψ (λ y. sym (h y)) (length t) t v
        ∙ first_block_lem (λ i. omega (arith, ap length i)) ψ (length t) b (inr size) (omega arith)

    over_ends : (s : ℕ) (ψ : ℕ → ℕ) (p : List ℕ) {t : List ℕ} → Binary t → v ≡ p ++ t → (Alive t → EndsWith v p t) → ((y : ℕ) → ψ y ≡ φ (density p + y))
        → s * firsts ψ (length t) t + total (λ r. paths v φ (length v) r r) (ends t) ≡ weighted s ψ t
    unfolding firsts weighted total ends density
    over_ends s ψ p empty e f h = omega arith
    over_ends s ψ p (zero∷ {w = r} b) e f h =
        let g = f (cons_alive 0 r) in
        let first = at_end ψ p (0 ∷ r) (zero∷ b) e (cons_alive 0 r) g h in
        let more : (y : ℕ) → density p + y ≡ density (p ▹ 0) + y = λ y. omega (arith, density-append p (0 ∷ [])) in
        let rest = over_ends (suc s) ψ (p ▹ 0) b (e ∙ simp append_assoc) (λ a. ends_next p r 0 (omega arith) e a g) (λ y. h y ∙ ap φ (more y)) in
        omega (arith, first, rest)
    over_ends s ψ p (one∷ {w = r} b) e f h =
        let g = f (cons_alive 1 r) in
        let first = at_end ψ p (1 ∷ r) (one∷ b) e (cons_alive 1 r) g h in
        let more : (y : ℕ) → density p + suc y ≡ density (p ▹ 1) + y = λ y. omega (arith, density-append p (1 ∷ [])) in
        let rest = over_ends (suc s) (λ y. ψ (suc y)) (p ▹ 1) b (e ∙ simp append_assoc) (λ a. ends_next p r 1 (omega arith) e a g) (λ y. h (suc y) ∙ ap φ (more y)) in
        omega (arith, first, rest)

    pub sum_ends : Binary v → total (λ r. paths v φ (length v) r r) (ends v) ≡ weighted 0 φ v
    unfolding density
    sum_ends b =
        let h = over_ends 0 φ [] b refl (λ a. ends_start) (λ y. ap φ (sym (zero-add y))) in
        omega (arith, h)
