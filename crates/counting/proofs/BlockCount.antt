-- The rows of density e all of whose rotations are above a prenecklace v, in numbers.
use mathlib.Core.List.{List, [], ◌∷◌}
use mathlib.Core.Logic.{inr}
use mathlib.Core.Path.{ap, ap₂, fun_ext, refl, sym, ◌∙◌, ◌≡◌}
use Prim.Native.Nat.{suc, zero, ℕ, ◌*◌, ◌+◌, ◌<◌, ◌≤◌}
use native.Mathlib.Nat.{le_refl}
use native.Mathlib.Omega.{arith}
use lib.Dec.{eqb, eqb-suc-suc, eqb-suc-zero, eqb-zero-suc}
use lib.ListN.{length}
use Rattle.counting.proofs.BlockSums.{first_block_lem, firsts, sum_ends, weighted, whole_blocks}
use Rattle.counting.proofs.Paths.{paths, paths_none}
use Rattle.counting.proofs.Prenecklaces.{Prenecklace}
use Rattle.counting.proofs.Reading.{Alive, ends, track}
use Rattle.counting.proofs.Returns.{returns_sum}
use Rattle.counting.proofs.Sums.{delta, delta_same, total_on, total_scale, total_swap}
use Rattle.counting.specs.InnerBlocks.{above_from, chains, first_block, no_blocks}
use Rattle.counting.specs.InnerRoots.{rows_above}
use Rattle.counting.specs.InnerSums.{flag, total}
use Rattle.density.proofs.Binary.{Binary}
use Rattle.density.proofs.Enumeration.{out_rows}
use Rattle.density.specs.Density.{all_rows, density}
use Rattle.words.specs.Order.{lt}
use Rattle.words.specs.Rotation.{least_rotation}

-- 1 at e only
abbrev pub exactly : ℕ → ℕ → ℕ
exactly e y = flag (eqb y e)

exactly_suc : (e : ℕ) → (λ y. exactly (suc e) (suc y)) ≡ exactly e
exactly_suc e = fun_ext (λ y. ap flag (eqb-suc-suc y e))

exactly_zero : (y : ℕ) → exactly 0 (suc y) ≡ 0
exactly_zero y = ap flag (eqb-suc-zero y)

module _ (v : List ℕ) where
  firsts_none : (ψ : ℕ → ℕ) → ((y : ℕ) → ψ y ≡ 0) → (l : ℕ) (r : List ℕ) → firsts v ψ l r ≡ 0
  unfolding firsts
  firsts_none ψ h zero r = refl
  firsts_none ψ h (suc l) [] = refl
  firsts_none ψ h (suc l) (zero ∷ r) = rw (paths_none v (λ y. ψ (suc y)) (λ y. h (suc y)) l v v, firsts_none ψ h l r)
  firsts_none ψ h (suc l) (suc c ∷ r) = firsts_none (λ y. ψ (suc y)) (λ y. h (suc y)) l r

  weighted_none : (s : ℕ) (ψ : ℕ → ℕ) → ((y : ℕ) → ψ y ≡ 0) → (r : List ℕ) → weighted v s ψ r ≡ 0
  unfolding weighted
  weighted_none s ψ h [] = refl
  weighted_none s ψ h (zero ∷ r) = rw (paths_none v (λ y. ψ (suc y)) (λ y. h (suc y)) (length r) v v, weighted_none (suc s) ψ h r) (omega arith)
  weighted_none s ψ h (suc c ∷ r) = weighted_none (suc s) (λ y. ψ (suc y)) (λ y. h (suc y)) r

  -- F counts the sequences of blocks of fewer than n symbols
  abbrev Counts : (ℕ → ℕ → ℕ) → ℕ → Type 0
  Counts F n = (k h : ℕ) → k < n → F k h ≡ whole_blocks v k (exactly h)

  first_number : (F : ℕ → ℕ → ℕ) (l g : ℕ) (r : List ℕ) → Counts F l → first_block F l g r ≡ firsts v (exactly g) l r
  unfolding first_block firsts
  first_number F zero g r c = refl
  first_number F (suc l) g [] c = refl
  first_number F (suc l) zero (zero ∷ r) c = rw (paths_none v (λ y. exactly 0 (suc y)) exactly_zero l v v) (first_number F l zero r (λ k h i. c k h (omega arith)) ∙ omega arith)
  first_number F (suc l) (suc g) (zero ∷ r) c =
      ap₂ (λ (a b : ℕ). a + b) (c l g (omega arith) ∙ ap (whole_blocks v l) (sym (exactly_suc g))) (first_number F l (suc g) r (λ k h i. c k h (omega arith)))
  first_number F (suc l) zero (suc a ∷ r) c = sym (firsts_none (λ y. exactly 0 (suc y)) exactly_zero l r)
  first_number F (suc l) (suc g) (suc a ∷ r) c = first_number F l g r (λ k h i. c k h (omega arith)) ∙ ap (λ ψ. firsts v ψ l r) (sym (exactly_suc g))

  above_number : (F : ℕ → ℕ → ℕ) (s e : ℕ) (r : List ℕ) → Counts F (length r) → above_from F s e r ≡ weighted v s (exactly e) r
  unfolding above_from weighted
  above_number F s e [] c = refl
  above_number F s zero (zero ∷ r) c =
      rw (paths_none v (λ y. exactly 0 (suc y)) exactly_zero (length r) v v) (above_number F (suc s) zero r (λ k h i. c k h (omega arith)) ∙ omega arith)
  above_number F s (suc e) (zero ∷ r) c =
      ap₂ (λ (a b : ℕ). suc s * a + b) (c (length r) e (omega arith) ∙ ap (whole_blocks v (length r)) (sym (exactly_suc e))) (above_number F (suc s) (suc e) r (λ k h i. c k h (omega arith)))
  above_number F s zero (suc a ∷ r) c = sym (weighted_none (suc s) (λ y. exactly 0 (suc y)) exactly_zero r)
  above_number F s (suc e) (suc a ∷ r) c = above_number F (suc s) e r (λ k h i. c k h (omega arith)) ∙ ap (λ ψ. weighted v (suc s) ψ r) (sym (exactly_suc e))

  -- no symbols are the empty sequence
  empty_number : (g : ℕ) → no_blocks 0 g ≡ whole_blocks v 0 (exactly g)
  unfolding no_blocks paths all_rows total density track
  empty_number zero = rw (delta_same v)
  empty_number (suc g) = rw eqb-zero-suc (omega arith)

  pub chains_number : Alive v → Binary v → (f l g : ℕ) → l ≤ f → chains v f l g ≡ whole_blocks v l (exactly g)
  unfolding chains no_blocks first_block
  chains_number a b zero zero g h = empty_number g
  chains_number a b zero (suc l) g h = absurd (omega arith)
  chains_number a b (suc f) zero g h = omega (arith, empty_number g)
  chains_number a b (suc f) (suc l) g h =
      let i = first_number (λ k j. chains v f k j) (suc l) g v (λ k j i. chains_number a b f k j (omega arith)) in
      let j = first_block_lem v a (exactly g) (suc l) b (inr (omega arith)) (le_refl (length v)) in
      omega (arith, i, j)

  -- without the bound on the blocks: how a table of them is filled
  pub table_step : Alive v → Binary v → (l g : ℕ) → chains v (suc l) (suc l) g ≡ first_block (λ k h. chains v k k h) (suc l) g v
  table_step a b l g =
      chains_number a b (suc l) (suc l) g (le_refl (suc l))
      ∙ first_block_lem v a (exactly g) (suc l) b (inr (omega arith)) (le_refl (length v))
      ∙ sym (first_number (λ k h. chains v k k h) (suc l) g v (λ k h i. chains_number a b k k h (le_refl k)))

  -- and read
  pub above_count : Prenecklace v → Binary v → (e : ℕ) → rows_above v e ≡ above_from (λ k h. chains v k k h) 0 e v
  unfolding rows_above paths
  above_count s b e =
      total_on (λ x. exactly e (density x) * flag (lt v (least_rotation x))) (λ x. total (λ r. exactly e (density x) * delta (track v r x) r) (ends v)) (all_rows (length v))
      (λ x m. ap (λ t. exactly e (density x) * t) (sym (returns_sum v s x (out_rows (length v) x m).0)) ∙ sym (total_scale (exactly e (density x)) (λ r. delta (track v r x) r) (ends v)))
      ∙ total_swap (λ x r. exactly e (density x) * delta (track v r x) r) (all_rows (length v)) (ends v)
      ∙ sum_ends v (exactly e) b
      ∙ sym (above_number (λ k h. chains v k k h) 0 e v (λ k h i. chains_number (λ q. omega (arith, ap length q)) b k k h (le_refl k)))
