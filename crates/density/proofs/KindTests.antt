-- Tests of a row, for the functions that make them: its kind, and whether it is a necklace of a density.
use mathlib.Core.List.{List}
use mathlib.Core.Bool.{false, true}
use mathlib.Core.Path.{refl, sym, ◌∙◌, ◌≡◌}
use Prim.Native.Nat.{suc, zero, ℕ, ◌≤◌}
use borrow.Author.Tests.{eq-eqb, ne_eqb}
use Rattle.density.proofs.Binary.{Binary, density-sum}
use Rattle.density.specs.Density.{density}
use Rattle.density.specs.Necklaces.{is_kind, is_necklace_of, of_kind}
use Rattle.refusal.proofs.Stations.{one_to→, →one_to}
use Rattle.words.specs.Reversal.{is_bracelet}
use Rattle.words.specs.Rotation.{is_lyndon, is_necklace}
use Rattle.words.specs.Symbols.{sum}

-- ---- kinds

pub kinds_known : (kind : ℕ) → is_kind kind ≡ true → (1 ≤ kind) × (kind ≤ 3)
unfolding is_kind
kinds_known kind e = one_to→ 3 kind e

pub known_kind : (kind : ℕ) → (1 ≤ kind) × (kind ≤ 3) → is_kind kind ≡ true
unfolding is_kind
known_kind kind h = →one_to h.0 h.1

pub of_kind_one : (k : ℕ) (w : List ℕ) → k ≡ 1 → of_kind k w ≡ true
unfolding of_kind
of_kind_one k w e = rw e

pub of_kind_two : (k : ℕ) (w : List ℕ) → k ≡ 2 → of_kind k w ≡ is_lyndon w
unfolding of_kind
of_kind_two k w e = rw e

pub of_kind_three : (k : ℕ) (w : List ℕ) → k ≡ 3 → of_kind k w ≡ is_bracelet w
unfolding of_kind
of_kind_three k w e = rw e

pub of_kind_else : (k : ℕ) (w : List ℕ) → (k ≡ 1 → ⊥) → (k ≡ 2 → ⊥) → (k ≡ 3 → ⊥) → of_kind k w ≡ false
unfolding of_kind
of_kind_else zero w a b c = refl
of_kind_else (suc zero) w a b c = absurd (a refl)
of_kind_else (suc (suc zero)) w a b c = absurd (b refl)
of_kind_else (suc (suc (suc zero))) w a b c = absurd (c refl)
of_kind_else (suc (suc (suc (suc k)))) w a b c = refl

-- ---- membership

pub not_member : (d : ℕ) (w : List ℕ) → Binary w → (sum w ≡ d → ⊥) → is_necklace_of d w ≡ false
unfolding is_necklace_of
not_member d w b h = rw (ne_eqb (density w) d (λ e. h (sym (density-sum b) ∙ e)))

pub as_necklace : (d : ℕ) (w : List ℕ) → Binary w → sum w ≡ d → is_necklace w ≡ is_necklace_of d w
unfolding is_necklace_of
as_necklace d w b e = rw (eq-eqb (density w) d (density-sum b ∙ e))
