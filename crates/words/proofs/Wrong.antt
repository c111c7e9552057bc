-- The first wrong symbol of a row: there is none exactly where all are of the alphabet.
use mathlib.Core.List.{List}
use mathlib.Core.Logic.{inl, inr, ⊎_elim, ◌⊎◌}
use mathlib.Core.Path.{◌≡◌}
use Prim.Native.Nat.{ℕ, ◌≤◌}
use native.Mathlib.Omega.{arith}
use lib.Dec.{leb}
use borrow.Author.Tests.{leb-false, leb-true}
use Rattle.words.proofs.FirstPlaces.{Decides, first_so}
use Rattle.words.specs.Claims.{FirstOther}
use Rattle.words.specs.Symbols.{Within, first_wrong}

pub other_decided : (k : ℕ) → Decides (λ x. leb k x) (λ x. k ≤ x)
other_decided k x = (λ e. leb-true k x e, λ e h. omega (arith, leb-false k x e))

module _ (k : ℕ) (w : List ℕ) where
  pub wrong_or_right : (Within k w × (first_wrong k w ≡ 0)) ⊎ FirstOther k w (first_wrong k w)
  unfolding first_wrong
  wrong_or_right = ⊎_elim (λ a. inl (λ i l. let n = a.0 i l in omega arith, a.1)) inr (first_so (λ x. leb k x) (λ x. k ≤ x) (other_decided k) w)

  pub right_within : first_wrong k w ≡ 0 → Within k w
  right_within e = ⊎_elim (λ a. a.0) (λ f. absurd (omega (arith, f.place))) wrong_or_right

  pub within_right : Within k w → first_wrong k w ≡ 0
  within_right h = ⊎_elim (λ a. a.1) (λ f. absurd (omega (arith, f.here, h f.before f.inside))) wrong_or_right
