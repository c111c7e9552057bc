-- The claims on the drawers hold, over every n and d.
use mathlib.Core.Bool.{Bool}
use mathlib.Core.List.{List, Memᴰ, [], ◌∷◌}
use mathlib.Core.Path.{refl, subst, ◌≡◌}
use Prim.Native.Nat.{suc, zero, ℕ}
use borrow.Author.Tests.{eq-eqb, eqb-true}
use lib.Dec.{eqb}
use Rattle.density.proofs.Binary.{within_binary, binary_within}
use Rattle.density.proofs.Counts.{density-append}
use Rattle.density.proofs.Enumeration.{in_rows, out_rows, rows_falling}
use Rattle.density.proofs.Members.{member→, necklaces_falling, →member}
use Rattle.density.proofs.RowCounts.{choose_all, choose_past, rows_number}
use Rattle.density.specs.Choose.{choose, rows_of}
use Rattle.density.specs.Density.{all_rows, density}
use Rattle.density.specs.Claims.{Chosen, Drawer, HolesCounted, InDrawer, Kinds, LengthByKind, OfDensity, Rule}
use Rattle.density.specs.Lengths.{drawer_length}
use Rattle.density.specs.Necklaces.{necklaces, necklaces_of_kind, of_kind}
use Rattle.words.proofs.Falling.{keep_falling}
use Rattle.words.proofs.Lists.{keep→, →keep}
use Rattle.words.proofs.OrderTests.{same→, →same}
use Rattle.words.proofs.Rotations.{is_necklace→, →is_necklace}
use Rattle.words.specs.Reversal.{is_bracelet, turned_key}
use Rattle.words.specs.Tests.{keep}

pub holes_counted : HolesCounted
unfolding density
holes_counted u v x = (density-append u v, refl, other x)
  where
    other : (x : ℕ) → (x ≡ 1 → ⊥) → density (x ∷ []) ≡ 0
    other zero h = refl
    other (suc zero) h = absurd (h refl)
    other (suc (suc x)) h = refl

pub length_by_kind : LengthByKind
unfolding drawer_length
length_by_kind n d limit = (refl, refl, refl)

pub rule : Rule
unfolding choose
rule n d = (refl, choose_all n, refl, choose_past n d)

pub chosen : Chosen
unfolding rows_of
chosen n d = (keep_falling dense (rows_falling n), λ w. (inside w, outside w), rows_number n d)
  where
    dense : List ℕ → Bool
    dense w = eqb (density w) d

    inside : (w : List ℕ) → Memᴰ w (keep dense (all_rows n)) → OfDensity n d w
    inside w m =
        let k = keep→ dense w (all_rows n) m in
        let o = out_rows n w k.0 in
        record { long = o.0; symbols = binary_within o.1; holes = eqb-true _ _ k.1 }

    outside : (w : List ℕ) → OfDensity n d w → Memᴰ w (keep dense (all_rows n))
    outside w h = →keep dense w (all_rows n) (subst (λ k. Memᴰ w (all_rows k)) h.long (in_rows (within_binary w h.symbols))) (eq-eqb _ _ h.holes)

pub drawer : Drawer
drawer n d = (necklaces_falling n d, λ w. (inside w, λ h. →member (record { long = h.row.long; binary = within_binary w h.row.symbols; count = h.row.holes; least = is_necklace→ w h.shelved })))
  where
    inside : (w : List ℕ) → Memᴰ w (necklaces n d) → InDrawer n d w
    inside w m =
        let k = member→ n d w m in
        record { row = record { long = k.long; symbols = binary_within k.binary; holes = k.count }; shelved = →is_necklace w k.least }

pub kinds : Kinds
unfolding necklaces_of_kind of_kind is_bracelet
kinds n d w = (
  (λ m. ((drawer n d).1 w).0 (keep→ (of_kind 1) w (necklaces n d) m).0, λ h. →keep (of_kind 1) w (necklaces n d) (((drawer n d).1 w).1 h) refl),
  (
    λ m. let k = keep→ (of_kind 2) w (necklaces n d) m in (((drawer n d).1 w).0 k.0, k.1),
    λ h. →keep (of_kind 2) w (necklaces n d) (((drawer n d).1 w).1 h.0) h.1,
  ),
  (
    λ m. let k = keep→ (of_kind 3) w (necklaces n d) m in (((drawer n d).1 w).0 k.0, same→ (turned_key w) w k.1),
    λ h. →keep (of_kind 3) w (necklaces n d) (((drawer n d).1 w).1 h.0) (→same (turned_key w) w h.1),
  ),
)
