-- The necklaces of (n, d) by enumeration: the drawer, its kinds, its top ring, and what begins one of its rings.
use Rattle.std.specs.Prelude.{Bool, true, false, ◌&&◌, ℕ, zero, suc, eqb}
use mathlib.Core.List.{List, [], head_d}
use Rattle.refusal.specs.Verdicts.{one_to}
use Rattle.words.specs.Order.{le, lt}
use Rattle.words.specs.Tests.{keep, any, is_prefix}
use Rattle.words.specs.Reversal.{is_bracelet}
use Rattle.words.specs.Rotation.{is_necklace, is_lyndon}
use Rattle.density.specs.Density.{density, all_rows}

-- a necklace of density d
unfoldable pub is_necklace_of : ℕ → List ℕ → Bool
is_necklace_of d w = eqb (density w) d && is_necklace w

-- "Drawer (n, d)": the shelved rows of n symbols with d holes, falling. Also its kind 1.
unfoldable pub necklaces : ℕ → ℕ → List (List ℕ)
necklaces n d = keep (is_necklace_of d) (all_rows n)

-- kinds 1 to 3
unfoldable pub is_kind : ℕ → Bool
is_kind kind = one_to 3 kind

-- "Kind 1 is all of them, kind 2 those without symmetry", "kind 3 is the shelved rows that are their own turned-over key": a test of a
-- shelved row.
unfoldable pub of_kind : ℕ → List ℕ → Bool
of_kind zero w = false
of_kind (suc zero) w = true
of_kind (suc (suc zero)) w = is_lyndon w
of_kind (suc (suc (suc zero))) w = is_bracelet w
of_kind (suc (suc (suc (suc k)))) w = false

-- the rings of the drawer that are of a kind, falling
unfoldable pub necklaces_of_kind : ℕ → ℕ → ℕ → List (List ℕ)
necklaces_of_kind kind n d = keep (of_kind kind) (necklaces n d)

-- the rings of the drawer below x, falling
unfoldable pub necklaces_below : ℕ → ℕ → List ℕ → List (List ℕ)
necklaces_below n d x = keep (λ r. lt r x) (necklaces n d)

-- those at or below x
unfoldable pub necklaces_up_to : ℕ → ℕ → List ℕ → List (List ℕ)
necklaces_up_to n d x = keep (λ r. le r x) (necklaces n d)

-- of those, the rings that pass a test of their kind: all that may be named from the limit x on
abbrev pub wanted : ℕ → ℕ → (List ℕ → Bool) → List ℕ → List (List ℕ)
wanted n d test x = keep (λ r. le r x && test r) (necklaces n d)

-- "Top ring": the highest of the drawer.
unfoldable pub largest_necklace : ℕ → ℕ → List ℕ
largest_necklace n d = head_d (necklaces n d) []

-- "Prefix question": does some kind 1 ring of the drawer begin so?
unfoldable pub begins : ℕ → ℕ → List ℕ → Bool
begins n d p = any (is_prefix p) (necklaces n d)
