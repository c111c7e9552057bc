-- `walk::Walk::from_limit` meets its contract.
use mathlib.Core.Bool.{false, true}
use mathlib.Core.Path.{ap, refl, sym, ◌∙◌, ◌≡◌}
use Prim.Native.Nat.{suc, ◌+◌, ◌≤◌}
use native.Mathlib.Omega.{arith}
use lib.ListN.{length}
use lib.Seq.{length-take-le}
use Rattle.walk.proofs.MoveCases.{from_limit, good_long, good_symbols}
use Rattle.walk.proofs.Resuming.{Comes, comes_here, then_free, then_part}
use Rattle.walk.specs.Moves.{free, moved, row_of}
use Rattle.walk.specs.declared.Standing.TheVariants.{Down, Up}
use Rattle.words.proofs.Alphabet.{within_take}
use Rattle.words.specs.Symbols.{Within}
use mathlib.Core.Bool.{Bool}
use Prim.Native.Nat.{ℕ}
use Rattle.density.specs.Necklaces.{is_necklace_of}
use Rattle.walk.specs.InnerCourse.{Good}
use Rattle.walk.specs.Moves.{rules}
use Rattle.walk.specs.declared.Standing.TheVariants.{Limit}
use Rattle.walk.specs.declared.Walk.{Walk}
use Rattle.walk.proofs.Walk.from_limit.Goals as goal

module _ {w : Walk} (g : Good rules w) where
  inside : w.n ≤ length w.row
  inside = omega (arith, good_long g, g.sound.most)

  whole : length (row_of w) ≡ w.n
  whole = length-take-le w.n w.row inside

  symbols : Within 2 (row_of w)
  symbols = within_take w.n w.row (good_symbols g)

-- whether the limit is a necklace of the drawer decides the first move
module _ {w : Walk} (at : w.at ≡ Limit) (g : Good rules w) (left : ℕ) {r : Bool} (e : r ≡ is_necklace_of w.d (row_of w)) where
  -- it is found
  found : r ≡ true → Comes w left (moved w w.row (Up (w.n + 1))) left
  found t =
      let m : w.n + 1 ≡ suc w.n = omega arith in
      then_free (comes_here w left g) w.row (Up (w.n + 1)) (ap (λ t. free (moved w w.row (Up t))) m ∙ from_limit w at true (sym e ∙ t))

  -- it is looked below
  below : r ≡ false → Comes w left (moved w w.row (Down w.n)) left
  below t = then_free (comes_here w left g) w.row (Down w.n) (from_limit w at false (sym e ∙ t))

pub is_necklace_of-requires : goal.is_necklace_of-requires
is_necklace_of-requires c = (omega (arith, whole c.requires.1, c.requires.1.sound.some), symbols c.requires.1, c.requires.3)

pub found-requires : goal.found-requires
found-requires c = (refl, (found c.requires.0 c.requires.1 c.args.left c.is_necklace_of.ensures c.if-is_necklace_of.true).good, refl, c.requires.3)

pub returns-then-is_necklace_of : goal.returns-then-is_necklace_of
returns-then-is_necklace_of c = then_part (found c.requires.0 c.requires.1 c.args.left c.is_necklace_of.ensures c.if-is_necklace_of.true) _ c.found.ensures

pub shorter-before-requires : goal.shorter-before-requires
shorter-before-requires c = (omega (arith, whole c.requires.1, c.requires.1.sound.most), symbols c.requires.1, c.requires.3, c.requires.2)

pub returns : goal.returns
returns c = then_part (below c.requires.0 c.requires.1 c.args.left c.is_necklace_of.ensures c.if-is_necklace_of.false) _ c.descend.ensures
