-- `walk::Walk::from_given` meets its contract.
use mathlib.Core.Path.{ap, subst, sym, ◌∙◌, ◌≡◌}
use Prim.Native.Nat.{◌-◌}
use native.Mathlib.Omega.{arith}
use lib.ListN.{length, set, take}
use lib.Seq.{length-take-le, take-set-le, take-take}
use Rattle.prefix.proofs.CarriedLaws.{knows_fewer}
use Rattle.prefix.specs.InnerCarried.{Knows, KnowsPrefixes}
use Rattle.walk.proofs.MoveCases.{from_given, gone_last, gone_on, good_long, good_symbols}
use Rattle.walk.proofs.Resuming.{Comes, comes_here, then_free, then_part}
use mathlib.Core.List.{List}
use Prim.Native.Nat.{ℕ}
use Rattle.walk.specs.InnerCourse.{Good}
use Rattle.walk.specs.Moves.{free, gone_below, moved, row_of, rules}
use Rattle.walk.specs.declared.Standing.{Standing}
use Rattle.walk.specs.declared.Walk.{Walk}
use Rattle.walk.specs.declared.Standing.TheVariants.{Down, Given}
use Rattle.words.proofs.Alphabet.{within_take}
use Rattle.walk.proofs.Walk.from_given.Goals as goal

module _ {w : Walk} (g : Good rules w) where
  whole : length (row_of w) ≡ w.n
  whole = length-take-le w.n w.row (omega (arith, good_long g, g.sound.most))

  -- the step goes on below the ring
  comes_below : (k : ℕ) {b : Walk} → w.at ≡ Given → b ≡ gone_below w.d w → (row : List ℕ) (at : Standing) → gone_below w.d w ≡ moved w row at → Comes w k b k
  comes_below k h e row at m = subst (λ v. Comes w k v k) (sym (e ∙ m)) (then_free (comes_here w k g) row at (ap free (sym m) ∙ from_given w h))

pub returns-then-d-eq0 : goal.returns-then-d-eq0
returns-then-d-eq0 c =
    let w = c.args.self in
    then_part (comes_below c.requires.1 c.args.left c.requires.0 c.below-walk.ensures w.row (Down 0) (gone_last w c.if-d-eq0.true)) _ c.none.ensures

pub shorter-before-requires : goal.shorter-before-requires
shorter-before-requires c =
    let w = c.args.self in
    (omega (arith, whole c.requires.1, c.requires.1.sound.most), within_take w.n w.row (good_symbols c.requires.1), c.requires.3, c.requires.2)

pub descend-requires : goal.descend-requires
descend-requires c =
    let w = c.args.self in
    let a = row_of w in
    let m = gone_on w c.if-d-eq0.false in
    let is_below : c.below-walk.result ≡ moved w (set w.row (w.n - 1) 0) (Down w.n) = c.below-walk.ensures ∙ m in
    let front : take (length a - 1) a ≡ take (w.n - 1) c.below-walk.result.row =
    ap (λ k. take (k - 1) a) (whole c.requires.1)
    ∙ take-take (w.n - 1) w.n w.row (omega arith)
    ∙ sym (take-set-le (w.n - 1) w.row (w.n - 1) 0 (omega arith))
    ∙ ap (λ v. take (w.n - 1) v.row) (sym is_below) in (
      ap (λ v. v.at) is_below,
      (comes_below c.requires.1 c.args.left c.requires.0 c.below-walk.ensures _ _ m).good,
      subst (λ a. KnowsPrefixes a c.args.prefixes.now) front (knows_fewer a c.args.prefixes.now (length a - 1) (omega arith) c.requires.2),
      subst (λ a. Knows a c.shorter-before.result) front c.shorter-before.ensures,
    )

pub returns : goal.returns
returns c =
    let w = c.args.self in
    then_part (comes_below c.requires.1 c.args.left c.requires.0 c.below-walk.ensures (set w.row (w.n - 1) 0) (Down w.n) (gone_on w c.if-d-eq0.false)) _ c.descend.ensures
