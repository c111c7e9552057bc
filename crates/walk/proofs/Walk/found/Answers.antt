-- `walk::Walk::found` meets its contract.
use mathlib.Core.Bool.{false, true}
use mathlib.Core.Path.{ap, refl, subst, sym, ◌∙◌, ◌≡◌}
use native.Mathlib.Omega.{arith}
use lib.ListN.{length}
use lib.Seq.{length-take-le}
use Rattle.density.specs.Necklaces.{of_kind}
use Rattle.prefix.specs.InnerCarried.{Knows}
use Rattle.walk.proofs.MoveCases.{from_found, good_found, good_long}
use Rattle.walk.proofs.Resuming.{comes_here, then_answer, then_struck}
use Rattle.walk.specs.Moves.{row_of}
use Rattle.std.specs.Prelude.{Ok}
use Rattle.walk.specs.declared.Answer.TheVariants.{Ring}
use Rattle.words.proofs.Rotations.{→is_necklace}
use Rattle.words.specs.Rotation.{is_necklace}
use Rattle.walk.proofs.Walk.found.Goals as goal

pub is_of_kind-requires : goal.is_of_kind-requires
is_of_kind-requires c =
    let w = c.args.self in
    let e = sym c.requires.2 in
    let whole = ap length c.requires.2 ∙ length-take-le w.n w.row (omega (arith, good_long c.requires.1, c.requires.1.sound.most)) in (
      omega (arith, whole, c.requires.1.sound.some),
      omega (arith, whole, c.requires.1.sound.most),
      subst (λ r. is_necklace r ≡ true) e (→is_necklace (row_of w) (good_found c.requires.1 c.requires.0).least),
      subst (λ r. Knows r c.args.known) e c.requires.3,
    )

pub returns-then-is_of_kind : goal.returns-then-is_of_kind
returns-then-is_of_kind c =
    let of_kind_lem : c.is_of_kind.result ≡ of_kind c.args.self.kind (row_of c.args.self) = c.is_of_kind.ensures ∙ ap (of_kind c.args.self.kind) c.requires.2 in
    let w = c.args.self in
    then_answer (comes_here w c.args.left c.requires.1) (Ok Ring) _ refl refl (from_found w c.requires.0 true (sym of_kind_lem ∙ c.if-is_of_kind.true))

pub returns : goal.returns
returns c =
    let of_kind_lem : c.is_of_kind.result ≡ of_kind c.args.self.kind (row_of c.args.self) = c.is_of_kind.ensures ∙ ap (of_kind c.args.self.kind) c.requires.2 in
    let w = c.args.self in
    then_struck (comes_here w c.args.left c.requires.1) _ refl refl refl (from_found w c.requires.0 false (sym of_kind_lem ∙ c.if-is_of_kind.false))
