-- `walk::Walk::fit_at` meets its contract.
use mathlib.Core.Bool.{true, ◌&&◌}
use mathlib.Core.Path.{ap, refl, subst, sym, ◌∙◌, ◌≡◌}
use Prim.Native.Nat.{◌≤◌}
use native.Mathlib.Omega.{arith}
use lib.Dec.{leb}
use lib.ListN.{length, take}
use lib.Seq.{length-take-le}
use borrow.Author.Tests.{le-leb, leb-true, lt-leb}
use Rattle.density.proofs.PaddedRows.{zero_test}
use Rattle.density.specs.Necklaces.{is_necklace_of, of_kind}
use Rattle.prefix.specs.InnerCarried.{Knows}
use Rattle.walk.proofs.FitCases.{at_down, at_ended, at_given, at_up, fit_as, is_necklace_lem}
use Rattle.walk.specs.InnerCourse.{before}
use Rattle.walk.specs.Fit.{fit_at}
use Rattle.walk.specs.Moves.{row_of}
use Rattle.walk.specs.declared.Standing.{Standing}
use Rattle.walk.specs.declared.Standing.TheVariants.{Down, Ended, Given, Limit, Up}
use Rattle.words.proofs.Booleans.{and_no, and_yes, and→}
use Rattle.words.specs.Symbols.{all_up_to}
use Rattle.walk.proofs.Walk.fit_at.Goals as goal
use Rattle.walk.proofs.Walk.fit_at.Goals.{Joined-p-ge2, else-p-ge2, then-p-ge2}

pub returns-in-Limit : goal.returns-in-Limit
unfolding fit_at
returns-in-Limit c = fit_as _ Limit c.in-Limit.is refl

-- Down
pub returns-then-p-ge1 : goal.returns-then-p-ge1
returns-then-p-ge1 c = fit_as _ (Down _) c.in-Down.is (and_yes (le-leb 1 _ c.if-p-ge1.true) refl ∙ at_down _ _)

pub returns-else-p-ge1 : goal.returns-else-p-ge1
returns-else-p-ge1 c = fit_as _ (Down _) c.in-Down.is (and_no (leb c.in-Down.p c.args.self.n) (lt-leb 1 _ c.if-p-ge1.false) refl ∙ at_down _ _)

-- Up: the place is one of 2 to n
placed : (c : Joined-p-ge2) → c.if-p-ge2.placed ≡ (leb 2 c.in-Up.p && leb c.in-Up.p c.args.self.n)
placed c = elim c.if-p-ge2.branch [ then-p-ge2 q ↦ and_yes (le-leb 2 _ q.if-p-ge2.true) q.placed-is | else-p-ge2 q ↦ and_no _ (lt-leb 2 _ q.if-p-ge2.false) q.placed-is ]

inside : (c : Joined-p-ge2) → c.if-p-ge2.placed ≡ true → (2 ≤ c.in-Up.p) × (c.in-Up.p ≤ c.args.self.n)
inside c t = let both = and→ _ _ (sym (placed c) ∙ t) in (leb-true 2 _ both.0, leb-true _ _ both.1)

pub overflow_sub-p : goal.overflow_sub-p
overflow_sub-p c = omega (arith, inside (goal.at.overflow_sub-p c).Joined-p-ge2 c.if-placed.true)

pub returns-then-placed : goal.returns-then-placed
returns-then-placed c =
    fit_as _ (Up _) c.in-Up.is (and_yes (sym (placed (goal.at.returns-then-placed c).Joined-p-ge2) ∙ c.if-placed.true) c.ask.ensures ∙ at_up _ _)

pub returns-else-placed : goal.returns-else-placed
returns-else-placed c =
    let e = placed (goal.at.returns-else-placed c).Joined-p-ge2 in
    fit_as _ (Up _) c.in-Up.is (and_no _ (sym e ∙ c.if-placed.false) e ∙ at_up _ _)

pub is_of_kind-requires : goal.is_of_kind-requires
is_of_kind-requires c =
    let inside : c.args.self.n ≤ length c.args.self.row = omega (arith, c.requires.0.long, c.requires.0.most) in
    let whole : length (row_of c.args.self) ≡ c.args.self.n = length-take-le c.args.self.n c.args.self.row inside in
    let known_at : (at : Standing) → c.args.self.at ≡ at → Knows (take (before at c.args.self.n) c.args.self.row) c.args.known = λ at e. subst (λ t. Knows (take (before t c.args.self.n) c.args.self.row) c.args.known) e c.requires.1 in
    let known_row : Knows (row_of c.args.self) c.args.known = known_at Given c.in-Given.is in
    let e = sym c.requires.2 in
    let size = ap length c.requires.2 ∙ whole in (
      omega (arith, size, c.requires.0.some),
      omega (arith, size, c.requires.0.most),
      is_necklace_lem c.args.self.d _ (sym c.is_necklace_of.ensures ∙ c.if-is_necklace_of.true),
      subst (λ r. Knows r c.args.known) e known_row,
    )

pub returns-then-is_necklace_of : goal.returns-then-is_necklace_of
returns-then-is_necklace_of c =
    let necklace : let w = c.args.self in c.is_necklace_of.result ≡ is_necklace_of w.d (row_of w) = c.is_necklace_of.ensures ∙ ap (is_necklace_of c.args.self.d) c.requires.2 in
    let w = c.args.self in
    fit_as w Given c.in-Given.is
    (and_yes (sym necklace ∙ c.if-is_necklace_of.true) (c.is_of_kind.ensures ∙ ap (of_kind w.kind) c.requires.2) ∙ at_given w)

pub returns-else-is_necklace_of : goal.returns-else-is_necklace_of
returns-else-is_necklace_of c =
    let necklace : let w = c.args.self in c.is_necklace_of.result ≡ is_necklace_of w.d (row_of w) = c.is_necklace_of.ensures ∙ ap (is_necklace_of c.args.self.d) c.requires.2 in
    fit_as _ Given c.in-Given.is (and_no _ (sym necklace ∙ c.if-is_necklace_of.false) necklace ∙ at_given _)

-- Ended: both rows are zeros
pub returns-in-Ended : goal.returns-in-Ended
returns-in-Ended c =
    fit_as _ Ended c.in-Ended.is
    (zero_test c.highest_of_two.result ∙ sym (c.highest_of_two.ensures 0) ∙ ap (λ k. all_up_to 0 c.args.self.row && all_up_to 0 k) c.requires.3 ∙ at_ended _)
