-- `lengths::drawer_length` meets its contract: what the check of an opening refuses, and else the length, by kind.
use mathlib.Core.Path.{ap, refl, sym, ◌∙◌}
use native.Mathlib.Omega.{arith}
use Rattle.lengths.proofs.Accepted.{ceiling_length, counted, limit_given, rank-length, tabled}
use Rattle.lengths.specs.Answers.{length_outcome}
use Rattle.refusal.proofs.Outcomes.{given_so, handed_on, refused_so}
use Rattle.std.specs.Prelude.{Ok}
use Rattle.lengths.proofs.drawer_length.Goals as goal

pub returns-in_err-check_opening : goal.returns-in_err-check_opening
returns-in_err-check_opening c =
    let v = refused_so _ _ _ (sym c.check_opening.ensures ∙ c.in_err-check_opening.was) in
    ap length_outcome (handed_on _ c.from_residual.ensures.1) ∙ rw v refl

pub ceiling-requires : goal.ceiling-requires
ceiling-requires c = tabled _ _ _ _ (given_so _ _ _ (sym c.check_opening.ensures ∙ c.in_ok-check_opening.was))

pub returns-then-kind-eq3 : goal.returns-then-kind-eq3
returns-then-kind-eq3 c =
    let p = given_so _ _ _ (sym c.check_opening.ensures ∙ c.in_ok-check_opening.was) in
    rw p (ap Ok (ceiling_length _ _ _ _ p c.ceiling.result (omega arith) (omega (arith, c.ceiling.ensures))))

pub rank_of-requires : goal.rank_of-requires
rank_of-requires c =
    let p = given_so _ _ _ (sym c.check_opening.ensures ∙ c.in_ok-check_opening.was) in
    (limit_given _ _ _ _ p, counted _ _ _ _ p (λ k. omega arith))

-- kinds 1 and 2 have exactly
-- as many rings as the seat of the limit says
pub returns : goal.returns
returns c =
    let p = given_so _ _ _ (sym c.check_opening.ensures ∙ c.in_ok-check_opening.was) in
    rw p (ap Ok (rank-length _ _ _ _ p c.rank_of.result (λ k. omega arith) (omega (arith, c.rank_of.ensures))))
