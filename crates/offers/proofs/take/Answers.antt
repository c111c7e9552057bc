-- `offers::take` meets its contract: by the answer of the step.
use mathlib.Core.Bool.{true≢false}
use mathlib.Core.Path.{ap, sym, ◌∙◌, ◌≡◌}
use lib.ListN.{length}
use borrow.Author.Rules.{rules}
use Rattle.std.specs.Prelude.{Err}
use denote.Enum.Bare.{same_true, true_same}
use Rattle.refusal.specs.Verdicts.{most_stations}
use Rattle.walk.specs.contracts.Answer.{the_type}
use Rattle.walk_records.proofs.SameWalks.{same_walk_lem}
use Rattle.offers.proofs.TakeCases.{not_taken, not_that, spent_as, taken_as}
use Rattle.offers.proofs.take.Goals as goal
use Rattle.offers.proofs.take.Goals.{else-eq-via-else-eq, else-eq-via-then-eq+else-same_walk}

pub returns-then-same_walk : goal.returns-then-same_walk
returns-then-same_walk c =
    let long : length c.args.walk.row ≡ most_stations = search rules in
    let same = same_true the_type (search rules) _ _ (sym c.eq.ensures ∙ c.if-eq.true) in
    let moved = (same_walk_lem _ _).0 (sym c.same_walk.ensures ∙ c.if-same_walk.true) in
    let t = taken_as c.args.walk c.args.offer long _ c.step-stepped.ensures.answer _ c.in-Ok.is same moved in
    record { answer = t.0; numbers = t.1 }

pub returns-else-eq : goal.returns-else-eq
returns-else-eq c =
    let long : length c.args.walk.row ≡ most_stations = search rules in
    let t = not_that c.args.walk c.args.offer long _ c.step-stepped.ensures.answer _ c.in-Ok.is (λ p q. elim c.else-eq.branch [
      | else-eq-via-then-eq+else-same_walk w ↦ true≢false (sym ((same_walk_lem _ _).1 q) ∙ sym w.same_walk.ensures ∙ w.if-same_walk.false)
      | else-eq-via-else-eq w ↦ true≢false (sym (true_same the_type _ _ p) ∙ sym c.eq.ensures ∙ w.if-eq.false)
    ]) c.refusing.ensures in
    record { answer = t.0; numbers = t.1 }

pub returns-in-Spent : goal.returns-in-Spent
returns-in-Spent c =
    let long : length c.args.walk.row ≡ most_stations = search rules in
    let t = spent_as c.args.walk c.args.offer long _ c.step-stepped.ensures.answer (c.in-Err.is ∙ ap Err c.in-Spent.is) c.refusing-in-Spent.ensures in
    record { answer = t.0; numbers = t.1 }

pub returns-in_default : goal.returns-in_default
returns-in_default c =
    let long : length c.args.walk.row ≡ most_stations = search rules in
    let t = not_taken c.args.walk c.args.offer long _ c.step-stepped.ensures.answer _ c.in_default.not-Spent c.in-Err.is c.refusing-in_default.ensures in
    record { answer = t.0; numbers = t.1 }
