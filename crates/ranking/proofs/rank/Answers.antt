-- `ranking::rank` meets its contract: it refuses what the check of the kind that stands for it refuses.
use mathlib.Core.Path.{ap, ◌∙◌}
use Rattle.density.specs.Ranks.{rank}
use Rattle.ranking.proofs.Verdicts.{rank_accepted, rank_refused}
use Rattle.refusal.proofs.Outcomes.{handed_on}
use Rattle.std.specs.Prelude.{Ok}
use Rattle.ranking.proofs.rank.Goals as goal

pub returns-in_err-check_opening : goal.returns-in_err-check_opening
returns-in_err-check_opening c =
    let v = rank_refused _ _ _ _ c.counted.ensures _ c.check_opening.ensures c.in_err-check_opening.was in
    handed_on _ c.from_residual.ensures.1 ∙ rw v

pub rank_of-requires : goal.rank_of-requires
rank_of-requires c =
    let r = rank_accepted _ _ _ _ c.counted.ensures _ c.check_opening.ensures c.in_ok-check_opening.was in
    (r.given, r.counted)

pub returns : goal.returns
returns c =
    let r = rank_accepted _ _ _ _ c.counted.ensures _ c.check_opening.ensures c.in_ok-check_opening.was in
    rw r.verdict (ap Ok (c.rank_of.ensures ∙ ap (λ n. rank n c.args.d c.args.kind c.args.row.now) r.long))
