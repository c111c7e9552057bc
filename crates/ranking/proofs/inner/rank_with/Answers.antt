-- `ranking::inner::rank_with` meets its contract.
use mathlib.Core.Path.{◌∙◌}
use native.Mathlib.Omega.{arith}
use Rattle.ranking.proofs.RankSums.{rank_one_of, rank_two_of, sum_fits}
use Rattle.ranking.proofs.Verdicts.{counted_kinds}
use Rattle.ranking.proofs.inner.rank_with.Goals as goal

pub common_sum-requires : goal.common_sum-requires
common_sum-requires c =
    (c.requires.0.few, sum_fits _ _ c.requires.0 _ c.count_all-words.ensures)

pub returns-then-kind-eq1 : goal.returns-then-kind-eq1
returns-then-kind-eq1 c =
    c.common_sum.ensures ∙ rank_one_of _ _ c.requires.0 _ c.count_all-words.ensures _ c.if-kind-eq1.true

pub returns : goal.returns
returns c =
    let k = counted_kinds c.args.kind c.requires.1 in
    rank_two_of _ _ c.requires.0 _ c.count_all-words.ensures _ (omega (arith, c.if-kind-eq1.false))
