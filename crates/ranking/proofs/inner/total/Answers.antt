-- `ranking::inner::total` meets its contract.
use Rattle.ranking.proofs.SymbolSteps.{ones_given, ones-rank}
use Rattle.ranking.proofs.inner.total.Goals as goal

pub rank_with-requires : goal.rank_with-requires
rank_with-requires c =
    (ones_given _ c.args.d c.requires.some c.requires.few c.requires.dense, c.requires.counted)

pub returns : goal.returns
returns c = ones-rank c.args.n c.args.d c.args.kind c.rank_with.result c.requires.few c.rank_with.ensures
