-- `ranking::inner::necklace_at` meets its contract.
use Rattle.ranking.proofs.SymbolSteps.{fixed_end, fixed_high, fixed_low, fixed_start, tried_given}
use Rattle.ranking.proofs.inner.necklace_at.Goals as goal
use Rattle.ranking.proofs.inner.necklace_at.Goals.{else-rank-seat, then-rank-seat}

pub loop-i-init : goal.loop-i-init
loop-i-init c = fixed_start _ _ _ _ c.requires

pub rank_with-rank-requires : goal.rank_with-rank-requires
rank_with-rank-requires c =
    (tried_given _ _ _ _ c.requires _ _ c.loop-i.invariant c.loop-i-test.true, c.requires.counted)

pub loop-i-preserved : goal.loop-i-preserved
loop-i-preserved c =
    elim c.if-rank-seat.branch [
      | then-rank-seat w ↦ rw w.row-is
          (fixed_high _ _ _ _ c.requires _ _ c.loop-i.invariant c.loop-i-test.true _ c.rank_with-rank.ensures w.if-rank-seat.true)
      | else-rank-seat w ↦ rw w.row-is
          (fixed_low _ _ _ _ c.requires _ _ c.loop-i.invariant c.loop-i-test.true _ c.rank_with-rank.ensures w.if-rank-seat.false)
    ]

pub returns : goal.returns
returns c = fixed_end _ _ _ _ c.requires _ _ c.loop-i.invariant c.loop-i-test.false
