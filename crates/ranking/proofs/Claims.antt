-- The claims on seat numbers hold.
use native.Mathlib.Omega.{arith}
use Rattle.counting.proofs.Ceilings.{choose-fits}
use Rattle.density.proofs.DrawerVerdicts.{drawer_chain, row_chain}
use Rattle.density.proofs.RankedRings.{rank_few}
use Rattle.density.specs.Ranks.{ring_count}
use Rattle.ranking.specs.Answers.{is_counted, rank_verdict, unrank_verdict}
use Rattle.ranking.specs.Claims.{RankRefusals, SeatsFit, UnrankRefusals}
use Rattle.refusal.proofs.Conditions.{at_most_tells, chain_first, one_to_tells, passed, test}

pub rank_refusals : RankRefusals
unfolding rank_verdict is_counted
rank_refusals n d kind row = chain_first (drawer_chain n d (one_to_tells 2 kind) (row_chain n row))

pub unrank_refusals : UnrankRefusals
unfolding unrank_verdict is_counted
unrank_refusals n d kind seat room =
    chain_first (drawer_chain n d (one_to_tells 2 kind) (test _ (at_most_tells n room) (λ a. test _ (one_to_tells (ring_count n d kind) seat) (λ b. passed))))

pub seats_fit : SeatsFit
seats_fit n d kind row h = omega (arith, rank_few n d kind row, choose-fits n d h)
