-- `lyndon_below::bound::highest_to` meets its contract.
use mathlib.Core.Path.{sym, ◌∙◌}
use Prim.Native.Nat.{◌-◌}
use lib.ListN.{length}
use Rattle.lyndon_below.proofs.BoundSteps.{itself, not_allowed, not_itself}
use Rattle.lyndon_below.proofs.bound.highest_to.Goals as goal
use Rattle.lyndon_below.proofs.bound.highest_to.Goals.{else-allowed-via-else-allowed, else-allowed-via-then-allowed+else-begins_necklace}

pub returns-then-begins_necklace : goal.returns-then-begins_necklace
returns-then-begins_necklace c =
    itself c.args.allowed c.args.v.now c.padded.result (64 - length c.args.v.now) c.if-allowed.true
    (sym c.begins_necklace.ensures ∙ c.if-begins_necklace.true) c.padded.ensures

pub returns : goal.returns
returns c =
    c.highest_below.ensures
    ∙ elim c.else-allowed.branch [
      | else-allowed-via-then-allowed+else-begins_necklace w ↦
          not_itself _ _ w.if-allowed.true (sym w.begins_necklace.ensures ∙ w.if-begins_necklace.false)
      | else-allowed-via-else-allowed w ↦ not_allowed _ _ w.if-allowed.false
    ]
