-- The look-up: what it finds in the table are the ways to choose.
use mathlib.Core.Path.{◌≡◌}
use Prim.Native.Nat.{suc, ℕ, ◌≤◌}
use native.Mathlib.Omega.{arith}
use lib.Dec.{leb}
use borrow.Author.Tests.{le-leb, leb-true}
use Rattle.density.specs.Choose.{choose}
use Rattle.pascal.proofs.Rows.{entry_chosen}
use Rattle.pascal.specs.Answers.{ways_verdict}
use Rattle.pascal.specs.Pascal.{entry_of, last_row, triangle}
use Rattle.refusal.proofs.Conditions.{need→}
use Rattle.refusal.proofs.Outcomes.{decide_on}
use Rattle.refusal.specs.Outcomes.{decide}
use Rattle.refusal.specs.Verdicts.{accepted}

inside : (top bottom : ℕ) → ways_verdict top bottom ≡ accepted → entry_of (triangle (suc last_row)) top bottom ≡ choose top bottom
unfolding ways_verdict
inside top bottom e =
    let a = need→ (leb top last_row) _ _ e in
    let b = need→ (leb bottom top) _ _ a.1 in
    let t = leb-true top last_row a.0 in
    entry_chosen (suc last_row) top bottom (omega arith) (leb-true bottom top b.0)

pub looked_up : (top bottom : ℕ) → decide (ways_verdict top bottom) (entry_of (triangle (suc last_row)) top bottom) ≡ decide (ways_verdict top bottom) (choose top bottom)
looked_up top bottom = decide_on (ways_verdict top bottom) (inside top bottom)

-- nothing is refused within the table
pub in_table : (top bottom : ℕ) → top ≤ last_row → bottom ≤ top → ways_verdict top bottom ≡ accepted
unfolding ways_verdict
in_table top bottom h k = rw (le-leb top last_row h, le-leb bottom top k)
