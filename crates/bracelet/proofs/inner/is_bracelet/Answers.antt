-- `bracelet::inner::is_bracelet` meets its contract: the laws of Against, at each place of the code.
use mathlib.Core.List.{List, reverse, ◌++◌}
use mathlib.Core.Path.{ap, refl, ◌∙◌, ◌≡◌}
use Prim.Native.Nat.{ℕ, ◌+◌, ◌-◌, ◌≤◌}
use native.Mathlib.Omega.{arith}
use lib.ListN.{drop, length, take}
use Rattle.bracelet.proofs.Parts.{turn_part, twice_front, twice_room}
use Rattle.words.specs.Order.{cmp, order_of}
use Rattle.words.specs.Rotation.{rotation}
use Rattle.bracelet.proofs.Against.{passed_all, passed_equal, passed_lower, passed_more, passed_none}
use Rattle.bracelet.proofs.inner.is_bracelet.Goals as goal
use Rattle.std.specs.declared.cmp.Ordering.{Ordering as Answer}

pub loop-j-init : goal.loop-j-init
loop-j-init c =
    let row = c.args.row.now in
    let e = c.write_reversed.ensures in
    let f = c.write_reversed-2.ensures in
    let t = twice_front row _ _ _ _ _ e f in
    record { whole = refl; rest = _; twice = t; room = twice_room row _ _ t; passed = passed_none row }

-- the row against the next rotation
against : (row back rest : List ℕ) (n j : ℕ) (r : Answer) → n ≡ length row → back ≡ reverse row ++ (reverse row ++ rest) → j ≤ n → r ≡ order_of (cmp row (take (j + n - j) (drop j back))) → r ≡ order_of (cmp row (rotation j (reverse row)))
against row back rest n j r w t h e = e ∙ ap (λ x. order_of (cmp row x)) (turn_part row back rest n j w t h)

pub returns-in-Greater : goal.returns-in-Greater
returns-in-Greater c =
    let l = c.loop-j in
    passed_lower l.invariant.passed (omega arith) _ (against _ _ l.invariant.rest _ _ _ refl l.invariant.twice (omega arith) c.compare-compared.ensures.order) c.in-Greater.is

pub returns-in-Equal : goal.returns-in-Equal
returns-in-Equal c =
    let l = c.loop-j in
    passed_equal l.invariant.passed (omega arith) _ (against _ _ l.invariant.rest _ _ _ refl l.invariant.twice (omega arith) c.compare-compared.ensures.order) c.requires.2 c.in-Equal.is

pub loop-j-preserved : goal.loop-j-preserved
loop-j-preserved c =
    let l = c.loop-j in
    record { whole = refl; rest = l.invariant.rest; twice = l.invariant.twice; room = l.invariant.room; passed = passed_more l.invariant.passed (omega arith) _ (against _ _ l.invariant.rest _ _ _ refl l.invariant.twice (omega arith) c.compare-compared.ensures.order) c.in-Less.is }

pub returns : goal.returns
returns c = passed_all c.loop-j.invariant.passed c.requires.0 c.requires.2 (omega arith)
