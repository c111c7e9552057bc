-- `ranking::unrank` meets its contract: each test decides as the verdict does, and the row written is the ring at the seat.
use mathlib.Core.Logic.{inl, inr, ⊎_elim}
use mathlib.Core.Path.{refl, sym, ◌≡◌}
use Prim.Native.Nat.{◌≤◌}
use native.Mathlib.Omega.{arith}
use lib.ListN.{length}
use borrow.Author.Rules.{rules}
use Rattle.density.specs.Ranks.{ring_count}
use Rattle.ranking.proofs.SymbolSteps.{ring_long}
use Rattle.ranking.proofs.Verdicts.{counted_of, drawer_accepted, drawer_refused, kept, no_room, no_seat, seated, unrank_refused, written}
use Rattle.refusal.proofs.Outcomes.{handed_on}
use Rattle.refusal.specs.Conditions.{NotOneTo}
use Rattle.refusal.specs.Verdicts.{most_stations}
use Rattle.refusal.specs.declared.Refusal.TheVariants.{Buffer, Seat}
use Rattle.ranking.proofs.unrank.Goals as goal

pub returns-in_err-check_drawer : goal.returns-in_err-check_drawer
returns-in_err-check_drawer c =
    let e = drawer_refused _ _ _ _ c.counted.ensures c.check_drawer.ensures c.in_err-check_drawer.was in
    kept _ _ _ _ _ _ (handed_on _ c.from_residual.ensures.1) (unrank_refused _ _ _ _ _ _ e)

-- a buffer that is too short
-- is refused whatever the seat is
pub returns-then-out-n : goal.returns-then-out-n
returns-then-out-n c =
    let e = drawer_accepted _ _ _ _ c.counted.ensures c.check_drawer.ensures c.in_ok-check_drawer.was in
    kept _ _ _ _ _ Buffer refl (no_room _ _ _ _ _ e c.if-out-n.true)

-- ---- the total

pub total-total-requires : goal.total-total-requires
total-total-requires c =
    counted_of _ _ _ (drawer_accepted _ _ _ _ c.counted.ensures c.check_drawer.ensures c.in_ok-check_drawer.was)

pub returns-then-seat-lt1 : goal.returns-then-seat-lt1
returns-then-seat-lt1 c =
    let e = drawer_accepted _ _ _ _ c.counted.ensures c.check_drawer.ensures c.in_ok-check_drawer.was in
    let out : NotOneTo (ring_count c.args.n c.args.d c.args.kind) c.args.seat =
    ⊎_elim (λ w. inl (omega arith)) (λ w. inr (omega (arith, c.total-total.ensures))) c.then-seat-lt1.either in
    kept _ _ _ _ _ Seat refl (no_seat _ _ _ _ _ e c.if-out-n.false out)

-- ---- the ring

pub necklace_at-ring-requires : goal.necklace_at-ring-requires
necklace_at-ring-requires c =
    let e = drawer_accepted _ _ _ _ c.counted.ensures c.check_drawer.ensures c.in_ok-check_drawer.was in
    (seated _ _ _ _ _ e c.if-out-n.false (omega arith) (omega (arith, c.total-total.ensures))).1

pub slice_bounds-ring-end : goal.slice_bounds-ring-end
slice_bounds-ring-end c =
    let e = drawer_accepted _ _ _ _ c.counted.ensures c.check_drawer.ensures c.in_ok-check_drawer.was in
    let few : c.args.n ≤ most_stations = (counted_of _ _ _ e).few in
    let l : length c.necklace_at-ring.result ≡ most_stations = search rules in
    omega arith

pub slice_bounds-write_front-end : goal.slice_bounds-write_front-end
slice_bounds-write_front-end c =
    let e = drawer_accepted _ _ _ _ c.counted.ensures c.check_drawer.ensures c.in_ok-check_drawer.was in
    let ok = seated _ _ _ c.args.seat _ e c.if-out-n.false (omega arith) (omega (arith, c.total-total.ensures)) in
    sym (ring_long _ _ _ _ ok.1 _ c.necklace_at-ring.ensures)

pub returns : goal.returns
returns c =
    let e = drawer_accepted _ _ _ _ c.counted.ensures c.check_drawer.ensures c.in_ok-check_drawer.was in
    let ok = seated _ _ _ c.args.seat _ e c.if-out-n.false (omega arith) (omega (arith, c.total-total.ensures)) in
    written _ _ _ _ _ _ _ ok.0 c.necklace_at-ring.ensures c.write_front.ensures
