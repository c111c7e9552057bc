-- `largest::largest_necklace` meets its contract: each test decides as its verdict does, and the row written is the largest necklace.
use mathlib.Core.Path.{sym, ◌∙◌}
use native.Mathlib.Omega.{arith}
use lib.ListN.{length}
use Rattle.largest.proofs.TopVerdicts.{kept, no_stations, row_length, too_many_holes, too_short, written}
use Rattle.refusal.proofs.Stations.{stations→}
use Rattle.refusal.specs.declared.Refusal.TheVariants.{Buffer, Holes, Stations}
use Rattle.largest.proofs.largest_necklace.Goals as goal

pub returns-then-not-are_stations : goal.returns-then-not-are_stations
returns-then-not-are_stations c =
    let s = c.args in
    let few = kept Stations s.n s.d s.out.now (no_stations s.n s.d (length s.out.now) (sym c.are_stations.ensures ∙ c.if-not-are_stations.true)) in
    record { answer = few.0; buffer = few.1 }

pub returns-then-n-d : goal.returns-then-n-d
returns-then-n-d c =
    let s = c.args in
    let many = kept Holes s.n s.d s.out.now (too_many_holes s.n s.d (length s.out.now) (sym c.are_stations.ensures ∙ c.if-not-are_stations.false) c.if-n-d.true) in
    record { answer = many.0; buffer = many.1 }

pub returns-then-out-n : goal.returns-then-out-n
returns-then-out-n c =
    let s = c.args in
    let e = sym c.are_stations.ensures ∙ c.if-not-are_stations.false in
    let short = kept Buffer s.n s.d s.out.now (too_short s.n s.d (length s.out.now) e c.if-n-d.false c.if-out-n.true) in
    record { answer = short.0; buffer = short.1 }

pub top_row-row-requires : goal.top_row-row-requires
top_row-row-requires c =
    let z = stations→ _ (sym c.are_stations.ensures ∙ c.if-not-are_stations.false) in
    record { n_nonzero = omega arith; n_le_most_stations = omega arith; d_le_n = omega arith }

pub slice_bounds-row-end : goal.slice_bounds-row-end
slice_bounds-row-end c = omega (arith, stations→ _ (sym c.are_stations.ensures ∙ c.if-not-are_stations.false))

pub slice_bounds-write_front-end : goal.slice_bounds-write_front-end
slice_bounds-write_front-end c =
    let s = c.args in
    sym (row_length s.n s.d c.top_row-row.result (sym c.are_stations.ensures ∙ c.if-not-are_stations.false) c.if-n-d.false c.top_row-row.ensures)

pub write_front-requires : goal.write_front-requires
write_front-requires c =
    let s = c.args in
    omega (arith, row_length s.n s.d c.top_row-row.result (sym c.are_stations.ensures ∙ c.if-not-are_stations.false) c.if-n-d.false c.top_row-row.ensures)

pub returns : goal.returns
returns c =
    let s = c.args in
    let found = written s.n s.d c.top_row-row.result (sym c.are_stations.ensures ∙ c.if-not-are_stations.false) c.if-n-d.false c.top_row-row.ensures s.out.now _ c.if-out-n.false c.write_front.ensures in
    record { answer = found.0; buffer = found.1 }
