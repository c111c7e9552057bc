-- `walk_records::same_walk` meets its contract: field by field.
use mathlib.Core.Path.{refl, sym, ◌∙◌}
use Rattle.walk_records.proofs.SameWalks.{by_rows, not_false, not_true, other_sizes, other_standings}
use Rattle.walk_records.proofs.same_walk.Goals as goal
use Rattle.walk_records.proofs.same_walk.Goals.{then-walk-other-via-then-walk-other, then-walk-other-via-else-walk-other+then-walk-other-2, then-walk-other-via-else-walk-other+else-walk-other-2+then-walk-other-3}

pub returns-then-walk-other : goal.returns-then-walk-other
returns-then-walk-other c =
    sym (other_sizes c.args.walk c.args.other (λ h. elim c.then-walk-other.branch [
      | then-walk-other-via-then-walk-other w ↦ w.if-walk-other.true h.0
      | then-walk-other-via-else-walk-other+then-walk-other-2 w ↦ w.if-walk-other-2.true h.1
      | then-walk-other-via-else-walk-other+else-walk-other-2+then-walk-other-3 w ↦ w.if-walk-other-3.true h.2
    ]))

pub returns-then-ne : goal.returns-then-ne
returns-then-ne c =
    sym (other_standings _ _ (c.if-walk-other.false, c.if-walk-other-2.false, c.if-walk-other-3.false) refl (not_true (sym c.ne.ensures ∙ c.if-ne.true)))

pub returns-then-same_row : goal.returns-then-same_row
returns-then-same_row c =
    let rows = by_rows _ _ (c.if-walk-other.false, c.if-walk-other-2.false, c.if-walk-other-3.false) refl (not_false (sym c.ne.ensures ∙ c.if-ne.false)) in
    let row = sym c.same_row.ensures ∙ c.if-same_row.true in
    c.same_row-then-same_row.ensures ∙ sym (rows ∙ rw row refl)

pub returns-else-same_row : goal.returns-else-same_row
returns-else-same_row c =
    let left = by_rows _ _ (c.if-walk-other.false, c.if-walk-other-2.false, c.if-walk-other-3.false) refl (not_false (sym c.ne.ensures ∙ c.if-ne.false)) in
    let row = sym c.same_row.ensures ∙ c.if-same_row.false in
    c.if-same_row.false ∙ sym (left ∙ rw row refl)
