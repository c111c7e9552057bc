-- The claims on the table and its look-up hold.
use mathlib.Core.Bool.{true}
use mathlib.Core.Path.{refl, ◌∙◌, ◌≡◌}
use mathlib.Core.List.{◌++◌}
use Prim.Native.Nat.{suc, ◌*◌, ◌+◌, ◌-◌, ◌/◌, ◌^◌}
use native.Mathlib.Omega.{arith}
use lib.ListN.{length, get_or-append}
use lib.Seq.{get_or-append-add}
use Rattle.density.proofs.RowCounts.{choose_all}
use Rattle.density.specs.Choose.{choose}
use Rattle.pascal.proofs.Rows.{entry_chosen}
use Rattle.pascal.specs.Answers.{ways_verdict}
use Rattle.pascal.specs.Claims.{Entries, EntryChosen, Fits, RowsInOrder, TableRule, WaysRefusals}
use Rattle.pascal.specs.Pascal.{entry_of, last_row, rows_from, sums, triangle}
use Rattle.refusal.proofs.Conditions.{at_most_tells, chain_first, passed, test}
use Rattle.words.proofs.HighestSymbol.{up_to→}
use Rattle.words.specs.Symbols.{all_up_to}

pub entries : Entries
unfolding triangle rows_from sums
entries = refl

pub table_rule : TableRule
unfolding choose
table_rule m n d h = (
  entry_chosen m n 0 h (omega arith),
  entry_chosen m n n h (omega arith) ∙ choose_all n,
  λ k l. omega (arith, entry_chosen m (suc n) (suc d) k (omega arith), entry_chosen m n d h (omega arith), entry_chosen m n (suc d) h (omega arith)),
)

pub rows_in_order : RowsInOrder
unfolding entry_of
rows_in_order before row behind top bottom e h =
    let at : top * (top + 1) / 2 ≡ length before = omega arith in
    rw at (get_or-append-add before (row ++ behind) bottom 0 ∙ get_or-append row behind 0 bottom h)

pub entry_is : EntryChosen
entry_is = entry_chosen

-- every number of the table has at most 64 bits, by one computation
all_fit : all_up_to (2 ^ 64 - 1) (triangle (suc last_row)) ≡ true
unfolding triangle rows_from sums all_up_to
all_fit = refl

pub fits : Fits
unfolding entry_of
fits n d h l = omega (arith, entry_chosen (suc last_row) n d (omega arith) l, up_to→ (2 ^ 64 - 1) (triangle (suc last_row)) all_fit (n * (n + 1) / 2 + d))

pub ways_refusals : WaysRefusals
unfolding ways_verdict
ways_refusals top bottom = chain_first (test _ (at_most_tells top last_row) (λ a. test _ (at_most_tells bottom top) (λ b. passed)))
