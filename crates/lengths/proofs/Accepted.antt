-- An opening that is accepted: its ways stand in the table, its limit is counted, and its length goes by the kind.
use mathlib.Core.Bool.{true}
use mathlib.Core.List.{List}
use mathlib.Core.Path.{ap, sym, ◌∙◌, ◌≡◌}
use Prim.Native.Nat.{ℕ, ◌≤◌}
use native.Mathlib.Omega.{arith}
use lib.ListN.{length}
use borrow.Author.Tests.{eq-eqb, ne_eqb}
use Rattle.density.proofs.DrawerVerdicts.{Passed, accepted→}
use Rattle.density.proofs.KindTests.{kinds_known}
use Rattle.density.specs.Choose.{choose}
use Rattle.density.specs.Drawers.{open_verdict}
use Rattle.density.specs.Lengths.{at_most, drawer_length, exactly}
use Rattle.density.specs.Ranks.{rank}
use Rattle.lengths.specs.Answers.{length_told}
use Rattle.lengths.specs.declared.Length.{Length}
use Rattle.lyndon_below.specs.InnerTables.{Given}
use Rattle.pascal.proofs.LookUp.{in_table}
use Rattle.pascal.specs.Answers.{ways_verdict}
use Rattle.ranking.proofs.Verdicts.{kept_kind, row_given}
use Rattle.ranking.specs.Answers.{is_counted}
use Rattle.refusal.specs.Verdicts.{accepted}

module _ (n d kind : ℕ) (limit : List ℕ) (e : open_verdict n d kind limit ≡ accepted) where
  passed : Passed n d kind limit
  passed = accepted→ n d kind limit e

  pub tabled : ways_verdict n d ≡ accepted
  tabled = let i = passed.drawer in in_table n d (omega (arith, i.sized.most)) i.dense

  pub limit_given : Given limit d
  limit_given = row_given passed.drawer passed.long passed.binary

  pub kind_known : (1 ≤ kind) × (kind ≤ 3)
  kind_known = kinds_known kind passed.drawer.kinds

  pub counted : (kind ≡ 3 → ⊥) → is_counted kind ≡ true
  counted h = sym (kept_kind kind (omega (arith, kind_known.1, h))) ∙ passed.drawer.kinds

  -- of kind 3 the ceiling
  pub ceiling_length : (x : ℕ) → kind ≡ 3 → x ≡ choose n d → length_told (Length.AtMost x) ≡ drawer_length n d kind limit
  unfolding drawer_length
  ceiling_length x h q = rw (eq-eqb kind 3 h) (ap at_most q)

  -- else the rank of the limit
  pub rank-length : (x : ℕ) → (kind ≡ 3 → ⊥) → x ≡ rank (length limit) d kind limit
      → length_told (Length.Exactly x) ≡ drawer_length n d kind limit
  unfolding drawer_length
  rank-length x h q = rw (ne_eqb kind 3 h) (ap exactly (q ∙ ap (λ m. rank m d kind limit) passed.long))
