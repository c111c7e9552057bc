-- `walk::Walk::open` meets its contract: it refuses what the check refuses.
use mathlib.Core.Bool.{false}
use mathlib.Core.List.{◌++◌}
use mathlib.Core.Path.{ap, refl, sym, ◌∙◌, ◌≡◌}
use Prim.Native.Nat.{◌-◌}
use native.Mathlib.Omega.{arith}
use Rattle.density.proofs.DrawerVerdicts.{accepted→}
use Rattle.density.specs.Drawers.{open_verdict}
use Rattle.refusal.specs.Outcomes.{decide}
use Rattle.refusal.specs.Verdicts.{Verdict, accepted, most_stations}
use Rattle.refusal.specs.declared.Refusal.{Refusal}
use Rattle.std.specs.Prelude.{Result}
use Rattle.std.specs.Result.{is_err}
use Rattle.words.specs.Symbols.{zeros}
use Rattle.walk.proofs.Walk.«open».Goals as goal
use Rattle.walk.proofs.Walk.«open».Goals.{Else-is_err}

-- what is no error passes
no_error : (v : Verdict) {r : Result Unit Refusal} → r ≡ decide v tt → is_err r ≡ false → v ≡ accepted
no_error accepted e f = refl
no_error (Verdict.refused q) e f = let z = ap is_err (sym e) ∙ f in cc

passes : (c : Else-is_err) → let a = c.args in open_verdict a.n a.d a.kind a.limit.now ≡ accepted
passes c = no_error _ c.check_opening-answer.ensures (sym c.is_err.ensures.value ∙ c.if-is_err.false)

pub padded-row-requires : goal.padded-row-requires
padded-row-requires c =
    let passed = accepted→ _ _ _ _ (passes (goal.at.padded-row-requires c).Else-is_err) in
    omega (arith, passed.long, passed.drawer.sized.most)

pub returns-clause-walk : goal.returns-clause-walk
returns-clause-walk c =
    let p = passes (goal.at.returns-clause-walk c).Else-is_err in
    let a = c.args in
    rw (p, c.padded-row.ensures ∙ ap (λ m. a.limit.now ++ zeros (most_stations - m)) (accepted→ _ _ _ _ p).long)
