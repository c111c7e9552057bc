-- `binder::Binder::put` meets its contract: the laws of UnderName, at each return.
use mathlib.Core.Path.{refl, sym, ◌∙◌}
use native.Mathlib.Omega.{arith}
use Rattle.binder.proofs.UnderName.{put_above, put_accepted, put_refused, put_unfit}
use Rattle.binder.proofs.Binder.put.Goals as goal

-- a name above 7
-- is refused whatever the walk is
pub returns-then-name-ge-NAMES : goal.returns-then-name-ge-NAMES
returns-then-name-ge-NAMES c =
    let a = c.args in
    let t = put_refused a.self a.name a.walk (put_above a.name a.walk (omega arith)) c.unchanged.ensures in
    record { answer = t.0; binder = t.1 }

pub returns-then-not-is_fit : goal.returns-then-not-is_fit
returns-then-not-is_fit c =
    let a = c.args in
    let unfit = sym c.is_fit.ensures ∙ c.if-not-is_fit.true in
    let t = put_refused a.self a.name a.walk (put_unfit a.name a.walk (omega (arith, c.if-name-ge-NAMES.false)) unfit) c.unchanged-then-not-is_fit.ensures in
    record { answer = t.0; binder = t.1 }

pub returns : goal.returns
returns c =
    let a = c.args in
    let fits = sym c.is_fit.ensures ∙ c.if-not-is_fit.false in
    rw (put_accepted a.name a.walk (omega (arith, c.if-name-ge-NAMES.false)) fits) (record { answer = refl; binder = refl })
