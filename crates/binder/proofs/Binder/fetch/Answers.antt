-- `binder::Binder::fetch` meets its contract: the laws of UnderName, at each return.
use mathlib.Core.Path.{refl, sym, ◌∙◌, ◌≡◌}
use native.Mathlib.Omega.{arith}
use lib.ListN.{length}
use Rattle.binder.proofs.UnderName.{fetch_above, fetch_none, fetch_refused, fetch_some, under_read}
use Rattle.binder.proofs.Binder.fetch.Goals as goal

pub returns-then-name-ge-NAMES : goal.returns-then-name-ge-NAMES
returns-then-name-ge-NAMES c =
    let a = c.args in
    let t = fetch_refused a.self a.name (fetch_above a.self a.name (omega arith)) c.no_walk.ensures in
    record { answer = t.0; walk = t.1 }

pub returns-in-Some : goal.returns-in-Some
returns-in-Some c =
    let eight : length c.args.self.bookmarks ≡ 8 = search c.well_formed in
    let a = c.args in
    let t = fetch_some a.self a.name (omega (arith, c.if-name-ge-NAMES.false)) _ (sym (under_read a.self a.name (omega (arith, c.if-name-ge-NAMES.false)) eight _) ∙ c.in-Some.is) in
    record { answer = rw t.0 refl; walk = sym t.1 }

pub returns-in-None : goal.returns-in-None
returns-in-None c =
    let eight : length c.args.self.bookmarks ≡ 8 = search c.well_formed in
    let a = c.args in
    let e = fetch_none a.self a.name (omega (arith, c.if-name-ge-NAMES.false)) (sym (under_read a.self a.name (omega (arith, c.if-name-ge-NAMES.false)) eight _) ∙ c.in-None.is) in
    let t = fetch_refused a.self a.name e c.no_walk-in-None.ensures in
    record { answer = t.0; walk = t.1 }
