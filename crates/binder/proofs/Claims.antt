-- The claims on bookmarks hold.
use mathlib.Core.Path.{ap, refl, subst, sym, ◌∙◌, ◌≡◌}
use borrow.Author.Tests.{le-leb}
use Rattle.refusal.proofs.Conditions.{Tells, at_most_tells, chain_first, false_tells, passed, test}
use Rattle.std.specs.Option.{is_some}
use Rattle.std.specs.Prelude.{None, Option, Some}
use Rattle.binder.proofs.LastPut.{fresh_eight, fresh_under}
use Rattle.binder.proofs.UnderName.{fetch_passes}
use Rattle.words.proofs.Booleans.{clash}
use Rattle.walk.specs.declared.Walk.{Walk}
use Rattle.walk.proofs.OpeningClaims.{refused_fields}
use Rattle.walk.specs.Claims.{RefusedWalk}
use Rattle.walk.specs.Fit.{fit}
use Rattle.walk.specs.Moves.{rules}
use Rattle.binder.specs.Claims.{FetchGives, FetchRefusals, FreshNothing, PutRefusals, RefusedPut}
use Rattle.binder.specs.Names.{fetch_verdict, fetch_walk, highest_name, put_binder, put_verdict, under}

pub put_refusals : PutRefusals
unfolding put_verdict
put_refusals name w =
    chain_first (test _ (at_most_tells name highest_name) (λ h. test _ (false_tells (fit rules w)) (λ f. passed)))

none_tells : (o : Option Walk) → Tells (is_some o) (o ≡ None)
none_tells None = (λ e. refl, λ e. clash (cc))
none_tells (Some w) = (λ e. clash (cc), λ e f. clash (cc))

pub fetch_refusals : FetchRefusals
unfolding fetch_verdict
fetch_refusals b name =
    chain_first (test _ (at_most_tells name highest_name) (λ h. test _ (none_tells (under b name)) (λ f. passed)))

pub refused_put_lem : RefusedPut
refused_put_lem b name w r e = ap (λ v. put_binder v b name w) e

pub fetch_gives : FetchGives
fetch_gives b name = (
  λ r e. subst (λ v. RefusedWalk (fetch_walk v b name)) (sym e) refused_fields,
  λ e. fetch_passes b name e ∙ ap (λ v. Some (fetch_walk v b name)) (sym e),
)

pub fresh_nothing : FreshNothing
unfolding fetch_verdict
fresh_nothing = (fresh_eight, λ name h. (fresh_under name, rw (le-leb name highest_name h, fresh_under name) refused_fields))
