-- "A binder keeps walks under names 0 to 7": what putting and fetching are refused, and what they hand back.
use Rattle.std.specs.Prelude.{Option, Some, None, suc, ℕ, leb, get_or, replicate, set}
use Rattle.std.specs.Option.{is_some, unwrap_or}
use Rattle.refusal.specs.Verdicts.{Verdict, accepted, need, refused}
use Rattle.refusal.specs.declared.Refusal.TheVariants.{Name, NothingPut, Unfit}
use Rattle.walk.specs.Fit.{fit}
use Rattle.walk.specs.Moves.{rules}
use Rattle.walk.specs.Opening.{refused_walk}
use Rattle.walk.specs.declared.Walk.{Walk}
use Rattle.binder.specs.declared.Binder.{Binder}

-- the highest name
abbrev pub highest_name : ℕ
highest_name = 7

-- the walk that stands under a name, if one was put
unfoldable pub under : Binder → ℕ → Option Walk
under b name = get_or b.bookmarks name None

-- "A fresh binder has nothing put."
unfoldable pub fresh_binder : Binder
fresh_binder = record { bookmarks = replicate (suc highest_name) None }

-- ---- putting

-- "Put checks 12, then 22."
unfoldable pub put_verdict : ℕ → Walk → Verdict
put_verdict name w = need (leb name highest_name) Name (need (fit rules w) Unfit accepted)

-- "Putting a walk under a name replaces what was there and touches no other name. .. A refused put hands the binder back as it was."
abbrev pub put_binder : Verdict → Binder → ℕ → Walk → Binder
put_binder accepted b name w = record { bookmarks = set b.bookmarks name (Some w) }
put_binder (refused r) b name w = b

abbrev pub put_of : Binder → ℕ → Walk → Binder
put_of b name w = put_binder (put_verdict name w) b name w

-- ---- fetching

-- "12, name above 7, first; 23, nothing put under the name, after it"
unfoldable pub fetch_verdict : Binder → ℕ → Verdict
fetch_verdict b name = need (leb name highest_name) Name (need (is_some (under b name)) NothingPut accepted)

-- "Fetching returns the walk .. under that name .. a refused fetch gives the walk of a refused opening."
abbrev pub fetch_walk : Verdict → Binder → ℕ → Walk
fetch_walk accepted b name = unwrap_or (under b name) (refused_walk rules)
fetch_walk (refused r) b name = refused_walk rules

abbrev pub fetch_of : Binder → ℕ → Walk
fetch_of b name = fetch_walk (fetch_verdict b name) b name
