-- What document 02 claims of bookmarks, each claim as a statement of its own.
use Rattle.std.specs.Prelude.{false, true, List, ◌≡◌, ℕ, ◌<◌, ◌≤◌, length, Some, None, Ok}
use Rattle.listing.specs.Listing.{listing_answers}
use Rattle.refusal.specs.Conditions.{Conditions, FirstOf, no_more, when}
use Rattle.refusal.specs.Verdicts.{accepted, refused}
use Rattle.refusal.specs.declared.Refusal.{Refusal}
use Rattle.refusal.specs.declared.Refusal.TheVariants.{Name, NothingPut, Unfit}
use Rattle.walk.specs.Claims.{Record, RefusedWalk}
use Rattle.walk.specs.Fit.{fit}
use Rattle.walk.specs.Moves.{rules}
use Rattle.walk.specs.Step.{walk_answers, walk_placed}
use Rattle.walk.specs.ToCome.{stands}
use Rattle.walk.specs.declared.Walk.{Walk}
use Rattle.binder.specs.Names.{fetch_of, fetch_verdict, fresh_binder, put_of, put_verdict, under}
use Rattle.binder.specs.Puts.{Put, after_puts, fetch_due, fetched}
use Rattle.binder.specs.declared.Binder.{Binder}

-- ---- any binder

-- "12, name above 7"
abbrev pub NoName : ℕ → Type 0
NoName name = 7 < name

-- "Put checks 12, then 22."
abbrev pub put_conditions : ℕ → Walk → Conditions
put_conditions name w = when (NoName name) Name (when (fit rules w ≡ false) Unfit no_more)

abbrev pub PutRefusals : Type 0
PutRefusals = (name : ℕ) (w : Walk) → FirstOf (put_conditions name w) (put_verdict name w)

-- "12, name above 7, first; 23, nothing put under the name, after it"
abbrev pub fetch_conditions : Binder → ℕ → Conditions
fetch_conditions b name = when (NoName name) Name (when (under b name ≡ None) NothingPut no_more)

abbrev pub FetchRefusals : Type 0
FetchRefusals = (b : Binder) (name : ℕ) → FirstOf (fetch_conditions b name) (fetch_verdict b name)

-- a bookmark for each of the names 0 to 7
abbrev pub Eight : Binder → Type 0
Eight b = length b.bookmarks ≡ 8

-- "Putting a walk under a name replaces what was there and touches no other name."
abbrev pub PutReplaces : Type 0
PutReplaces =
    (b : Binder) (name : ℕ) (w : Walk) → Eight b → put_verdict name w ≡ accepted
    → (under (put_of b name w) name ≡ Some w) × ((other : ℕ) → (other ≡ name → ⊥) → under (put_of b name w) other ≡ under b other)

-- "A refused put hands the binder back as it was."
abbrev pub RefusedPut : Type 0
RefusedPut = (b : Binder) (name : ℕ) (w : Walk) (r : Refusal) → put_verdict name w ≡ refused r → put_of b name w ≡ b

-- "A refused fetch gives the walk of a refused opening", and any other the walk under the name.
abbrev pub FetchGives : Type 0
FetchGives =
    (b : Binder) (name : ℕ)
    → ((r : Refusal) → fetch_verdict b name ≡ refused r → RefusedWalk (fetch_of b name))
    × (fetch_verdict b name ≡ accepted → under b name ≡ Some (fetch_of b name))

-- "A fresh binder has nothing put" under any of its eight names, and fetching one gives the walk of a refused opening.
abbrev pub FreshNothing : Type 0
FreshNothing =
    Eight fresh_binder
    × ((name : ℕ) → name ≤ 7 → (under fresh_binder name ≡ None) × RefusedWalk (fetch_of fresh_binder name))

-- ---- a list of puts on a fresh binder

-- "Fetching returns the walk of the last put under that name, and it answers from then on as the walk did at that moment."
pub record LastFetched (puts : List Put) (name : ℕ) : Type 0 where
  -- the walk of the last put that was accepted, or the refusal
  pub last : fetched (after_puts fresh_binder puts) name ≡ fetch_due name puts
  -- a walk that is given is fit
  pub fits : (w : Walk) → fetch_due name puts ≡ Ok w → fit rules w ≡ true
  -- and answers as it did: every list of steps alike, by the book of what the record stands for
  pub alike :
      (w : Walk) → fetch_due name puts ≡ Ok w → (steps : List ℕ)
      → walk_placed rules (fetch_of (after_puts fresh_binder puts) name) steps ≡ walk_placed rules w steps
  pub booked :
      (w : Walk) → fetch_due name puts ≡ Ok w → Record w → (steps : List ℕ)
      → walk_answers rules (fetch_of (after_puts fresh_binder puts) name) steps ≡ listing_answers (stands rules w) steps

abbrev pub FetchesLast : Type 0
FetchesLast = (puts : List Put) (name : ℕ) → LastFetched puts name
