-- What documents 01 and 02 claim of mixed calls, each claim as a statement of its own.
use Rattle.std.specs.Prelude.{true, ◌↔◌, ◌⊎◌, ◌≡◌, ℕ, ◌+◌, ◌-◌, ◌≤◌, length}
use mathlib.Core.List.{List, Memᴰ, map, ◌++◌, ◌∷◌}
use Rattle.binder.specs.Puts.{fetch_due, fetched}
use Rattle.density.specs.Choose.{choose}
use Rattle.density.specs.Lengths.{drawer_length}
use Rattle.density.specs.Ranks.{rank, ring_count}
use Rattle.listing.specs.Listing.{Told, book, listing_answers}
use Rattle.listing.specs.Places.{places_from}
use Rattle.listing.specs.Totals.{SaysNone, listing_left, named}
use Rattle.offers.specs.Claims.{Answers}
use Rattle.offers.specs.Offers.{look_of, take_verdict}
use Rattle.offers.specs.declared.Offer.{Offer}
use Rattle.refusal.specs.Verdicts.{accepted, refused}
use Rattle.refusal.specs.declared.Refusal.{Refusal}
use Rattle.walk.specs.Claims.{Meets, Opening, Record, book_of, opened, placed_answers}
use Rattle.walk.specs.Fit.{fit}
use Rattle.walk.specs.Moves.{rules}
use Rattle.walk.specs.Opening.{open_verdict}
use Rattle.walk.specs.Step.{handed, walk_placed}
use Rattle.walk.specs.declared.Walk.{Walk}
use Rattle.words.specs.Falling.{Falling}
use Rattle.words.specs.Symbols.{ones}
use Rattle.mixed_calls.specs.Calls.{Call, Held, Stretch, after_calls, allowances, at_first, call_answers, calling, fetches, looks, opens, puts, puts_in, steps, takes, without_offers}

-- ---- looks and takes in a list, whatever is held

-- lists that answer alike and leave the same walk and binder
pub record Alike (h : Held) (calls others : List Call) : Type 0 where
  pub answers : call_answers h calls ≡ call_answers h others
  pub left : after_calls h calls ≡ after_calls h others

-- "An untaken look counts for nothing", a refused one too.
abbrev pub UntakenLook : Type 0
UntakenLook = (h : Held) (a : ℕ) (more : List Call) → Alike h (looks a ∷ more) more

-- "A look and its take on that same walk together are one step, whose trials count once."
abbrev pub LookTakeStep : Type 0
LookTakeStep =
    (h : Held) (a : ℕ) (more : List Call) → Record h.walk → Answers h.walk a
    → Alike h (looks a ∷ takes (look_of h.walk a).offer ∷ more) (steps a ∷ more)

-- "On any other walk, as one stepped in between, an accepted take is a step with the offer's allowance on the walk
-- handed in."
abbrev pub TakeStep : Type 0
TakeStep =
    (h : Held) (o : Offer) (more : List Call) → take_verdict h.walk o ≡ accepted
    → Alike h (takes o ∷ more) (steps o.allowance ∷ more)

-- a refused take counts for nothing
abbrev pub RefusedTakeNothing : Type 0
RefusedTakeNothing =
    (h : Held) (o : Offer) (r : Refusal) (more : List Call) → take_verdict h.walk o ≡ refused r
    → Alike h (takes o ∷ more) more

-- a call that is no look and no take
abbrev pub PlainCall : Call → Type 0
PlainCall c =
    ((n : ℕ) × (d : ℕ) × (kind : ℕ) × (limit : List ℕ) × (c ≡ opens n d kind limit))
    ⊎ (((a : ℕ) × (c ≡ steps a)) ⊎ (((name : ℕ) × (c ≡ puts name)) ⊎ ((name : ℕ) × (c ≡ fetches name))))

-- So every list answers as one without looks and takes, in which each accepted take is a step with its allowance.
abbrev pub WithoutOffers : Type 0
WithoutOffers =
    (h : Held) (calls : List Call) → let plain = without_offers h calls in
    Alike h calls plain × (allowances h calls ≡ allowances h plain) × ((c : Call) → Memᴰ c plain → PlainCall c)

-- ---- after any calls

-- a list cut anywhere: its answers, and what it leaves
abbrev pub CallsCut : Type 0
CallsCut =
    (h : Held) (calls more : List Call) → let k = after_calls h calls in
    (call_answers h (calls ++ more) ≡ call_answers h calls ++ call_answers k more)
    × (after_calls h (calls ++ more) ≡ after_calls k more)

-- a fetch gives the walk that stood at the last put under the name
abbrev pub FetchesStood : Type 0
FetchesStood =
    (calls : List Call) (name : ℕ)
    → fetched (after_calls at_first calls).binder name ≡ fetch_due name (puts_in at_first calls)

-- a walk that some steps have brought about from an opening
pub record Stood (w : Walk) : Type 0 where
  pub from : Opening
  pub steps : List ℕ
  pub same : handed rules (opened from) steps ≡ w

-- the walk that stands is one, a record, and fit
abbrev pub StandsFit : Type 0
StandsFit = (calls : List Call) → let w = (after_calls at_first calls).walk in Stood w × Record w × (fit rules w ≡ true)

-- ---- stretches

-- a call that is a step, a put, a look or a take
abbrev pub OnTheWalk : Call → Type 0
OnTheWalk c =
    (((a : ℕ) × (c ≡ steps a)) ⊎ ((name : ℕ) × (c ≡ puts name)))
    ⊎ (((a : ℕ) × (c ≡ looks a)) ⊎ ((o : Offer) × (c ≡ takes o)))

-- every list of these is a stretch, and no other is
abbrev pub StretchExactly : Type 0
StretchExactly = (calls : List Call) → Stretch calls ↔ ((c : Call) → Memᴰ c calls → OnTheWalk c)

-- the answers of a stretch, whatever is held, are those of the walk that stands: puts, looks and refused takes don't
-- show
abbrev pub StretchAnswers : Type 0
StretchAnswers =
    (h : Held) (stretch : List Call) → Stretch stretch
    → call_answers h stretch ≡ walk_placed rules h.walk (allowances h stretch)

-- the answers without their places
abbrev pub told : Held → List Call → List Told
told h calls = map (λ a. a.tells) (call_answers h calls)

-- "The once-only listing .. [is] meant for a stretch between fetches": the answers of its steps and accepted takes are
-- demand 3's for the list of their allowances, with places.
pub record Listed (h : Held) (stretch : List Call) : Type 0 where
  -- the opening that the walk that stands comes from, and the steps that it has made since
  pub stood : Stood h.walk
  -- the answers are those of the drawer's book, from what these steps have left of it
  pub booked :
      told h stretch ≡ listing_answers (listing_left (book_of stood.from) stood.steps) (allowances h stretch)
  -- with their places, they follow those of these steps in demand 3's list
  pub follows :
      placed_answers stood.from (stood.steps ++ allowances h stretch)
      ≡ placed_answers stood.from stood.steps ++ call_answers h stretch

-- after any calls
abbrev pub StretchListed : Type 0
StretchListed = (calls stretch : List Call) → Stretch stretch → Listed (after_calls at_first calls) stretch

-- the rings that a stretch names: once, falling
abbrev pub StretchFalling : Type 0
StretchFalling =
    (calls stretch : List Call) → Stretch stretch → Falling (named (told (after_calls at_first calls) stretch))

-- "M-120's ceiling [is] meant for a stretch between fetches"
abbrev pub StretchCeiling : Type 0
StretchCeiling =
    (calls stretch : List Call) → Stretch stretch → let h = after_calls at_first calls in
    length (named (told h stretch)) ≤ choose h.walk.n h.walk.d

-- ---- a stretch that follows an opening, whatever is held

-- its answers are the whole of demand 3's list, with places
abbrev pub StretchOpened : Type 0
StretchOpened =
    (h : Held) (n d kind : ℕ) (limit : List ℕ) (stretch : List Call)
    → open_verdict n d kind limit ≡ accepted → Stretch stretch → let o = calling h (opens n d kind limit) in
    call_answers o stretch ≡ places_from limit (listing_answers (book n d kind limit) (allowances o stretch))

-- "The r-th ring of a walk from n ones, in which no bookmark was fetched, has seat total + 1 - r."
abbrev pub StretchSeats : Type 0
StretchSeats =
    (h : Held) (n d kind : ℕ) (stretch : List Call) → open_verdict n d kind (ones n) ≡ accepted → Stretch stretch
    → (before : List (List ℕ)) (ring : List ℕ) (more : List (List ℕ))
    → named (told (calling h (opens n d kind (ones n))) stretch) ≡ before ++ (ring ∷ more)
    → let r = length before + 1 in rank n d kind ring ≡ ring_count n d kind + 1 - r

-- "The number of rings that the walk opened there yields to its end with no bookmark fetched", at any limit
abbrev pub StretchLength : Type 0
StretchLength =
    (h : Held) (n d kind : ℕ) (limit : List ℕ) (stretch : List Call)
    → open_verdict n d kind limit ≡ accepted → Stretch stretch
    → Meets (drawer_length n d kind limit) (told (calling h (opens n d kind limit)) stretch)

-- some stretch says none
abbrev pub StretchReachesNone : Type 0
StretchReachesNone =
    (h : Held) (n d kind : ℕ) (limit : List ℕ) → open_verdict n d kind limit ≡ accepted
    → (stretch : List Call) × Stretch stretch × SaysNone (told (calling h (opens n d kind limit)) stretch)
