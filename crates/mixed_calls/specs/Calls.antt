-- Lists of openings, steps, puts, fetches, looks and takes, mixed.
use Rattle.std.specs.Prelude.{List, [], ◌∷◌, ℕ}
use Rattle.binder.specs.Names.{fetch_of, fresh_binder, put_of}
use Rattle.binder.specs.Puts.{Put}
use Rattle.binder.specs.declared.Binder.{Binder}
use Rattle.listing.specs.Places.{Placed, placed}
use Rattle.offers.specs.Offers.{look_of, take_of, take_verdict}
use Rattle.offers.specs.declared.Offer.{Offer}
use Rattle.refusal.specs.Verdicts.{Verdict, accepted, refused}
use Rattle.walk.specs.Moves.{rules}
use Rattle.walk.specs.Opening.{open_verdict, open_walk, refused_walk}
use Rattle.walk.specs.Step.{StepNumbers, step_due, step_numbers, step_of, told_by}
use Rattle.walk.specs.declared.Walk.{Walk}

-- a call: a drawer is opened; the walk that stands is stepped, put under a name or looked at; one is fetched; or an
-- offer, any record, is taken on the walk that stands
pub data Call : Type 0 where
  opens : ℕ → ℕ → ℕ → List ℕ → Call
  steps : ℕ → Call
  puts : ℕ → Call
  fetches : ℕ → Call
  looks : ℕ → Call
  takes : Offer → Call

-- the walk that stands, and the binder
pub record Held : Type 0 where
  pub walk : Walk
  pub binder : Binder

-- A call hands back a walk or a binder, refused or not, which takes the place of the one before.
abbrev pub calling : Held → Call → Held
calling h (opens n d kind limit) =
    record { walk = open_walk (open_verdict n d kind limit) rules n d kind limit; binder = h.binder }
calling h (steps a) = record { walk = (step_of rules h.walk a).walk; binder = h.binder }
calling h (puts name) = record { walk = h.walk; binder = put_of h.binder name h.walk }
calling h (fetches name) = record { walk = fetch_of h.binder name; binder = h.binder }
calling h (looks a) = record { walk = (look_of h.walk a).walk; binder = h.binder }
calling h (takes o) = record { walk = (take_of h.walk o).walk; binder = h.binder }

unfoldable pub after_calls : Held → List Call → Held
after_calls h [] = h
after_calls h (c ∷ more) = after_calls (calling h c) more

-- to begin with: nothing was opened, and nothing put
abbrev pub at_first : Held
at_first = record { walk = refused_walk rules; binder = fresh_binder }

-- ---- the answers of steps and of accepted takes, each with its trials and its place

-- a call's answer, where it is a step; of a take, where it is accepted
abbrev pub answering : StepNumbers → List Placed → List Placed
answering s rest = placed (told_by s) s.leaves ∷ rest

abbrev pub take_answered : Verdict → StepNumbers → List Placed → List Placed
take_answered accepted s rest = answering s rest
take_answered (refused r) s rest = rest

abbrev pub also_answered : Held → Call → List Placed → List Placed
also_answered h (opens n d kind limit) rest = rest
also_answered h (steps a) rest = answering (step_due rules h.walk a) rest
also_answered h (puts name) rest = rest
also_answered h (fetches name) rest = rest
also_answered h (looks a) rest = rest
also_answered h (takes o) rest = take_answered (take_verdict h.walk o) (step_numbers (take_of h.walk o)) rest

unfoldable pub call_answers : Held → List Call → List Placed
call_answers h [] = []
call_answers h (c ∷ more) = also_answered h c (call_answers (calling h c) more)

-- the allowances of these steps and takes
abbrev pub take_allowed : Verdict → ℕ → List ℕ → List ℕ
take_allowed accepted a rest = a ∷ rest
take_allowed (refused r) a rest = rest

abbrev pub also_allowed : Held → Call → List ℕ → List ℕ
also_allowed h (opens n d kind limit) rest = rest
also_allowed h (steps a) rest = a ∷ rest
also_allowed h (puts name) rest = rest
also_allowed h (fetches name) rest = rest
also_allowed h (looks a) rest = rest
also_allowed h (takes o) rest = take_allowed (take_verdict h.walk o) o.allowance rest

unfoldable pub allowances : Held → List Call → List ℕ
allowances h [] = []
allowances h (c ∷ more) = also_allowed h c (allowances (calling h c) more)

-- ---- the puts among some calls, each of the walk that stood there

abbrev pub also_put : Held → Call → List Put → List Put
also_put h (opens n d kind limit) rest = rest
also_put h (steps a) rest = rest
also_put h (puts name) rest = record { name = name; walk = h.walk } ∷ rest
also_put h (fetches name) rest = rest
also_put h (looks a) rest = rest
also_put h (takes o) rest = rest

unfoldable pub puts_in : Held → List Call → List Put
puts_in h [] = []
puts_in h (c ∷ more) = also_put h c (puts_in (calling h c) more)

-- ---- the calls without looks and refused takes: "an accepted take is a step with the offer's allowance"

abbrev pub take_moved : Verdict → ℕ → List Call → List Call
take_moved accepted a rest = steps a ∷ rest
take_moved (refused r) a rest = rest

abbrev pub also_moved : Held → Call → List Call → List Call
also_moved h (opens n d kind limit) rest = opens n d kind limit ∷ rest
also_moved h (steps a) rest = steps a ∷ rest
also_moved h (puts name) rest = puts name ∷ rest
also_moved h (fetches name) rest = fetches name ∷ rest
also_moved h (looks a) rest = rest
also_moved h (takes o) rest = take_moved (take_verdict h.walk o) o.allowance rest

unfoldable pub without_offers : Held → List Call → List Call
without_offers h [] = []
without_offers h (c ∷ more) = also_moved h c (without_offers (calling h c) more)

-- ---- "a stretch between fetches": steps, puts, looks and takes alone

abbrev pub Stays : Call → Type 0
Stays (opens n d kind limit) = ⊥
Stays (steps a) = Unit
Stays (puts name) = Unit
Stays (fetches name) = ⊥
Stays (looks a) = Unit
Stays (takes o) = Unit

unfoldable pub Stretch : List Call → Type 0
Stretch [] = Unit
Stretch (c ∷ more) = Stays c × Stretch more
