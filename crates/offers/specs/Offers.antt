-- "Look, then take": what a look and a take give, of any walk record and any offer.
use Rattle.std.specs.Prelude.{Bool, false, not, true, ◌&&◌, List, [], ℕ, eqb, Result, Ok, Err}
use Rattle.std.specs.Result.{is_ok}
use Rattle.refusal.specs.Verdicts.{Verdict, accepted, need, refused}
use Rattle.refusal.specs.declared.Refusal.{Refusal}
use Rattle.refusal.specs.declared.Refusal.TheVariants.{Ended as HasEnded, NotOffered, Unfit}
use Rattle.walk.specs.Fit.{fit}
use Rattle.walk.specs.Moves.{row_of, rules}
use Rattle.walk.specs.Opening.{refused_walk}
use Rattle.walk.specs.Step.{StepNumbers, answer_numbers, step_numbers, step_of}
use Rattle.walk.specs.declared.Answer.{Answer}
use Rattle.walk.specs.declared.Answer.TheVariants.{None, Ring}
use Rattle.walk.specs.declared.Standing.{Standing}
use Rattle.walk.specs.declared.Standing.TheVariants.{Down, Ended, Given, Limit, Up}
use Rattle.walk.specs.declared.Stepped.{Stepped}
use Rattle.walk.specs.declared.Walk.{Walk}
use Rattle.walk_records.specs.SameWalks.{same_walk}
use Rattle.offers.specs.declared.Looked.{Looked}
use Rattle.offers.specs.declared.Offer.{Offer}

-- ---- looking

-- "A refused look's offer is none, allowance 0 and the walk of a refused opening."
abbrev pub refused_offer : Offer
refused_offer = record { offered = None; allowance = 0; walk = refused_walk rules }

-- "An offer with the ring or none, the allowance and the walk as it would be": of a step's answer, and the walk that it
-- hands back
abbrev pub offer_of : Result Answer Refusal → ℕ → Walk → Offer
offer_of (Ok x) a v = record { offered = x; allowance = a; walk = v }
offer_of (Err r) a v = refused_offer

-- what a look at w hands back, of a step with allowance a
abbrev pub looked_at : Walk → ℕ → Stepped → Looked
looked_at w a s =
    let o = offer_of s.answer a s.walk in
    record { walk = w; answer = s.answer; place = s.place; trials = s.trials; offer = o }

-- "A look has a step's answers and leaves the walk as it was, a spent look included."
unfoldable pub look_of : Walk → ℕ → Looked
look_of w a = looked_at w a (step_of rules w a)

-- document 01's numbers for each answer: a ring is the row of the offer's walk
abbrev pub look_numbers : Looked → StepNumbers
look_numbers l = answer_numbers l.answer l.offer.walk l.place l.trials

-- "the ring or none": the ring's row, empty for none
abbrev pub offered_row : Answer → Walk → List ℕ
offered_row Ring w = row_of w
offered_row None w = []

-- ---- that same offer

-- a ring or none, as a number
abbrev pub offered_number : Answer → ℕ
offered_number Ring = 0
offered_number None = 1

-- every field and byte. `SameOffer` (Claims) says that it is equality.
unfoldable pub same_offer : Offer → Offer → Bool
same_offer a b =
    eqb (offered_number a.offered) (offered_number b.offered)
    && (eqb a.allowance b.allowance && same_walk a.walk b.walk)

-- ---- taking

-- "A look with that allowance on the walk now handed in would give that same offer"; "on a walk whose look is refused,
-- no offer is accepted"
unfoldable pub offers_so : Walk → Offer → Bool
offers_so w o = let l = look_of w o.allowance in is_ok l.answer && same_offer l.offer o

abbrev pub has_ended : Standing → Bool
has_ended Limit = false
has_ended (Down p) = false
has_ended (Up p) = false
has_ended Given = false
has_ended Ended = true

-- "24, the offer is not that, after 22 and 20"
unfoldable pub take_verdict : Walk → Offer → Verdict
take_verdict w o =
    need (fit rules w) Unfit (need (not (has_ended w.at)) HasEnded (need (offers_so w o) NotOffered accepted))

-- "Otherwise it comes back as handed in", with a refusal and no number beside it
abbrev pub unmoved : Walk → Refusal → Stepped
unmoved w r = record { walk = w; answer = Err r; place = 0; trials = 0 }

-- "Then the walk moves": "an accepted take is a step with the offer's allowance on the walk handed in".
abbrev pub taken_by : Verdict → Walk → Offer → Stepped
taken_by accepted w o = step_of rules w o.allowance
taken_by (refused r) w o = unmoved w r

unfoldable pub take_of : Walk → Offer → Stepped
take_of w o = taken_by (take_verdict w o) w o

-- the numbers that are due
abbrev pub take_due : Walk → Offer → StepNumbers
take_due w o = step_numbers (take_of w o)
