-- What document 02 claims of looks and takes, each claim as a statement of its own.
use Rattle.std.specs.Prelude.{false, true, ◌↔◌, ◌≡◌, ℕ, Err}
use Rattle.refusal.specs.Conditions.{Conditions, FirstOf, no_more, when}
use Rattle.refusal.specs.Verdicts.{accepted, refused}
use Rattle.refusal.specs.declared.Refusal.{Refusal}
use Rattle.refusal.specs.declared.Refusal.TheVariants.{Ended as HasEnded, NotOffered, Unfit}
use Rattle.walk.specs.Claims.{Record, RefusedWalk}
use Rattle.walk.specs.Fit.{fit}
use Rattle.walk.specs.Moves.{rules}
use Rattle.walk.specs.Step.{step_due, step_of}
use Rattle.walk.specs.declared.Answer.TheVariants.{None}
use Rattle.walk.specs.declared.Standing.TheVariants.{Ended}
use Rattle.walk.specs.declared.Stepped.{Stepped}
use Rattle.walk.specs.declared.Walk.{Walk}
use Rattle.offers.specs.Offers.{look_numbers, look_of, offered_row, same_offer, take_of, take_verdict}
use Rattle.offers.specs.declared.Offer.{Offer}

-- ---- looking, at any walk record

-- "A look has a step's answers", with their places and trials, "and leaves the walk as it was, a spent look included."
abbrev pub LookAsStep : Type 0
LookAsStep = (w : Walk) (a : ℕ) → (look_numbers (look_of w a) ≡ step_due rules w a) × ((look_of w a).walk ≡ w)

-- the look gives a ring or none
abbrev pub Answers : Walk → ℕ → Type 0
Answers w a = (step_due rules w a).number ≡ 0

-- "It returns an offer with the ring or none, the allowance and the walk as it would be."
pub record OfferMade (w : Walk) (a : ℕ) (o : Offer) : Type 0 where
  pub ring : offered_row o.offered o.walk ≡ (step_due rules w a).row
  pub allowance : o.allowance ≡ a
  pub moved : o.walk ≡ (step_of rules w a).walk

abbrev pub LookOffers : Type 0
LookOffers = (w : Walk) (a : ℕ) → Answers w a → OfferMade w a (look_of w a).offer

-- "none, allowance 0 and the walk of a refused opening"
pub record NoOffer (o : Offer) : Type 0 where
  pub none : o.offered ≡ None
  pub allowance : o.allowance ≡ 0
  pub walk : RefusedWalk o.walk

-- "A refused look's offer" is that.
abbrev pub RefusedLook : Type 0
RefusedLook = (w : Walk) (a : ℕ) → (Answers w a → ⊥) → NoOffer (look_of w a).offer

-- ---- taking, any offer on any walk record

-- "that same offer"
abbrev pub SameOffer : Type 0
SameOffer = (a b : Offer) → (same_offer a b ≡ true) ↔ (a ≡ b)

-- a look on w with allowance a gives an answer, ring or none, and the offer o
abbrev pub Offers : Walk → ℕ → Offer → Type 0
Offers w a o = Answers w a × ((look_of w a).offer ≡ o)

-- "A take accepts the offer exactly if a look with that allowance on the walk now handed in would give that same
-- offer"; "on a walk whose look is refused, no offer is accepted".
abbrev pub TakesExactly : Type 0
TakesExactly = (w : Walk) (o : Offer) → Record w → (take_verdict w o ≡ accepted) ↔ Offers w o.allowance o

-- "24, the offer is not that, after 22 and 20"
abbrev pub take_conditions : Walk → Offer → Conditions
take_conditions w o =
    when (fit rules w ≡ false) Unfit
    (when (w.at ≡ Ended) HasEnded
    (when (Offers w o.allowance o → ⊥) NotOffered no_more))

abbrev pub TakeRefusals : Type 0
TakeRefusals = (w : Walk) (o : Offer) → FirstOf (take_conditions w o) (take_verdict w o)

-- "Otherwise it comes back as handed in": no ring, place or trial is told beside the refusal.
pub record Kept (w : Walk) (r : Refusal) (s : Stepped) : Type 0 where
  pub walk : s.walk ≡ w
  pub answer : s.answer ≡ Err r
  pub place : s.place ≡ 0
  pub trials : s.trials ≡ 0

abbrev pub RefusedTake : Type 0
RefusedTake = (w : Walk) (o : Offer) (r : Refusal) → take_verdict w o ≡ refused r → Kept w r (take_of w o)

-- "An accepted take is a step with the offer's allowance on the walk handed in"; it "returns the moved walk", which is
-- the offer's, "with the place and trials a look there would report".
pub record Taken (w : Walk) (o : Offer) : Type 0 where
  pub step : take_of w o ≡ step_of rules w o.allowance
  pub moved : (take_of w o).walk ≡ o.walk
  pub answer : (take_of w o).answer ≡ (look_of w o.allowance).answer
  pub place : (take_of w o).place ≡ (look_of w o.allowance).place
  pub trials : (take_of w o).trials ≡ (look_of w o.allowance).trials

abbrev pub AcceptedTake : Type 0
AcceptedTake = (w : Walk) (o : Offer) → take_verdict w o ≡ accepted → Taken w o

-- "A look and its take on that same walk together are one step."
abbrev pub LookThenTake : Type 0
LookThenTake =
    (w : Walk) (a : ℕ) → Record w → Answers w a → let o = (look_of w a).offer in
    (take_verdict w o ≡ accepted) × (take_of w o ≡ step_of rules w a)

-- The offer of a refused look is not accepted on that walk, though its allowance is 0 and not the look's.
abbrev pub RefusedNotTaken : Type 0
RefusedNotTaken = (w : Walk) (a : ℕ) → Record w → (Answers w a → ⊥) → take_verdict w (look_of w a).offer ≡ accepted → ⊥
