-- What a look hands back, by the answer of its step.
use mathlib.Core.Bool.{true, true≢false}
use mathlib.Core.Path.{ap, refl, sym, ◌≡◌}
use Prim.Native.Nat.{ℕ}
use native.Mathlib.Omega.{arith}
use Rattle.refusal.proofs.Numbers.{some_number}
use Rattle.walk.proofs.OpeningClaims.{refused_fields}
use Rattle.refusal.specs.declared.Refusal.{Refusal}
use Rattle.std.specs.Prelude.{Err, Ok, Result}
use Rattle.std.specs.Result.{is_ok}
use Rattle.walk.specs.Moves.{rules}
use Rattle.walk.specs.Step.{answer_numbers, step_due, step_of}
use Rattle.walk.specs.declared.Answer.{Answer}
use Rattle.walk.specs.declared.Answer.TheVariants.{None, Ring}
use Rattle.walk.specs.declared.Stepped.{Stepped}
use Rattle.walk.specs.declared.Walk.{Walk}
use Rattle.offers.specs.Claims.{LookAsStep, LookOffers, RefusedLook}
use Rattle.offers.specs.Offers.{look_of, looked_at, offer_of, offered_row, refused_offer}
use Rattle.offers.specs.declared.Offer.{Offer}

-- ---- answers and their numbers

-- a ring, or none, has no number
pub answer_number : (x : Result Answer Refusal) (v : Walk) (p t : ℕ) → is_ok x ≡ true → (answer_numbers x v p t).number ≡ 0
answer_number (Ok Ring) v p t e = refl
answer_number (Ok None) v p t e = refl
answer_number (Err r) v p t e = absurd (true≢false (sym e))

pub number_answer : (x : Result Answer Refusal) (v : Walk) (p t : ℕ) → (answer_numbers x v p t).number ≡ 0 → is_ok x ≡ true
number_answer (Ok Ring) v p t e = refl
number_answer (Ok None) v p t e = refl
number_answer (Err r) v p t e = let n = some_number r in absurd (omega (arith, n.1, e))

-- ---- the offer

-- what is told of a ring doesn't change with where it is read
numbers_offered :
    (x : Result Answer Refusal) (a : ℕ) (v : Walk) (p t : ℕ) → answer_numbers x (offer_of x a v).walk p t ≡ answer_numbers x v p t
numbers_offered (Ok Ring) a v p t = refl
numbers_offered (Ok None) a v p t = refl
numbers_offered (Err r) a v p t = refl

pub look_as_step : LookAsStep
unfolding look_of
look_as_step w a = let s = step_of rules w a in (numbers_offered s.answer a s.walk s.place s.trials, refl)

-- of an answer that is no refusal
record Made (x : Result Answer Refusal) (a : ℕ) (v : Walk) (p t : ℕ) (o : Offer) : Type 0 where
  ring : offered_row o.offered o.walk ≡ (answer_numbers x v p t).row
  allowance : o.allowance ≡ a
  moved : o.walk ≡ v

made : (x : Result Answer Refusal) (a : ℕ) (v : Walk) (p t : ℕ) → (answer_numbers x v p t).number ≡ 0 → Made x a v p t (offer_of x a v)
made (Ok Ring) a v p t e = record { ring = refl; allowance = refl; moved = refl }
made (Ok None) a v p t e = record { ring = refl; allowance = refl; moved = refl }
made (Err r) a v p t e = absurd (true≢false (sym (number_answer (Err r) v p t e)))

pub look_offers : LookOffers
unfolding look_of
look_offers w a e =
    let s = step_of rules w a in
    let m = made s.answer a s.walk s.place s.trials e in
    record { ring = m.ring; allowance = m.allowance; moved = m.moved }

-- of a refusal
not_made :
    (x : Result Answer Refusal) (a : ℕ) (v : Walk) (p t : ℕ) → ((answer_numbers x v p t).number ≡ 0 → ⊥) → offer_of x a v ≡ refused_offer
not_made (Ok Ring) a v p t f = absurd (f refl)
not_made (Ok None) a v p t f = absurd (f refl)
not_made (Err r) a v p t f = refl

pub refused_offer_lem : (w : Walk) (a : ℕ) → ((step_due rules w a).number ≡ 0 → ⊥) → (look_of w a).offer ≡ refused_offer
unfolding look_of
refused_offer_lem w a f = let s = step_of rules w a in not_made s.answer a s.walk s.place s.trials f

pub refused_look : RefusedLook
refused_look w a f = rw (refused_offer_lem w a f) (record { none = refl; allowance = refl; walk = refused_fields })

-- ---- what each return of a look has to be

pub looked_as :
    (w : Walk) (a : ℕ) {s : Stepped} {o : Offer} → s ≡ step_of rules w a → o ≡ offer_of s.answer a s.walk
    → record { walk = w; answer = s.answer; place = s.place; trials = s.trials; offer = o } ≡ look_of w a
unfolding look_of
looked_as w a e f = rw f (ap (looked_at w a) e)
