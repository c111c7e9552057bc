-- What a take comes to, by the answer of its step.
use mathlib.Core.Bool.{Bool, false, true, true≢false}
use mathlib.Core.Path.{ap, refl, sym, ◌∙◌, ◌≡◌}
use native.Mathlib.Omega.{arith}
use Rattle.refusal.proofs.Claims.{numbers_tell}
use Rattle.refusal.proofs.Numbers.{some_number}
use Rattle.refusal.specs.Refusals.{number_of, place_of}
use Rattle.refusal.specs.Verdicts.{accepted, need, refused}
use Rattle.refusal.specs.declared.Refusal.{Refusal}
use Rattle.refusal.specs.declared.Refusal.TheVariants.{Ended as HasEnded, NotOffered, Spent, Unfit}
use Rattle.std.specs.Prelude.{Err, Ok, ◌↔◌}
use Rattle.std.specs.Result.{is_ok}
use Rattle.words.proofs.Booleans.{never}
use Rattle.walk.proofs.AnyStep.{StepCase, Unended, ended_case, given_case, spent_case, step_case, unfit_case}
use Rattle.walk.proofs.RecordClaims.{refused_tells}
use Rattle.walk.specs.Claims.{Record}
use Rattle.walk.specs.Moves.{rules}
use Rattle.walk.specs.Step.{answer_numbers, step_numbers, step_of}
use Rattle.walk.specs.declared.Answer.{Answer}
use Rattle.walk.specs.declared.Standing.{Standing}
use Rattle.walk.specs.declared.Standing.TheVariants.{Down, Ended, Given, Limit, Up}
use Rattle.walk.specs.declared.Stepped.{Stepped}
use Rattle.walk.specs.declared.Walk.{Walk}
use Rattle.offers.proofs.Looking.{answer_number}
use Rattle.offers.proofs.SameOffers.{same_offer_lem}
use Rattle.offers.specs.Offers.{has_ended, look_of, offer_of, offers_so, same_offer, take_due, take_of, take_verdict, taken_by, unmoved}
use Rattle.offers.specs.declared.Offer.{Offer}

-- ---- standings

pub ended→ : (s : Standing) → has_ended s ≡ true → s ≡ Ended
ended→ Limit e = absurd (true≢false (sym e))
ended→ (Down p) e = absurd (true≢false (sym e))
ended→ (Up p) e = absurd (true≢false (sym e))
ended→ Given e = absurd (true≢false (sym e))
ended→ Ended e = refl

going→ : (s : Standing) → (s ≡ Ended → ⊥) → has_ended s ≡ false
going→ s f = go (has_ended s) refl
  where
    go : (b : Bool) → has_ended s ≡ b → b ≡ false
    go true e = absurd (f (ended→ s e))
    go false e = refl

-- ---- the verdict

module _ (w : Walk) (o : Offer) where
  abbrev s : Stepped
  s = step_of rules w o.allowance

  -- nothing but 24 is left
  unended : Unended rules w → take_verdict w o ≡ need (offers_so w o) NotOffered accepted
  unfolding take_verdict
  unended u = rw (u.fits, going→ w.at u.going)

  module _ (long : Record w) where
    -- where the step answers
    pub answered-take :
        is_ok s.answer ≡ true → let p = offer_of s.answer o.allowance s.walk in
        take_verdict w o ≡ need (same_offer p o) NotOffered accepted
    unfolding look_of offers_so
    answered-take t = unended (go (step_case rules w o.allowance long)) ∙ rw t
      where
        number : (step_numbers s).number ≡ 0
        number = answer_number s.answer s.walk s.place s.trials t

        go : StepCase rules w o.allowance s → Unended rules w
        go (unfit_case k f q z) = absurd (omega (arith, k, number))
        go (ended_case k f e q z) = absurd (omega (arith, k, number))
        go (spent_case k u l z v d) = absurd (omega (arith, k, number))
        go (given_case k u l z) = u

    -- where it is refused
    number_told : (r : Refusal) → s.answer ≡ Err r → (step_numbers s).number ≡ number_of r
    number_told r e = ap (λ a. (answer_numbers a s.walk s.place s.trials).number) e

    pub spent_take : s.answer ≡ Err Spent → take_verdict w o ≡ refused NotOffered
    unfolding look_of offers_so
    spent_take e = unended (go (step_case rules w o.allowance long)) ∙ rw e
      where
        go : StepCase rules w o.allowance s → Unended rules w
        go (unfit_case k f q z) = absurd (omega (arith, k, number_told Spent e))
        go (ended_case k f d q z) = absurd (omega (arith, k, number_told Spent e))
        go (spent_case k u l z v d) = u
        go (given_case k u l z) = u

    pub refused_take : (r : Refusal) → (r ≡ Spent → ⊥) → s.answer ≡ Err r → take_verdict w o ≡ refused r
    unfolding take_verdict
    refused_take r f e = go (step_case rules w o.allowance long)
      where
        number : (step_numbers s).number ≡ number_of r
        number = number_told r e

        place : place_of r ≡ 0
        place =
            sym (ap (λ a. (answer_numbers a s.walk s.place s.trials).place) e)
            ∙ (refused_tells w o.allowance).0

        go : StepCase rules w o.allowance s → take_verdict w o ≡ refused r
        go (unfit_case k f q z) = rw (f, numbers_tell r Unfit (sym number ∙ k) place)
        go (ended_case k f d q z) = rw (f, d, numbers_tell r HasEnded (sym number ∙ k) place)
        go (spent_case k u l z v d) = absurd (f (numbers_tell r Spent (sym number ∙ k) place))
        go (given_case k u l z) = let n = some_number r in absurd (omega (arith, number, k, n.1))

-- ---- what each return of a take has to be

-- with its numbers
abbrev pub Takes : Walk → Offer → Stepped → Type 0
Takes w o t = (t ≡ take_of w o) × (step_numbers t ≡ take_due w o)

takes : (w : Walk) (o : Offer) {t : Stepped} → t ≡ take_of w o → Takes w o t
takes w o e = (e, ap step_numbers e)

-- a look's offer is this one exactly where what it offers and its walk are: both have the same allowance
pub that_offer : (x : Answer) (v : Walk) (o : Offer) → (same_offer (record { offered = x; allowance = o.allowance; walk = v }) o ≡ true) ↔ ((o.offered ≡ x) × (o.walk ≡ v))
that_offer x v o = (λ q. parts ((same_offer_lem _ o).0 q), λ f. (same_offer_lem _ o).1 (whole f.0 f.1))
  where
    parts : record { offered = x; allowance = o.allowance; walk = v } ≡ o → (o.offered ≡ x) × (o.walk ≡ v)
    parts p = (ap (λ o. o.offered) (sym p), ap (λ o. o.walk) (sym p))

    whole : o.offered ≡ x → o.walk ≡ v → record { offered = x; allowance = o.allowance; walk = v } ≡ o
    whole f g = rw (sym f, sym g)

module _ (w : Walk) (o : Offer) (long : Record w) (r : Stepped) (e : r ≡ step_of rules w o.allowance) where
  -- the step answers so: what a look at it offers
  abbrev offer_there : Answer → Offer
  offer_there x = record { offered = x; allowance = o.allowance; walk = r.walk }

  verdict_there : (x : Answer) → r.answer ≡ Ok x → take_verdict w o ≡ need (same_offer (offer_there x) o) NotOffered accepted
  verdict_there x a =
      let b = ap (λ r. r.answer) (sym e) ∙ a in
      answered-take w o long (ap is_ok b) ∙ ap (λ p. need (same_offer p o) NotOffered accepted) (ap (λ y. offer_of y o.allowance (step_of rules w o.allowance).walk) b ∙ ap (λ s. record { offered = x; allowance = o.allowance; walk = s.walk }) (sym e))

  -- it was offered
  pub taken_as : (x : Answer) → r.answer ≡ Ok x → o.offered ≡ x → o.walk ≡ r.walk → Takes w o r
  unfolding take_of
  taken_as x a f g =
      let v = verdict_there x a ∙ ap (λ b. need b NotOffered accepted) ((that_offer x r.walk o).1 (f, g)) in
      takes w o (e ∙ sym (ap (λ v. taken_by v w o) v))

  -- something else was
  pub not_that : (x : Answer) → r.answer ≡ Ok x → (o.offered ≡ x → o.walk ≡ r.walk → ⊥) → {t : Stepped} → t ≡ unmoved w NotOffered → Takes w o t
  unfolding take_of
  not_that x a f g =
      let no = never (same_offer (offer_there x) o) (λ q. let p = (that_offer x r.walk o).0 q in f p.0 p.1) in
      let v = verdict_there x a ∙ ap (λ b. need b NotOffered accepted) no in
      takes w o (g ∙ sym (ap (λ v. taken_by v w o) v))

  -- it is refused
  pub spent_as : r.answer ≡ Err Spent → {t : Stepped} → t ≡ unmoved w NotOffered → Takes w o t
  unfolding take_of
  spent_as a f =
      let verdict = spent_take w o long (sym (ap (λ r. r.answer) e) ∙ a) in
      takes w o (f ∙ sym (ap (λ v. taken_by v w o) verdict))

  pub not_taken : (q : Refusal) → (q ≡ Spent → ⊥) → r.answer ≡ Err q → {t : Stepped} → t ≡ unmoved w q → Takes w o t
  unfolding take_of
  not_taken q n a f =
      let verdict = refused_take w o long q n (sym (ap (λ r. r.answer) e) ∙ a) in
      takes w o (f ∙ sym (ap (λ v. taken_by v w o) verdict))
