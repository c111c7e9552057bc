-- The claims on takes hold.
use mathlib.Core.Bool.{Bool, false, not, true, true≢false}
use mathlib.Core.Path.{ap, refl, subst, sym, ◌∙◌, ◌≡◌}
use Prim.Native.Nat.{ℕ}
use native.Mathlib.Omega.{arith}
use Rattle.refusal.proofs.Conditions.{Tells, chain_first, false_tells, need→, passed, test}
use Rattle.refusal.specs.Verdicts.{accepted, need}
use Rattle.refusal.specs.declared.Refusal.TheVariants.{Ended as HasEnded, NotOffered, Unfit}
use Rattle.walk.proofs.RecordClaims.{answered_exactly}
use Rattle.walk.specs.Claims.{Record}
use Rattle.walk.specs.Fit.{fit}
use Rattle.walk.specs.Moves.{rules}
use Rattle.walk.specs.Step.{step_of}
use Rattle.walk.specs.declared.Standing.{Standing}
use Rattle.walk.specs.declared.Standing.TheVariants.{Ended}
use Rattle.walk.specs.declared.Walk.{Walk}
use Rattle.std.specs.Result.{is_ok}
use Rattle.words.proofs.Booleans.{and→, →and}
use Rattle.offers.proofs.Looking.{answer_number, look_offers, number_answer, refused_offer_lem}
use Rattle.offers.proofs.SameOffers.{same_offer_lem}
use Rattle.offers.proofs.TakeCases.{answered-take, ended→}
use Rattle.offers.specs.Claims.{AcceptedTake, Answers, LookThenTake, OfferMade, Offers, RefusedNotTaken, RefusedTake, TakeRefusals, TakesExactly}
use Rattle.offers.specs.Offers.{has_ended, look_of, offers_so, refused_offer, same_offer, take_of, take_verdict, taken_by}
use Rattle.offers.specs.declared.Offer.{Offer}

-- ---- whether a look gives that same offer

is_ok_lem : (w : Walk) (a : ℕ) → Answers w a → is_ok (step_of rules w a).answer ≡ true
is_ok_lem w a n = let s = step_of rules w a in number_answer s.answer s.walk s.place s.trials n

answers : (w : Walk) (a : ℕ) → is_ok (step_of rules w a).answer ≡ true → Answers w a
answers w a t = let s = step_of rules w a in answer_number s.answer s.walk s.place s.trials t

offers_so→ : (w : Walk) (o : Offer) → offers_so w o ≡ true → Offers w o.allowance o
unfolding offers_so look_of
offers_so→ w o e =
    let l = look_of w o.allowance in
    let h = and→ (is_ok l.answer) (same_offer l.offer o) e in
    (answers w o.allowance h.0, (same_offer_lem l.offer o).0 h.1)

→offers_so : (w : Walk) (o : Offer) → Offers w o.allowance o → offers_so w o ≡ true
unfolding offers_so look_of
→offers_so w o h = →and (is_ok_lem w o.allowance h.0) ((same_offer_lem (look_of w o.allowance).offer o).1 h.1)

-- what a verdict that accepts has passed
accepted→ : (w : Walk) (o : Offer) → take_verdict w o ≡ accepted → Offers w o.allowance o
unfolding take_verdict
accepted→ w o e =
    let a = need→ (fit rules w) Unfit _ e in
    let b = need→ (not (has_ended w.at)) HasEnded _ a.1 in
    offers_so→ w o (need→ (offers_so w o) NotOffered accepted b.1).0

pub takes_exactly : TakesExactly
unfolding look_of
takes_exactly w o long = (accepted→ w o, there)
  where
    there : Offers w o.allowance o → take_verdict w o ≡ accepted
    there h =
        answered-take w o long (is_ok_lem w o.allowance h.0)
        ∙ ap (λ b. need b NotOffered accepted) ((same_offer_lem (look_of w o.allowance).offer o).1 h.1)

-- ---- 22, 20, 24

ended_tells : (s : Standing) → Tells (not (has_ended s)) (s ≡ Ended)
ended_tells s = go (has_ended s) refl
  where
    go : (b : Bool) → has_ended s ≡ b → Tells (not b) (s ≡ Ended)
    go true e = (λ x. ended→ s e, λ x. absurd (true≢false (sym x)))
    go false e = (λ x. absurd (true≢false x), λ x q. true≢false (sym (ap has_ended q) ∙ e))

offers_tell : (w : Walk) (o : Offer) → Tells (offers_so w o) (Offers w o.allowance o → ⊥)
offers_tell w o = (λ e h. true≢false (sym (→offers_so w o h) ∙ e), λ e f. f (offers_so→ w o e))

pub take_refusals : TakeRefusals
unfolding take_verdict
take_refusals w o =
    chain_first
    (test _ (false_tells (fit rules w)) (λ a.
    test _ (ended_tells w.at) (λ b.
    test _ (offers_tell w o) (λ c. passed))))

pub refused_take_kept : RefusedTake
unfolding take_of
refused_take_kept w o r e = rw e (record { walk = refl; answer = refl; place = refl; trials = refl })

-- ---- accepted

pub accepted_take : AcceptedTake
unfolding take_of look_of
accepted_take w o e =
    let h = accepted→ w o e in
    let s = step_of rules w o.allowance in
    let same : taken_by (take_verdict w o) w o ≡ s = ap (λ v. taken_by v w o) e in
    record {
      step = same;
      moved = ap (λ t. t.walk) same ∙ sym (look_offers w o.allowance h.0).moved ∙ ap (λ x. x.walk) h.1;
      answer = ap (λ t. t.answer) same;
      place = ap (λ t. t.place) same;
      trials = ap (λ t. t.trials) same;
    }

pub look_then_take : LookThenTake
look_then_take w a long n = (taken, (accepted_take w o taken).step ∙ ap (step_of rules w) m.allowance)
  where
    o : Offer
    o = (look_of w a).offer

    m : OfferMade w a o
    m = look_offers w a n

    taken : take_verdict w o ≡ accepted
    taken = (takes_exactly w o long).1 (subst (λ k. Offers w k o) (sym m.allowance) (n, refl))

-- ---- the offer of a refused look

-- a step that is allowed fewer trials and answers does so with more
answers_more : (w : Walk) (a : ℕ) → Record w → Answers w 0 → Answers w a
answers_more w a long n =
    let h = (answered_exactly w 0 long).0.0 n in
    (answered_exactly w a long).0.1 (h.0, h.1, omega (arith, h.2))

pub refused_not_taken : RefusedNotTaken
refused_not_taken w a long f e =
    let taken = subst (λ o. take_verdict w o ≡ accepted) (refused_offer_lem w a f) e in
    f (answers_more w a long (accepted→ w refused_offer taken).0)
