-- The test of two offers is equality.
use mathlib.Core.Bool.{true}
use mathlib.Core.Path.{ap, refl, sym, ◌∙◌, ◌≡◌}
use Prim.Native.Nat.{suc, zero, ℕ}
use lib.Dec.{eqb}
use borrow.Author.Tests.{eq-eqb, eqb-true}
use Rattle.walk_records.proofs.SameWalks.{same_walk_lem}
use Rattle.words.proofs.Booleans.{and→, →and}
use Rattle.offers.specs.Claims.{SameOffer}
use Rattle.offers.specs.Offers.{offered_number, same_offer}
use Rattle.offers.specs.declared.Offer.{Offer}
use Rattle.walk.specs.declared.Answer.{Answer}
use Rattle.walk.specs.declared.Answer.TheVariants.{None, Ring}

-- what is offered, by its number
abbrev offered : ℕ → Answer
offered zero = Ring
offered (suc k) = None

offered_back : (a : Answer) → offered (offered_number a) ≡ a
offered_back Ring = refl
offered_back None = refl

offered_same : (a b : Answer) → eqb (offered_number a) (offered_number b) ≡ true → a ≡ b
offered_same a b e = sym (offered_back a) ∙ ap offered (eqb-true (offered_number a) (offered_number b) e) ∙ offered_back b

pub same_offer_lem : SameOffer
unfolding same_offer
same_offer_lem a b = (there, λ e. rw e (self b))
  where
    there : same_offer a b ≡ true → a ≡ b
    there e =
        let o = and→ (eqb (offered_number a.offered) (offered_number b.offered)) _ e in
        let l = and→ (eqb a.allowance b.allowance) _ o.1 in
        let eo : a.offered ≡ b.offered = offered_same a.offered b.offered o.0 in
        let el : a.allowance ≡ b.allowance = eqb-true a.allowance b.allowance l.0 in
        let ew : a.walk ≡ b.walk = (same_walk_lem a.walk b.walk).0 l.1 in
        rw (eo, el, ew)

    self : (o : Offer) → same_offer o o ≡ true
    self o =
        →and (eq-eqb (offered_number o.offered) (offered_number o.offered) refl)
        (→and (eq-eqb o.allowance o.allowance refl) ((same_walk_lem o.walk o.walk).1 refl))
