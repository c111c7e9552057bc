-- The claims on mixed calls hold; those on looks and takes alone are in OfferCalls.
use mathlib.Core.Bool.{true}
use mathlib.Core.List.Memᴰ
use mathlib.Core.List.{List, [], map, ◌++◌, ◌∷◌}
use mathlib.Core.Logic.{inl, inr}
use mathlib.Core.Path.{ap, ap₂, refl, subst, sym, ◌∙◌, ◌≡◌}
use Prim.Native.Nat.{ℕ}
use native.Mathlib.Omega.{arith}
use lib.ListN.{length, length-append}
use Rattle.binder.proofs.LastPut.{fetches_last}
use Rattle.binder.specs.Puts.{after_puts, fetched}
use Rattle.density.specs.Choose.{choose}
use Rattle.density.specs.Lengths.{drawer_length}
use Rattle.listing.proofs.ListingLeft.{named-append}
use Rattle.listing.specs.Listing.{listing_answers}
use Rattle.listing.specs.Places.{Placed}
use Rattle.listing.specs.Totals.{SaysNone, listing_left, named}
use Rattle.offers.specs.Offers.{look_of, take_of, take_verdict}
use Rattle.refusal.specs.Verdicts.{Verdict, accepted, refused}
use Rattle.walk.proofs.Demand.{answers_agree, handed-stands, stays_fit}
use Rattle.walk.proofs.OpeningClaims.{ceiling, demand_3_places, length_met, named_falling, opened-fit, opened-stands, opened_walk, reaches_none, seats_given}
use Rattle.walk.proofs.StepLists.{answers-append, handed_sizes, placed-append, placed-told}
use Rattle.walk.specs.Claims.{Meets, Opening, Record, answers, book_of, given, opened, placed_answers}
use Rattle.walk.specs.Fit.{fit}
use Rattle.walk.specs.Moves.{rules}
use Rattle.walk.specs.Opening.{open_verdict}
use Rattle.walk.specs.Step.{StepNumbers, handed, step_due, step_numbers, walk_answers, walk_placed}
use Rattle.walk.specs.declared.Walk.{Walk}
use Rattle.words.proofs.Falling.{falling_back}
use Rattle.words.specs.Falling.{Falling}
use Rattle.words.specs.Symbols.{ones}
use Rattle.mixed_calls.proofs.OfferCalls.{each, step_or_nothing}
use Rattle.mixed_calls.proofs.StoodWalks.{all_stood}
use Rattle.mixed_calls.specs.Calls.{Call, Held, Stays, Stretch, after_calls, allowances, also_answered, answering, at_first, call_answers, calling, fetches, looks, opens, puts, puts_in, steps, take_answered, takes}
use Rattle.mixed_calls.specs.Claims.{CallsCut, FetchesStood, OnTheWalk, StandsFit, Stood, StretchAnswers, StretchCeiling, StretchExactly, StretchFalling, StretchLength, StretchListed, StretchOpened, StretchReachesNone, StretchSeats, told}

-- ---- after any calls

pub calls_cut : CallsCut
unfolding call_answers after_calls
calls_cut h [] more = (refl, refl)
calls_cut h (c ∷ calls) more =
    let k = calling h c in
    let s = calls_cut k calls more in
    (ap (also_answered h c) s.0 ∙ one c (call_answers k calls) (call_answers (after_calls k calls) more), s.1)
  where
    taken : (v : Verdict) (s : StepNumbers) (rest later : List Placed)
        → take_answered v s (rest ++ later) ≡ take_answered v s rest ++ later
    taken accepted s rest later = refl
    taken (refused r) s rest later = refl

    one : (c : Call) (rest later : List Placed) → also_answered h c (rest ++ later) ≡ also_answered h c rest ++ later
    one (opens n d kind limit) rest later = refl
    one (steps a) rest later = refl
    one (puts name) rest later = refl
    one (fetches name) rest later = refl
    one (looks a) rest later = refl
    one (takes o) rest later = taken (take_verdict h.walk o) (step_numbers (take_of h.walk o)) rest later

-- the binder is that after the puts among them
calls_put : (h : Held) (calls : List Call) → (after_calls h calls).binder ≡ after_puts h.binder (puts_in h calls)
unfolding after_calls after_puts puts_in
calls_put h [] = refl
calls_put h (opens n d kind limit ∷ more) = calls_put (calling h (opens n d kind limit)) more
calls_put h (steps a ∷ more) = calls_put (calling h (steps a)) more
calls_put h (puts name ∷ more) = calls_put (calling h (puts name)) more
calls_put h (fetches name ∷ more) = calls_put (calling h (fetches name)) more
calls_put h (looks a ∷ more) = calls_put (calling h (looks a)) more
calls_put h (takes o ∷ more) = calls_put (calling h (takes o)) more

pub fetches_stood : FetchesStood
fetches_stood calls name =
    ap (λ b. fetched b name) (calls_put at_first calls) ∙ (fetches_last (puts_in at_first calls) name).last

pub stands-fit : StandsFit
stands-fit calls =
    let s = all_stood calls in
    let f = stays_fit rules _ (opened-fit s.from) s.steps in
    (s, subst Record s.same f.long, subst (λ w. fit rules w ≡ true) s.same f.test)

-- ---- stretches

pub stretch_exactly : StretchExactly
unfolding Stretch
stretch_exactly [] = (λ t c m. absurd (Memᴰ.not-nil m), λ f. tt)
stretch_exactly (c ∷ more) = (
  λ t d. each OnTheWalk (one c t.0) d ((stretch_exactly more).0 t.1 d),
  λ f. (back c (f c (Memᴰ.head refl)), (stretch_exactly more).1 (λ d m. f d (Memᴰ.tail m))),
)
  where
    one : (c : Call) → Stays c → OnTheWalk c
    one (opens n d kind limit) s = absurd s
    one (steps a) s = inl (inl (a, refl))
    one (puts name) s = inl (inr (name, refl))
    one (fetches name) s = absurd s
    one (looks a) s = inr (inl (a, refl))
    one (takes o) s = inr (inr (o, refl))

    back : (c : Call) → OnTheWalk c → Stays c
    back c (inl (inl (a, e))) = subst Stays (sym e) tt
    back c (inl (inr (name, e))) = subst Stays (sym e) tt
    back c (inr (inl (a, e))) = subst Stays (sym e) tt
    back c (inr (inr (o, e))) = subst Stays (sym e) tt

pub stretch_answers : StretchAnswers
unfolding call_answers walk_placed allowances Stretch look_of
stretch_answers h [] t = refl
stretch_answers h (opens n d kind limit ∷ more) t = absurd t.0
stretch_answers h (steps a ∷ more) t =
    ap (answering (step_due rules h.walk a)) (stretch_answers (calling h (steps a)) more t.1)
stretch_answers h (puts name ∷ more) t = stretch_answers (calling h (puts name)) more t.1
stretch_answers h (fetches name ∷ more) t = absurd t.0
stretch_answers h (looks a ∷ more) t = stretch_answers h more t.1
stretch_answers h (takes o ∷ more) t =
    let a = o.allowance in
    step_or_nothing h o more (λ left answers allowed plain. answers ≡ walk_placed rules h.walk allowed)
    (ap (answering (step_due rules h.walk a)) (stretch_answers (calling h (steps a)) more t.1))
    (stretch_answers h more t.1)

-- without their places
stretch_told :
    (h : Held) (stretch : List Call) → Stretch stretch
    → walk_answers rules h.walk (allowances h stretch) ≡ told h stretch
stretch_told h stretch t =
    sym (placed-told rules h.walk (allowances h stretch))
    ∙ ap (map (λ a. a.tells)) (sym (stretch_answers h stretch t))

module _ (calls stretch : List Call) (t : Stretch stretch) where
  abbrev held : Held
  held = after_calls at_first calls

  abbrev stood : Stood held.walk
  stood = all_stood calls

  abbrev allowed : List ℕ
  allowed = allowances held stretch

  -- what is told, in terms of the opening
  told_on : walk_answers rules (handed rules (opened stood.from) stood.steps) allowed ≡ told held stretch
  told_on = ap (λ w. walk_answers rules w allowed) stood.same ∙ stretch_told held stretch t

  booked : told held stretch ≡ listing_answers (listing_left (book_of stood.from) stood.steps) allowed
  booked =
      let f = opened-fit stood.from in
      sym told_on
      ∙ answers_agree rules _ (stays_fit rules _ f stood.steps) allowed
      ∙ ap (λ l. listing_answers l allowed) (handed-stands rules _ f stood.steps)
      ∙ ap (λ l. listing_answers (listing_left l stood.steps) allowed) (opened-stands stood.from)

  follows :
      placed_answers stood.from (stood.steps ++ allowed)
      ≡ placed_answers stood.from stood.steps ++ call_answers held stretch
  follows =
      placed-append rules (opened stood.from) stood.steps allowed
      ∙ ap (λ w. placed_answers stood.from stood.steps ++ walk_placed rules w allowed) stood.same
      ∙ ap (λ l. placed_answers stood.from stood.steps ++ l) (sym (stretch_answers held stretch t))

  -- the rings of a stretch are the last of those given since the opening
  rings :
      given stood.from (stood.steps ++ allowed)
      ≡ given stood.from stood.steps ++ named (told held stretch)
  rings =
      ap named (answers-append rules (opened stood.from) stood.steps allowed)
      ∙ named-append (answers stood.from stood.steps) _
      ∙ ap (λ l. given stood.from stood.steps ++ named l) told_on

pub stretch_listed : StretchListed
stretch_listed calls stretch t =
    record { stood = all_stood calls; booked = booked calls stretch t; follows = follows calls stretch t }

pub stretch_falling : StretchFalling
stretch_falling calls stretch t =
    let s = all_stood calls in
    let all = named_falling s.from (s.steps ++ allowances (after_calls at_first calls) stretch) in
    falling_back (given s.from s.steps) _ (subst Falling (rings calls stretch t) all)

-- the walk that stands has the sizes of its opening
stood_sizes : (w : Walk) (s : Stood w) → (s.from.n ≡ w.n) × (s.from.d ≡ w.d)
stood_sizes w s =
    let o = s.from in
    let z = opened_walk o in
    let h = handed_sizes rules (opened o) s.steps in (
      sym z.0 ∙ sym h.0 ∙ ap (λ v. v.n) s.same,
      sym z.1 ∙ sym h.1 ∙ ap (λ v. v.d) s.same,
    )

pub stretch_ceiling : StretchCeiling
stretch_ceiling calls stretch t =
    let h = after_calls at_first calls in
    let s = all_stood calls in
    let z = stood_sizes h.walk s in
    let all = ap length (rings calls stretch t) ∙ length-append (given s.from s.steps) (named (told h stretch)) in
    let most = ap₂ choose z.0 z.1 in
    omega (arith, all, most, ceiling s.from (s.steps ++ allowances h stretch))

-- ---- a stretch that follows an opening has the answers of its walk

abbrev opening : (n d kind : ℕ) (limit : List ℕ) → open_verdict n d kind limit ≡ accepted → Opening
opening n d kind limit passes = record { n = n; d = d; kind = kind; limit = limit; passed = passes }

pub stretch_opened : StretchOpened
stretch_opened h n d kind limit stretch passes t =
    let k = calling h (opens n d kind limit) in
    stretch_answers k stretch t ∙ demand_3_places (opening n d kind limit passes) (allowances k stretch)

pub stretch_seats : StretchSeats
stretch_seats h n d kind stretch passes t before ring more e =
    let k = calling h (opens n d kind (ones n)) in
    let same = ap named (stretch_told k stretch t) in
    seats_given (opening n d kind (ones n) passes) (allowances k stretch) before ring more (same ∙ e)

pub stretch_length : StretchLength
stretch_length h n d kind limit stretch passes t =
    let k = calling h (opens n d kind limit) in
    let met = length_met (opening n d kind limit passes) (allowances k stretch) in
    subst (Meets (drawer_length n d kind limit)) (stretch_told k stretch t) met

-- the steps with these allowances
abbrev stepping : List ℕ → List Call
stepping l = map steps l

stepping_stretch : (l : List ℕ) → Stretch (stepping l)
unfolding Stretch
stepping_stretch [] = tt
stepping_stretch (a ∷ l) = (tt, stepping_stretch l)

stepping_allowed : (h : Held) (l : List ℕ) → allowances h (stepping l) ≡ l
unfolding allowances
stepping_allowed h [] = refl
stepping_allowed h (a ∷ l) = ap (λ t. a ∷ t) (stepping_allowed (calling h (steps a)) l)

pub stretch_reaches_none : StretchReachesNone
stretch_reaches_none h n d kind limit passes =
    let o = opening n d kind limit passes in
    let k = calling h (opens n d kind limit) in
    let r = reaches_none o in
    let t = stepping_stretch r.0 in
    let same = ap (answers o) (sym (stepping_allowed k r.0)) ∙ stretch_told k (stepping r.0) t in
    (stepping r.0, t, subst SaysNone same r.1)
