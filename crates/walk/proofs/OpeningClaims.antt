-- The claims on opening a walk, and on the steps that follow, hold.
use mathlib.Core.Bool.{Bool, cond, false, true, ◌&&◌}
use mathlib.Core.List.{List, [], append_assoc, append_cancel_left, append-nil, ◌++◌, ◌∷◌}
use mathlib.Core.Logic.{inl, inr, ◌↔◌}
use mathlib.Core.Path.{ap, refl, subst, sym, ◌∙◌, ◌≡◌}
use Prim.Native.Nat.{suc, zero, ℕ, ◌*◌, ◌-◌, ◌<◌, ◌^◌, ◌≤◌}
use native.Mathlib.Omega.{arith}
use lib.Dec.{eqb}
use lib.ListN.{length, length-append}
use Rattle.density.proofs.Binary.{binary_within}
use Rattle.density.proofs.DrawerVerdicts.{drawer_chain, kind_tells, row_chain}
use Rattle.density.proofs.KindTests.{kinds_known}
use Rattle.density.proofs.RankedRings.{rank-wanted}
use Rattle.density.proofs.RowCounts.{few_rings}
use Rattle.density.proofs.Wanted.{first_ring, next_ring, rings_falling}
use Rattle.density.specs.Choose.{choose}
use Rattle.density.specs.Lengths.{at_most, drawer_length, exactly}
use Rattle.density.specs.Necklaces.{of_kind}
use Rattle.density.specs.Ranks.{rank}
use Rattle.listing.proofs.AllTrials.{all_prices, each_few, told_all}
use Rattle.listing.proofs.ListingLeft.{Remaining, all_paid, ended→, left_few, left→said, named-wanted, none→, owed_few, remaining, ring→, said→left, spent→, to_come, →ended, →none, →paid, →ring, →spent}
use Rattle.listing.proofs.PlacesNamed.{ring_places_lem}
use Rattle.listing.proofs.Prices.{raise_zero}
use Rattle.listing.proofs.Strikes.{Closed, listing_closed}
use Rattle.listing.proofs.Totalled.{listing-totals, starts_alike}
use Rattle.listing.proofs.TrialBounds.{kind_1_prices, kind_2_prices, starts_few}
use Rattle.listing.specs.Listing.{Listing, book, listing_answers, listing_step, over, refused}
use Rattle.listing.specs.Places.{leaving, ring_places}
use Rattle.listing.specs.Totals.{AtMost, SaysNone, all_trials, listing_left, named, rings_of}
use Rattle.refusal.proofs.Conditions.{accepted_exactly, chain_first}
use Rattle.refusal.specs.Conditions.{NoStations, NoneHolds}
use Rattle.refusal.specs.Verdicts.{accepted}
use Rattle.walk.proofs.Demand.{Admitted, accepted_opening, answers_agree, fresh_fit, fresh_kept, fresh_stands, handed-stands, stays_fit}
use Rattle.walk.proofs.Invariant.{Fit}
use Rattle.walk.proofs.Places.{answers-placed}
use Rattle.walk.proofs.StepAgrees.{step_agrees}
use Rattle.walk.specs.Claims.{AllTrials, Ceiling, Demand3, Demand3Places, EndedNext, FirstRing, Kind1Trials, Kind2Trials, LengthMet, Meets, NamedAll, NamedFalling, NeverSpent, NeverSpentInAny, NeverUnfit, NextRing, NoneNext, OpenAccepts, OpenRefusals, OpenedWalk, Opening, ReachesNone, RefusedOpening, RefusedWalk, RingNext, RingPlaces, SeatsGiven, SpentNext, TakenAlike, TakenListed, TrialsNext, answers, book_of, given, next, opened, wanted_of}
use Rattle.walk.specs.Moves.{kept_of, rules}
use Rattle.walk.specs.Opening.{NoCondition, NoKind, fresh, open_conditions, open_verdict, open_walk, refused_walk}
use Rattle.walk.specs.Step.{handed}
use Rattle.walk.specs.ToCome.{stands}
use Rattle.words.specs.Order.{le}

-- ---- opening

pub open_refusals : OpenRefusals
unfolding open_verdict
open_refusals n d kind limit = chain_first (drawer_chain n d (kind_tells kind) (row_chain n limit))

pub open_accepts : OpenAccepts
open_accepts n d kind limit = (admits, λ c. (accepted_exactly (open_conditions n d kind limit) _ (open_refusals n d kind limit)).1 (none_holds c))
  where
    admits : open_verdict n d kind limit ≡ accepted → NoCondition n d kind limit
    admits e =
        let a = accepted_opening n d kind limit e in
        record { some = a.stations; most = a.most; holes = a.dense; kinds = kinds_known kind a.kinds; long = a.long; symbols = binary_within a.binary }

    stations : NoCondition n d kind limit → NoStations n → ⊥
    stations c (inl z) = omega (arith, c.some)
    stations c (inr h) = omega (arith, c.most)

    kinds : (1 ≤ kind) × (kind ≤ 3) → NoKind kind → ⊥
    kinds k (inl z) = omega (arith, k.0)
    kinds k (inr h) = omega (arith, k.1)

    none_holds : NoCondition n d kind limit → NoneHolds (open_conditions n d kind limit)
    none_holds c = (stations c, (λ h. omega (arith, c.holes), (kinds c.kinds, (λ h. h c.long, (λ o. omega (arith, o.here, c.symbols o.before o.inside), tt)))))

pub refused_fields : RefusedWalk (refused_walk rules)
refused_fields = record { n = refl; d = refl; kind = refl; at = refl; row = refl; kept = refl }

pub refused_opening : RefusedOpening
refused_opening n d kind limit r e = subst (λ v. RefusedWalk (open_walk v rules n d kind limit)) (sym e) refused_fields

-- ---- after an opening

module _ (o : Opening) where
  admitted : Admitted rules o.n o.d o.kind o.limit
  admitted = accepted_opening o.n o.d o.kind o.limit o.passed

  same_walk_lem : opened o ≡ fresh rules o.n o.d o.kind o.limit
  same_walk_lem = ap (λ v. open_walk v rules o.n o.d o.kind o.limit) o.passed

  pub opened-fit : Fit rules (opened o)
  opened-fit = rw same_walk_lem (fresh_fit rules o.n o.d o.kind o.limit admitted)

  pub opened-stands : stands rules (opened o) ≡ book_of o
  opened-stands = ap (stands rules) same_walk_lem ∙ fresh_stands rules o.n o.d o.kind o.limit admitted

  opened_kept : kept_of (opened o) ≡ o.limit
  opened_kept = ap kept_of same_walk_lem ∙ fresh_kept rules o.n o.d o.kind o.limit admitted

  book_closed : Closed (book_of o)
  book_closed = listing_closed o.n o.d (of_kind o.kind) o.limit

pub opened_walk : OpenedWalk
opened_walk o = rw (same_walk_lem o) (refl, refl, refl, refl, refl, refl)

pub demand_3 : Demand3
demand_3 o steps = answers_agree rules (opened o) (opened-fit o) steps ∙ ap (λ l. listing_answers l steps) (opened-stands o)

pub demand_3_places : Demand3Places
demand_3_places o steps = answers-placed rules steps (opened o) (opened-fit o) ∙ rw (opened_kept o, opened-stands o)

pub places_of_rings : RingPlaces
places_of_rings o steps = ap ring_places (demand_3_places o steps) ∙ ring_places_lem o.limit (listing_answers (book_of o) steps) ∙ ap (λ t. leaving o.limit (named t)) (sym (demand_3 o steps))

pub never_unfit : NeverUnfit
never_unfit o steps = (stays_fit rules (opened o) (opened-fit o) steps).test

module _ (o : Opening) (steps : List ℕ) where
  -- the book after these steps
  abbrev left : Listing
  left = listing_left (book_of o) steps

  still : Remaining left
  still = remaining steps (to_come (book_closed o))

  next_told : (a : ℕ) → next o steps a ≡ (listing_step left a).tells
  next_told a =
      let s = step_agrees rules (handed rules (opened o) steps) a (stays_fit rules (opened o) (opened-fit o) steps) in
      s.tells ∙ ap (λ l. (listing_step l a).tells) (handed-stands rules (opened o) (opened-fit o) steps ∙ ap (λ l. listing_left l steps) (opened-stands o))

  -- the rings given, and then those still to come, are those wanted
  given_left : given o steps ++ rings_of left ≡ wanted_of o
  given_left =
      ap (λ t. named t ++ rings_of left) (demand_3 o steps)
      ∙ named-wanted o.n o.d (of_kind o.kind) o.limit (admitted o).long (admitted o).binary steps

  none_left : (rings_of left ≡ []) ↔ (given o steps ≡ wanted_of o)
  none_left = (
    λ e. sym (append-nil (given o steps)) ∙ ap (λ t. given o steps ++ t) (sym e) ∙ given_left,
    λ e. append_cancel_left (given o steps) (rings_of left) [] (given_left ∙ sym e ∙ sym (append-nil (given o steps))),
  )

  said_none : SaysNone (answers o steps) ↔ (left ≡ over)
  said_none = (λ s. said→left steps (to_come (book_closed o)) (subst SaysNone (demand_3 o steps) s), λ e. subst SaysNone (sym (demand_3 o steps)) (left→said steps (book_closed o) e))

pub first_is : FirstRing
first_is o steps = first_ring o.n o.d (of_kind o.kind) o.limit (given o steps) (rings_of (left o steps)) (given_left o steps)

pub next_is : NextRing
next_is o steps = next_ring o.n o.d (of_kind o.kind) o.limit (given o steps) (rings_of (left o steps)) (given_left o steps)

pub named_falling : NamedFalling
named_falling o steps = rings_falling o.n o.d (of_kind o.kind) o.limit (given o steps) (rings_of (left o steps)) (given_left o steps)

pub named_all : NamedAll
unfolding rings_of
named_all o steps s = (none_left o steps).0 (ap rings_of ((said_none o steps).0 s))

pub reaches_none : ReachesNone
reaches_none o = let h = all_paid (book_closed o) in (h.0, (said_none o h.0).1 h.1)

-- the rings given are no more than those wanted
given_few : (o : Opening) (steps : List ℕ) → length (given o steps) ≤ length (wanted_of o)
given_few o steps = omega (arith, length-append (given o steps) (rings_of (left o steps)), ap length (given_left o steps))

pub ceiling : Ceiling
ceiling o steps = omega (arith, given_few o steps, few_rings o.n o.d (λ r. le r o.limit && of_kind o.kind r))

pub length_met : LengthMet
unfolding drawer_length rank
length_met o steps = go (eqb o.kind 3)
  where
    go : (t : Bool) → Meets (cond t (at_most (choose o.n o.d)) (exactly (length (wanted_of o)))) (answers o steps)
    go true = ceiling o steps
    go false = (given_few o steps, λ s. ap length (named_all o steps s))

pub seats_given : SeatsGiven
seats_given o steps before ring more e =
    let left = rings_of (left o steps) in
    let all : wanted_of o ≡ before ++ (ring ∷ (more ++ left)) = sym (given_left o steps) ∙ ap (λ t. t ++ left) e ∙ append_assoc before (ring ∷ more) left in
    omega (arith, rank-wanted o.n o.d o.kind o.limit before ring (more ++ left) all)

pub ring_next_lem : RingNext
ring_next_lem o steps a r = (
  λ e.
      let h = ring→ (still o steps) a r (sym (ap (λ t. t.said) (next_told o steps a)) ∙ e) in
      ((h.0.0, ap (λ t. given o steps ++ t) (sym h.0.1) ∙ given_left o steps), h.1),
  λ h.
      let e = append_cancel_left (given o steps) (rings_of (left o steps)) (r ∷ h.0.0) (given_left o steps ∙ sym h.0.1) in
      ap (λ t. t.said) (next_told o steps a) ∙ →ring (still o steps) a r h.0.0 e h.1,
)

pub none_next : NoneNext
none_next o steps a = (
  λ e. let h = none→ (still o steps) a (sym (ap (λ t. t.said) (next_told o steps a)) ∙ e) in ((none_left o steps).0 h.0, λ s. h.1 ((said_none o steps).0 s), h.2),
  λ h. ap (λ t. t.said) (next_told o steps a ∙ ap (λ b. b.tells) (→none (still o steps) a ((none_left o steps).1 h.0) (λ e. h.1 ((said_none o steps).1 e)) h.2)),
)

pub ended_next : EndedNext
ended_next o steps a = (
  λ e. (said_none o steps).1 (ended→ (still o steps) a (sym (ap (λ t. t.said) (next_told o steps a)) ∙ e)),
  λ s. ap (λ t. t.said) (next_told o steps a) ∙ →ended (left o steps) a ((said_none o steps).0 s),
)

pub spent_next : SpentNext
spent_next o steps a = (
  λ e. spent→ (still o steps) a (sym (ap (λ t. t.said) (next_told o steps a)) ∙ e),
  λ h. ap (λ t. t.said) (next_told o steps a ∙ →spent (left o steps) a h),
)

pub trials_next : TrialsNext
trials_next o steps a = (
  λ h. ap (λ t. t.trials) (next_told o steps a ∙ →spent (left o steps) a h),
  λ h. ap (λ t. t.trials) (next_told o steps a) ∙ →paid (left o steps) a h,
)

-- ---- what a ring takes

pub taken_listed : TakenListed
taken_listed o steps = rw (demand_3 o steps) (rw raise_zero at (listing-totals steps 0 (book_of o) (book_closed o)))

pub taken_alike : TakenAlike
taken_alike o steps others = starts_alike (taken_listed o steps) (taken_listed o others)

module _ (o : Opening) where
  of_kind_lem : {b : ℕ} (k : ℕ) → o.kind ≡ k → AtMost b (book o.n o.d k o.limit) → AtMost b (book_of o)
  of_kind_lem {b} k e m = subst (λ k. AtMost b (book o.n o.d k o.limit)) (sym e) m

  kind_1_book : o.kind ≡ 1 → AtMost (2 * o.n - 1) (book_of o)
  kind_1_book e = of_kind_lem 1 e (kind_1_prices o.n o.d o.limit (admitted o).stations (admitted o).long)

  kind_2_book : o.kind ≡ 2 → AtMost (4 * o.n - 2) (book_of o)
  kind_2_book e = of_kind_lem 2 e (kind_2_prices o.n o.d o.limit (admitted o).stations (admitted o).long (binary_within (admitted o).binary))

  whole_book : all_trials (book_of o) < 2 ^ o.n
  whole_book = all_prices o.n o.d o.kind o.limit (admitted o).stations (admitted o).long (binary_within (admitted o).binary)

  -- where each line costs at most b, a step allowed b is not refused as spent
  not_spent : {b : ℕ} → AtMost b (book_of o) → (steps : List ℕ) (a : ℕ) → b ≤ a → (next o steps a).said ≡ refused 21 → ⊥
  not_spent m steps a h e = omega (arith, owed_few (left_few steps m), (spent_next o steps a).0 e)

pub kind_1_trials : Kind1Trials
kind_1_trials o steps e = starts_few (taken_listed o steps) (kind_1_book o e)

pub kind_2_trials : Kind2Trials
kind_2_trials o steps e = starts_few (taken_listed o steps) (kind_2_book o e)

pub all_trials_lem : AllTrials
all_trials_lem o steps = rw (demand_3 o steps) (omega (arith, whole_book o, told_all steps (book_of o)))

pub never_spent : NeverSpent
never_spent o steps a k h = go o.kind refl
  where
    kinds : (1 ≤ o.kind) × (o.kind ≤ 3)
    kinds = kinds_known o.kind (admitted o).kinds

    go : (k : ℕ) → o.kind ≡ k → (next o steps a).said ≡ refused 21 → ⊥
    go zero e = absurd (omega (arith, kinds.0))
    go (suc zero) e = not_spent o (kind_1_book o e) steps a (omega (arith, (admitted o).stations))
    go (suc (suc zero)) e = not_spent o (kind_2_book o e) steps a h
    go (suc (suc (suc i))) e = absurd (k (omega (arith, kinds.1)))

pub never_spent_in_any : NeverSpentInAny
never_spent_in_any o steps a h = not_spent o (each_few {b = a} (book_of o) (omega (arith, whole_book o))) steps a (omega arith)
