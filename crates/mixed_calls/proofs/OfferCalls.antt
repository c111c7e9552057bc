-- Looks and takes among calls: an accepted take is a step, and all others count for nothing.
use mathlib.Core.List.Memᴰ
use mathlib.Core.List.{List, Memᴰ, [], ◌∷◌}
use mathlib.Core.Logic.{inl, inr, ◌⊎◌}
use mathlib.Core.Path.{ap, refl, subst, sym, ◌≡◌}
use Prim.Native.Nat.{ℕ}
use Rattle.listing.specs.Places.{Placed}
use Rattle.offers.proofs.Claims.{look_then_take}
use Rattle.offers.specs.Offers.{look_of, take_of, take_verdict, taken_by}
use Rattle.offers.specs.declared.Offer.{Offer}
use Rattle.refusal.specs.Verdicts.{Verdict, accepted, refused}
use Rattle.walk.specs.Moves.{rules}
use Rattle.walk.specs.Step.{step_numbers, step_of}
use Rattle.mixed_calls.specs.Calls.{Call, Held, after_calls, allowances, also_allowed, also_answered, call_answers, calling, fetches, looks, opens, puts, steps, take_allowed, take_answered, take_moved, takes, without_offers}
use Rattle.mixed_calls.specs.Claims.{Alike, LookTakeStep, PlainCall, RefusedTakeNothing, TakeStep, UntakenLook, WithoutOffers}

-- ---- one look, one take

pub untaken_look : UntakenLook
unfolding call_answers after_calls look_of
untaken_look h a more = record { answers = refl; left = refl }

-- a take that is accepted and hands back what a step does
as_step :
    (h : Held) (o : Offer) (a : ℕ) (more : List Call)
    → take_verdict h.walk o ≡ accepted → take_of h.walk o ≡ step_of rules h.walk a
    → Alike h (takes o ∷ more) (steps a ∷ more)
unfolding call_answers after_calls
as_step h o a more e s = record { answers = rw (e, s); left = rw s }

pub take_step : TakeStep
unfolding take_of
take_step h o more e = as_step h o o.allowance more e (ap (λ v. taken_by v h.walk o) e)

pub look_take_step : LookTakeStep
unfolding call_answers after_calls look_of
look_take_step h a more long t =
    let p = look_then_take h.walk a long t in
    let s = as_step h (look_of h.walk a).offer a more p.0 p.1 in
    record { answers = s.answers; left = s.left }

pub refused_take-nothing : RefusedTakeNothing
unfolding call_answers after_calls take_of
refused_take-nothing h o r more e = record { answers = rw e; left = rw e }

-- ---- lists

-- said of a list: of what it leaves, its answers, its allowances, and the list without looks and takes
abbrev pub OfList : Held → (Held → List Placed → List ℕ → List Call → Type 0) → List Call → Type 0
OfList h P calls = P (after_calls h calls) (call_answers h calls) (allowances h calls) (without_offers h calls)

-- what holds with a step and with no call in its place holds with a take
pub step_or_nothing :
    (h : Held) (o : Offer) (more : List Call) (P : Held → List Placed → List ℕ → List Call → Type 0)
    → OfList h P (steps o.allowance ∷ more) → OfList h P more → OfList h P (takes o ∷ more)
unfolding after_calls call_answers allowances without_offers take_of
step_or_nothing h o more P step nothing = go (take_verdict h.walk o)
  where
    go : (v : Verdict) →
        let s = taken_by v h.walk o in
        let k : Held = record { walk = s.walk; binder = h.binder } in
        P (after_calls k more) (take_answered v (step_numbers s) (call_answers k more))
        (take_allowed v o.allowance (allowances k more)) (take_moved v o.allowance (without_offers k more))
    go accepted = step
    go (refused r) = nothing

-- what holds of the first and of each later call
pub each : (P : Call → Type 0) {c : Call} {more : List Call} → P c → (d : Call) → (Memᴰ d more → P d)
    → Memᴰ d (c ∷ more) → P d
each P {c} {more} p d later m = go (Memᴰ.cases_cons m)
  where
    go : (d ≡ c) ⊎ Memᴰ d more → P d
    go (inl e) = subst P (sym e) p
    go (inr m) = later m

-- what a list leaves, answers and is allowed comes of the plain calls
abbrev Comes : Held → Held → List Placed → List ℕ → List Call → Type 0
Comes h left answers allowed plain =
    (answers ≡ call_answers h plain) × (left ≡ after_calls h plain) × (allowed ≡ allowances h plain)
    × ((c : Call) → Memᴰ c plain → PlainCall c)

-- a plain call comes first
and_first :
    (h : Held) (c : Call) {left : Held} {answers : List Placed} {allowed : List ℕ} {plain : List Call} → PlainCall c
    → Comes (calling h c) left answers allowed plain
    → Comes h left (also_answered h c answers) (also_allowed h c allowed) (c ∷ plain)
unfolding call_answers after_calls allowances
and_first h c p s =
    (ap (also_answered h c) s.0, s.1, ap (also_allowed h c) s.2, λ d. each PlainCall p d (s.3 d))

comes : (h : Held) (calls : List Call) → OfList h (Comes h) calls
unfolding after_calls call_answers allowances without_offers look_of
comes h [] = (refl, refl, refl, λ c m. absurd (Memᴰ.not-nil m))
comes h (opens n d kind limit ∷ more) =
    let c = opens n d kind limit in and_first h c (inl (n, d, kind, limit, refl)) (comes (calling h c) more)
comes h (steps a ∷ more) = and_first h (steps a) (inr (inl (a, refl))) (comes (calling h (steps a)) more)
comes h (puts name ∷ more) = and_first h (puts name) (inr (inr (inl (name, refl)))) (comes (calling h (puts name)) more)
comes h (fetches name ∷ more) =
    and_first h (fetches name) (inr (inr (inr (name, refl)))) (comes (calling h (fetches name)) more)
comes h (looks a ∷ more) = comes h more
comes h (takes o ∷ more) =
    let c = steps o.allowance in
    let step = and_first h c (inr (inl (o.allowance, refl))) (comes (calling h c) more) in
    step_or_nothing h o more (Comes h) step (comes h more)

pub without_offers_lem : WithoutOffers
without_offers_lem h calls = let s = comes h calls in (record { answers = s.0; left = s.1 }, s.2, s.3)
