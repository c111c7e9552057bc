-- A book after some of its steps: what the next step says, by what is left.
use mathlib.Core.Bool.{Bool, false, true}
use mathlib.Core.List.{List, [], nil≢cons, ◌++◌, ◌∷◌}
use mathlib.Core.Path.{ap, refl, sym, ◌∙◌, ◌≡◌}
use Prim.Native.Nat.{ℕ, ◌-◌, ◌<◌, ◌≤◌}
use native.Mathlib.Omega.{arith}
use lib.Dec.{ltb}
use lib.ListN.{length}
use borrow.Author.Tests.{le-ltb, lt-ltb, ltb-false, ltb-true}
use Rattle.density.proofs.Binary.{Binary}
use Rattle.density.specs.Necklaces.{wanted}
use Rattle.listing.proofs.RingsNamed.{refused≢line, rings_listing, ring≢none}
use Rattle.listing.proofs.Strikes.{Closed, last, line, listing_closed}
use Rattle.listing.specs.Listing.{Line, Listing, Said, Told, entry, listed, listing, listing_answers, listing_step, none, over, pay, refused, ring, says, told}
use Rattle.listing.specs.Totals.{AtMost, SaysNone, all_over, also_said, and_then, later, listing_left, named, now, owed, rings_of}
use Rattle.words.proofs.Booleans.{clash}

-- a book with nothing left to come, or with rings and then none
pub data Remaining : Listing → Type 0 where
  ended : Remaining over
  to_come : {l : Listing} → Closed l → Remaining l

step_remaining : {l : Listing} → Remaining l → (a : ℕ) → Remaining (listing_step l a).left
unfolding listing_step
step_remaining ended a = ended
step_remaining (to_come (last {p = p})) a = go (ltb a p)
  where
    go : (b : Bool) → Remaining (pay b none p over a).left
    go true = to_come last
    go false = ended
step_remaining (to_come (line {r = r} {p = p} {l = l} c)) a = go (ltb a p)
  where
    go : (b : Bool) → Remaining (pay b (ring r) p l a).left
    go true = to_come (line c)
    go false = to_come c

pub remaining : (steps : List ℕ) {l : Listing} → Remaining l → Remaining (listing_left l steps)
unfolding listing_left
remaining [] h = h
remaining (a ∷ more) h = remaining more (step_remaining h a)

-- a step names a ring, or leaves the rings as they are
step_named : {l : Listing} → Remaining l → (a : ℕ) → also_said (listing_step l a).tells.said (rings_of (listing_step l a).left) ≡ rings_of l
unfolding listing_step rings_of
step_named ended a = refl
step_named (to_come (last {p = p})) a = go (ltb a p)
  where
    go : (b : Bool) → also_said (pay b none p over a).tells.said (rings_of (pay b none p over a).left) ≡ []
    go true = refl
    go false = refl
step_named (to_come (line {r = r} {p = p} {l = l} c)) a = go (ltb a p)
  where
    go : (b : Bool) → also_said (pay b (ring r) p l a).tells.said (rings_of (pay b (ring r) p l a).left) ≡ r ∷ rings_of l
    go true = refl
    go false = refl

also-append : (s : Said) (x y : List (List ℕ)) → also_said s x ++ y ≡ also_said s (x ++ y)
also-append (says (ring r)) x y = refl
also-append (says none) x y = refl
also-append (refused c) x y = refl

-- the rings of some answers and of others after them
pub named-append : (a b : List Told) → named (a ++ b) ≡ named a ++ named b
unfolding named
named-append [] b = refl
named-append (t ∷ a) b = ap (also_said t.said) (named-append a b) ∙ sym (also-append t.said (named a) (named b))

-- the rings named and the rings to come are the rings of the book
pub named_left : (steps : List ℕ) {l : Listing} → Remaining l → named (listing_answers l steps) ++ rings_of (listing_left l steps) ≡ rings_of l
unfolding named listing_answers listing_left
named_left [] h = refl
named_left (a ∷ more) {l} h =
    let s = listing_step l a in
    also-append s.tells.said (named (listing_answers s.left more)) (rings_of (listing_left s.left more)) ∙ ap (also_said s.tells.said) (named_left more (step_remaining h a)) ∙ step_named h a

entry≢over : {s : Line} {p : ℕ} {l : Listing} → entry s p l ≡ over → ⊥
entry≢over e = clash (cc)

-- of the drawer's book: they are those wanted
pub named-wanted : (n d : ℕ) (test : List ℕ → Bool) (limit : List ℕ) → length limit ≡ n → Binary limit → (steps : List ℕ) → let l = listing n d test limit in
    named (listing_answers l steps) ++ rings_of (listing_left l steps) ≡ wanted n d test limit
named-wanted n d test limit long bits steps = named_left steps (to_come (listing_closed n d test limit)) ∙ rings_listing n d test limit long bits

-- ---- spent

ended≢spent : refused 20 ≡ refused 21 → ⊥
ended≢spent e = let z : ◌≡◌ {A = ℕ} 20 21 = cc in omega arith

pub spent→ : {l : Listing} → Remaining l → (a : ℕ) → (listing_step l a).tells.said ≡ refused 21 → a < owed l
unfolding listing_step
spent→ ended a e = absurd (ended≢spent e)
spent→ (to_come (last {p = p})) a e = go (ltb a p) refl e
  where
    go : (b : Bool) → ltb a p ≡ b → (pay b none p over a).tells.said ≡ refused 21 → a < p
    go true q e = ltb-true a p q
    go false q e = absurd (refused≢line (sym e))
spent→ (to_come (line {r = r} {p = p} {l = l} c)) a e = go (ltb a p) refl e
  where
    go : (b : Bool) → ltb a p ≡ b → (pay b (ring r) p l a).tells.said ≡ refused 21 → a < p
    go true q e = ltb-true a p q
    go false q e = absurd (refused≢line (sym e))

pub →spent : (l : Listing) (a : ℕ) → a < owed l → (listing_step l a).tells ≡ told (refused 21) a
unfolding listing_step
→spent over a h = absurd (omega arith)
→spent (entry s p l) a h = rw (lt-ltb a p h)

-- the trials of any other step
pub →paid : (l : Listing) (a : ℕ) → owed l ≤ a → (listing_step l a).tells.trials ≡ owed l
unfolding listing_step
→paid over a h = refl
→paid (entry s p l) a h = rw (le-ltb a p h)

-- ---- a ring

pub ring→ : {l : Listing} → Remaining l → (a : ℕ) (r : List ℕ) → (listing_step l a).tells.said ≡ says (ring r) → ((more : List (List ℕ)) × (rings_of l ≡ r ∷ more)) × (owed l ≤ a)
unfolding listing_step rings_of
ring→ ended a r e = absurd (refused≢line e)
ring→ (to_come (last {p = p})) a r e = go (ltb a p) e
  where
    go : (b : Bool) → (pay b none p over a).tells.said ≡ says (ring r) → ((more : List (List ℕ)) × (◌≡◌ {A = List (List ℕ)} [] (r ∷ more))) × (p ≤ a)
    go true e = absurd (refused≢line e)
    go false e = absurd (ring≢none (sym e))
ring→ (to_come (line {r = s} {p = p} {l = l} c)) a r e = go (ltb a p) refl e
  where
    go : (b : Bool) → ltb a p ≡ b → (pay b (ring s) p l a).tells.said ≡ says (ring r) → ((more : List (List ℕ)) × (s ∷ rings_of l ≡ r ∷ more)) × (p ≤ a)
    go true q e = absurd (refused≢line e)
    go false q e = let h : s ≡ r = cc in ((rings_of l, ap {B = List (List ℕ)} (λ t. t ∷ rings_of l) h), ltb-false a p q)

pub →ring : {l : Listing} → Remaining l → (a : ℕ) (r : List ℕ) (more : List (List ℕ)) → rings_of l ≡ r ∷ more → owed l ≤ a → (listing_step l a).tells.said ≡ says (ring r)
unfolding listing_step rings_of
→ring ended a r more e h = absurd (nil≢cons e)
→ring (to_come last) a r more e h = absurd (nil≢cons e)
→ring (to_come (line {r = s} {p = p} {l = l} c)) a r more e h = let q : s ≡ r = cc in rw (le-ltb a p h) (ap (λ t. says (ring t)) q)

-- ---- none

pub none→ : {l : Listing} → Remaining l → (a : ℕ) → (listing_step l a).tells.said ≡ says none → (rings_of l ≡ []) × (l ≡ over → ⊥) × (owed l ≤ a)
unfolding listing_step rings_of
none→ ended a e = absurd (refused≢line e)
none→ (to_come (last {p = p})) a e = go (ltb a p) refl e
  where
    go : (b : Bool) → ltb a p ≡ b → (pay b none p over a).tells.said ≡ says none → (◌≡◌ {A = List (List ℕ)} [] []) × (entry none p over ≡ over → ⊥) × (p ≤ a)
    go true q e = absurd (refused≢line e)
    go false q e = (refl, entry≢over, ltb-false a p q)
none→ (to_come (line {r = r} {p = p} {l = l} c)) a e = go (ltb a p) e
  where
    go : (b : Bool) → (pay b (ring r) p l a).tells.said ≡ says none → (r ∷ rings_of l ≡ []) × (entry (ring r) p l ≡ over → ⊥) × (p ≤ a)
    go true e = absurd (refused≢line e)
    go false e = absurd (ring≢none e)

pub →none : {l : Listing} → Remaining l → (a : ℕ) → rings_of l ≡ [] → (l ≡ over → ⊥) → owed l ≤ a → listing_step l a ≡ listed (says none) (owed l) over
unfolding listing_step rings_of
→none ended a e h k = absurd (h refl)
→none (to_come (last {p = p})) a e h k = rw (le-ltb a p k)
→none (to_come (line {r = r} {l = l} c)) a e h k = clash (cc)

-- what none leaves
pub none_over : {l : Listing} → Remaining l → (a : ℕ) → (listing_step l a).tells.said ≡ says none → (listing_step l a).left ≡ over
none_over {l} r a e = let h = none→ r a e in rw (→none r a h.0 h.1 h.2)

-- ---- ended

pub ended→ : {l : Listing} → Remaining l → (a : ℕ) → (listing_step l a).tells.said ≡ refused 20 → l ≡ over
unfolding listing_step
ended→ ended a e = refl
ended→ (to_come (last {p = p})) a e = go (ltb a p) e
  where
    go : (b : Bool) → (pay b none p over a).tells.said ≡ refused 20 → entry none p over ≡ over
    go true e = absurd (ended≢spent (sym e))
    go false e = absurd (refused≢line (sym e))
ended→ (to_come (line {r = r} {p = p} {l = l} c)) a e = go (ltb a p) e
  where
    go : (b : Bool) → (pay b (ring r) p l a).tells.said ≡ refused 20 → entry (ring r) p l ≡ over
    go true e = absurd (ended≢spent (sym e))
    go false e = absurd (refused≢line (sym e))

pub →ended : (l : Listing) (a : ℕ) → l ≡ over → (listing_step l a).tells.said ≡ refused 20
unfolding listing_step
→ended l a e = rw e

-- none was said, exactly when nothing is left
over_left : (steps : List ℕ) → listing_left over steps ≡ over
unfolding listing_left listing_step
over_left [] = refl
over_left (a ∷ more) = over_left more

pub said→left : (steps : List ℕ) {l : Listing} → Remaining l → SaysNone (listing_answers l steps) → listing_left l steps ≡ over
unfolding listing_answers listing_left
said→left [] h s = elim s [ ]
said→left (a ∷ more) {l} h s = go refl s (said→left more (step_remaining h a))
  where
    go : {t : Told} → (listing_step l a).tells ≡ t → SaysNone (t ∷ listing_answers (listing_step l a).left more)
        → (SaysNone (listing_answers (listing_step l a).left more) → listing_left (listing_step l a).left more ≡ over) → listing_left (listing_step l a).left more ≡ over
    go e now ih = ap (λ k. listing_left k more) (none_over h a (ap (λ t. t.said) e)) ∙ over_left more
    go e (later s) ih = ih s

pub left→said : (steps : List ℕ) {l : Listing} → Closed l → listing_left l steps ≡ over → SaysNone (listing_answers l steps)
unfolding listing_answers listing_left listing_step
left→said [] last e = absurd (entry≢over e)
left→said [] (line c) e = absurd (entry≢over e)
left→said (a ∷ more) (last {p = p}) e = go (ltb a p) e (left→said more last)
  where
    go : (b : Bool) → listing_left (pay b none p over a).left more ≡ over → (listing_left (entry none (p - a) over) more ≡ over → SaysNone (listing_answers (entry none (p - a) over) more))
        → SaysNone ((pay b none p over a).tells ∷ listing_answers (pay b none p over a).left more)
    go true e ih = later (ih e)
    go false e ih = now
left→said (a ∷ more) (line {r = r} {p = p} {l = l} c) e = go (ltb a p) e (left→said more (line c)) (left→said more c)
  where
    go : (b : Bool) → listing_left (pay b (ring r) p l a).left more ≡ over
        → (listing_left (entry (ring r) (p - a) l) more ≡ over → SaysNone (listing_answers (entry (ring r) (p - a) l) more)) → (listing_left l more ≡ over → SaysNone (listing_answers l more))
        → SaysNone ((pay b (ring r) p l a).tells ∷ listing_answers (pay b (ring r) p l a).left more)
    go true e one all = later (one e)
    go false e one all = later (all e)

-- ---- prices

step_few : {b : ℕ} {l : Listing} → AtMost b l → (a : ℕ) → AtMost b (listing_step l a).left
unfolding listing_step
step_few all_over a = all_over
step_few {b} (and_then {s = s} {p = p} {l = l} h m) a = go (ltb a p)
  where
    go : (t : Bool) → AtMost b (pay t s p l a).left
    go true = and_then {p = p - a} (omega arith) m
    go false = m

pub left_few : (steps : List ℕ) {b : ℕ} {l : Listing} → AtMost b l → AtMost b (listing_left l steps)
unfolding listing_left
left_few [] m = m
left_few (a ∷ more) m = left_few more (step_few m a)

pub owed_few : {b : ℕ} {l : Listing} → AtMost b l → owed l ≤ b
owed_few all_over = omega arith
owed_few (and_then h m) = h

-- steps that are allowed what each line costs leave nothing
pub all_paid : {l : Listing} → Closed l → (steps : List ℕ) × (listing_left l steps ≡ over)
unfolding listing_left listing_step
all_paid (last {p = p}) = (p ∷ [], ap (λ b. listing_left (pay b none p over p).left []) (le-ltb p p (omega arith)))
all_paid (line {r = r} {p = p} {l = l} c) =
    let h = all_paid c in
    (p ∷ h.0, ap (λ b. listing_left (pay b (ring r) p l p).left h.0) (le-ltb p p (omega arith)) ∙ h.1)
