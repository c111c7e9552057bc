-- What document 01 claims of a walk, each claim as a statement of its own.
use Rattle.std.specs.Prelude.{false, true, ◌&&◌, List, [], ◌++◌, ◌∷◌, ◌↔◌, ◌⊎◌, ◌≡◌, ℕ, ◌*◌, ◌+◌, ◌-◌, ◌<◌, ◌^◌, ◌≤◌, get_or, length, Result, Ok, Err}
use Rattle.density.specs.Choose.{choose}
use Rattle.density.specs.Lengths.{HowMany, at_most, drawer_length, exactly}
use Rattle.density.specs.Necklaces.{necklaces, of_kind, wanted}
use Rattle.density.specs.Ranks.{rank}
use Rattle.refusal.specs.Conditions.{FirstOf}
use Rattle.refusal.specs.Verdicts.{Verdict, accepted, most_stations}
use Rattle.refusal.specs.declared.Refusal.{Refusal}
use Rattle.walk.specs.Fit.{FitRecord, fit}
use Rattle.listing.specs.Listing.{Listing, Told, book, listing_answers, listing_step, none, refused, ring, says}
use Rattle.listing.specs.Places.{Placed, leaving, places_from, ring_places}
use Rattle.walk.specs.Moves.{kept_of, move_at, row_of, rules, trial}
use Rattle.walk.specs.Opening.{NoCondition, open_conditions, open_verdict, open_walk}
use Rattle.walk.specs.Step.{handed, step_due, step_of, told_by, trials_needed, walk_answers, walk_placed}
use Rattle.walk.specs.ToCome.{stands}
use Rattle.listing.specs.Totals.{AtMost, SaysNone, Starts, listing_left, named, owed, totals, trials_told}
use Rattle.walk.specs.declared.Answer.{Answer}
use Rattle.walk.specs.declared.Answer.TheVariants.{None, Ring}
use Rattle.walk.specs.declared.Standing.TheVariants.{Ended, Given, Limit}
use Rattle.walk.specs.declared.Stepped.{Stepped}
use Rattle.walk.specs.declared.Walk.{Walk}
use Rattle.words.specs.Difference.{first_difference}
use Rattle.words.specs.Falling.{Falling, Highest}
use Rattle.words.specs.Order.{le, lt}
use Rattle.words.specs.Symbols.{zeros}

-- ---- opening

-- "Orders. .. Open: 1, 2, 5, 4, 3. .. Each number is returned only under its condition."
abbrev pub OpenRefusals : Type 0
OpenRefusals = (n d kind : ℕ) (limit : List ℕ) → FirstOf (open_conditions n d kind limit) (open_verdict n d kind limit)

-- "Every opening that meets no condition for the input is accepted", and no other.
abbrev pub OpenAccepts : Type 0
OpenAccepts = (n d kind : ℕ) (limit : List ℕ) → (open_verdict n d kind limit ≡ accepted) ↔ NoCondition n d kind limit

-- "The Ended walk of (1, 0), kind 1", both its rows zeros
pub record RefusedWalk (w : Walk) : Type 0 where
  pub n : w.n ≡ 1
  pub d : w.d ≡ 0
  pub kind : w.kind ≡ 1
  pub at : w.at ≡ Ended
  pub row : w.row ≡ zeros most_stations
  pub kept : w.kept ≡ zeros most_stations

-- "A refused opening hands back the Ended walk of (1, 0), kind 1."
abbrev pub RefusedOpening : Type 0
RefusedOpening =
    (n d kind : ℕ) (limit : List ℕ) (r : Refusal) → open_verdict n d kind limit ≡ Verdict.refused r
    → RefusedWalk (open_walk (open_verdict n d kind limit) rules n d kind limit)

-- ---- a step of any record

-- "a row (64 bytes)"
abbrev pub Record : Walk → Type 0
Record w = length w.row ≡ most_stations

-- "Unfit (22)"
abbrev pub FitMeans : Type 0
FitMeans = (w : Walk) → Record w → (fit rules w ≡ true) ↔ FitRecord w

-- "After 20 or 22 the walk comes back as handed in", and no trial was made. "21, after exactly that many trials".
abbrev pub RefusedSteps : Type 0
RefusedSteps =
    (w : Walk) (a : ℕ) → Record w → let s = step_due rules w a in 0 < s.number
    → (((s.number ≡ 22) ⊎ (s.number ≡ 20)) × ((step_of rules w a).walk ≡ w) × (s.trials ≡ 0)) ⊎ ((s.number ≡ 21) × (s.trials ≡ a))

-- "22. unfit walk record"
abbrev pub UnfitExactly : Type 0
UnfitExactly = (w : Walk) (a : ℕ) → Record w → ((step_due rules w a).number ≡ 22) ↔ (fit rules w ≡ false)

-- "20. the walk has ended"
abbrev pub EndedExactly : Type 0
EndedExactly = (w : Walk) (a : ℕ) → Record w → ((step_due rules w a).number ≡ 20) ↔ ((fit rules w ≡ true) × (w.at ≡ Ended))

-- "21. allowance spent: an answer needs more trials than allowed"
abbrev pub SpentExactly : Type 0
SpentExactly =
    (w : Walk) (a : ℕ) → Record w
    → ((step_due rules w a).number ≡ 21) ↔ ((fit rules w ≡ true) × (w.at ≡ Ended → ⊥) × (a < trials_needed rules w))

-- "Free moves are made before a 21, so the walk then stands where that trial is due."
abbrev pub TrialDue : Type 0
TrialDue =
    (w : Walk) (a : ℕ) → Record w → (step_due rules w a).number ≡ 21
    → let v = (step_of rules w a).walk in (u : Walk) × (move_at rules v.at v ≡ trial u)

-- No refusal: "one prefix question is one trial, and each step returns the number it made".
abbrev pub AnsweredExactly : Type 0
AnsweredExactly =
    (w : Walk) (a : ℕ) → Record w → let s = step_due rules w a in
    ((s.number ≡ 0) ↔ ((fit rules w ≡ true) × (w.at ≡ Ended → ⊥) × (trials_needed rules w ≤ a))) × (s.number ≡ 0 → s.trials ≡ trials_needed rules w)

-- "A ring given is measured against [the kept row] and then replaces it. None carries 0 and makes the kept row zeros." A refused step
-- carries 0 and leaves it as it was.
abbrev pub KeptBy : Result Answer Refusal → Walk → Stepped → Type 0
KeptBy (Ok Ring) w r = (r.place ≡ first_difference (kept_of w) (row_of r.walk)) × (r.walk.kept ≡ r.walk.row)
KeptBy (Ok None) w r = (r.place ≡ 0) × (r.walk.kept ≡ zeros (length w.kept))
KeptBy (Err x) w r = (r.place ≡ 0) × (r.walk.kept ≡ w.kept)

abbrev pub KeptStep : Type 0
KeptStep = (w : Walk) (a : ℕ) → let r = step_of rules w a in KeptBy r.answer w r

-- A refusal of a step names no place, and no row and no place of a ring stand beside it.
abbrev pub RefusedTells : Type 0
RefusedTells = (w : Walk) (a : ℕ) → let s = step_due rules w a in (s.place ≡ 0) × (0 < s.number → (s.row ≡ []) × (s.leaves ≡ 0))

-- "Otherwise the row is the answer and the walk stands at Given." "None: .. the row becomes zeros, the walk is Ended."
abbrev pub StandsBy : Result Answer Refusal → Walk → Type 0
StandsBy (Ok Ring) w = w.at ≡ Given
StandsBy (Ok None) w = (w.at ≡ Ended) × ((i : ℕ) → get_or w.row i 0 ≡ 0)
StandsBy (Err x) w = Unit

-- where a step leaves the walk; n, d and kind stay
abbrev pub StandsAfter : Type 0
StandsAfter =
    (w : Walk) (a : ℕ) → let r = step_of rules w a in
    StandsBy r.answer r.walk × (r.walk.n ≡ w.n) × (r.walk.d ≡ w.d) × (r.walk.kind ≡ w.kind)

-- A step of a fit record is the book's step on what the record stands for, and the record that it hands back is fit.
abbrev pub StepAsBook : Type 0
StepAsBook =
    (w : Walk) (a : ℕ) → Record w → fit rules w ≡ true → let b = listing_step (stands rules w) a in
    (told_by (step_due rules w a) ≡ b.tells) × (stands rules (step_of rules w a).walk ≡ b.left) × (fit rules (step_of rules w a).walk ≡ true)

-- What its moves still need is what the book then owes.
abbrev pub NeededOwed : Type 0
NeededOwed = (w : Walk) → Record w → fit rules w ≡ true → trials_needed rules w ≡ owed (stands rules w)

-- ---- after an opening

-- an opening that is accepted
pub record Opening : Type 0 where
  pub n : ℕ
  pub d : ℕ
  pub kind : ℕ
  pub limit : List ℕ
  pub passed : open_verdict n d kind limit ≡ accepted

-- "the walk that the opening returned"
abbrev pub opened : Opening → Walk
opened o = open_walk (open_verdict o.n o.d o.kind o.limit) rules o.n o.d o.kind o.limit

-- it stands at the limit, with zeros behind it: "Opening sets [the kept row] to the limit"
abbrev pub OpenedWalk : Type 0
OpenedWalk =
    (o : Opening) → let w = opened o in let row = o.limit ++ zeros (most_stations - o.n) in
    (w.n ≡ o.n) × (w.d ≡ o.d) × (w.kind ≡ o.kind) × (w.row ≡ row) × (w.at ≡ Limit) × (w.kept ≡ row)

-- the drawer's book for it
abbrev pub book_of : Opening → Listing
book_of o = book o.n o.d o.kind o.limit

-- the answers to a list of steps, "the first [on] the walk that the opening returned, each later one [on] the walk that the last returned"
abbrev pub answers : Opening → List ℕ → List Told
answers o steps = walk_answers rules (opened o) steps

-- "Over the whole list the answers (row, none, 20 or 21), each with the trials returned, equal the book's for the same allowances, in order."
abbrev pub Demand3 : Type 0
Demand3 = (o : Opening) (steps : List ℕ) → answers o steps ≡ listing_answers (book_of o) steps

-- the answers, each with the place that it carries
abbrev pub placed_answers : Opening → List ℕ → List Placed
placed_answers o steps = walk_placed rules (opened o) steps

-- The same with places: answers, trials and places are those of the book and of the rule for places, "measured from the opened limit for
-- the first answer and from the ring before for later ones".
abbrev pub Demand3Places : Type 0
Demand3Places = (o : Opening) (steps : List ℕ) → placed_answers o steps ≡ places_from o.limit (listing_answers (book_of o) steps)

-- every record handed back is fit
abbrev pub NeverUnfit : Type 0
NeverUnfit = (o : Opening) (steps : List ℕ) → fit rules (handed rules (opened o) steps) ≡ true

-- the rings given, in order
abbrev pub given : Opening → List ℕ → List (List ℕ)
given o steps = named (answers o steps)

-- The places of the rings given are those of the rings one after the other, the first against the limit: "a spent allowance doesn't lose
-- it", however many steps a ring was asked for in.
abbrev pub RingPlaces : Type 0
RingPlaces = (o : Opening) (steps : List ℕ) → ring_places (placed_answers o steps) ≡ leaving o.limit (given o steps)

-- the first ring is the highest of the drawer and kind at or below the limit
abbrev pub FirstRing : Type 0
FirstRing =
    (o : Opening) (steps : List ℕ) (r : List ℕ) (more : List (List ℕ)) → given o steps ≡ r ∷ more
    → Highest (λ v. le v o.limit && of_kind o.kind v) (necklaces o.n o.d) r

-- each later ring is the highest of the drawer and kind below the last
abbrev pub NextRing : Type 0
NextRing =
    (o : Opening) (steps : List ℕ) (before : List (List ℕ)) (r s : List ℕ) (more : List (List ℕ)) → given o steps ≡ before ++ (r ∷ s ∷ more)
    → Highest (λ v. lt v r && of_kind o.kind v) (necklaces o.n o.d) s

-- all that may be given: the rings of the drawer and kind at or below the limit, falling
abbrev pub wanted_of : Opening → List (List ℕ)
wanted_of o = wanted o.n o.d (of_kind o.kind) o.limit

-- no ring is given twice, and they fall
abbrev pub NamedFalling : Type 0
NamedFalling = (o : Opening) (steps : List ℕ) → Falling (given o steps)

-- a list of steps that reaches none has named each ring
abbrev pub NamedAll : Type 0
NamedAll = (o : Opening) (steps : List ℕ) → SaysNone (answers o steps) → given o steps ≡ wanted_of o

-- every opening has such a list
abbrev pub ReachesNone : Type 0
ReachesNone = (o : Opening) → (steps : List ℕ) × SaysNone (answers o steps)

-- "A walk from any limit must yield at most that many": the ways to choose d stations of n, whatever the kind and the allowances
abbrev pub Ceiling : Type 0
Ceiling = (o : Opening) (steps : List ℕ) → length (given o steps) ≤ choose o.n o.d

-- what a length says of some answers: they name at most so many rings and, where it is exact, just so many once none is reached
abbrev pub Meets : HowMany → List Told → Type 0
Meets (exactly x) told = (length (named told) ≤ x) × (SaysNone told → length (named told) ≡ x)
Meets (at_most x) told = length (named told) ≤ x

-- "The length must now be exactly the number of rings that the walk opened there yields to its end .. Kind 3 keeps the ceiling", whatever the
-- allowances
abbrev pub LengthMet : Type 0
LengthMet = (o : Opening) (steps : List ℕ) → Meets (drawer_length o.n o.d o.kind o.limit) (answers o steps)

-- "The r-th ring of a walk from n ones .. has seat total + 1 - r", whatever the allowances; of a walk from any limit, with the limit's seat
-- for the total, which is the seat of n ones
abbrev pub SeatsGiven : Type 0
SeatsGiven =
    (o : Opening) (steps : List ℕ) (before : List (List ℕ)) (ring : List ℕ) (more : List (List ℕ)) → given o steps ≡ before ++ (ring ∷ more)
    → let seat = rank o.n o.d o.kind in let r = length before + 1 in seat ring ≡ seat o.limit + 1 - r

-- what a step with this allowance says after these, with its trials; and the trials that the book then owes
abbrev pub next : Opening → List ℕ → ℕ → Told
next o steps a = told_by (step_due rules (handed rules (opened o) steps) a)

abbrev pub owes : Opening → List ℕ → ℕ
owes o steps = owed (listing_left (book_of o) steps)

-- a ring exactly when it is the next of those wanted, and no more trials are owed than allowed
abbrev pub RingNext : Type 0
RingNext =
    (o : Opening) (steps : List ℕ) (a : ℕ) (r : List ℕ)
    → ((next o steps a).said ≡ says (ring r)) ↔ (((more : List (List ℕ)) × (given o steps ++ (r ∷ more) ≡ wanted_of o)) × (owes o steps ≤ a))

-- none exactly when no ring is left, it was not said before, and no more trials are owed than allowed
abbrev pub NoneNext : Type 0
NoneNext =
    (o : Opening) (steps : List ℕ) (a : ℕ)
    → ((next o steps a).said ≡ says none) ↔ ((given o steps ≡ wanted_of o) × (SaysNone (answers o steps) → ⊥) × (owes o steps ≤ a))

-- "None: answered one time": 20 exactly after it
abbrev pub EndedNext : Type 0
EndedNext = (o : Opening) (steps : List ℕ) (a : ℕ) → ((next o steps a).said ≡ refused 20) ↔ SaysNone (answers o steps)

-- 21 exactly when fewer trials are allowed than are owed
abbrev pub SpentNext : Type 0
SpentNext = (o : Opening) (steps : List ℕ) (a : ℕ) → ((next o steps a).said ≡ refused 21) ↔ (a < owes o steps)

-- "More than a owed: .. a trials .. Otherwise .. the trials owed"; nothing is owed after none
abbrev pub TrialsNext : Type 0
TrialsNext = (o : Opening) (steps : List ℕ) (a : ℕ) → (a < owes o steps → (next o steps a).trials ≡ a) × (owes o steps ≤ a → (next o steps a).trials ≡ owes o steps)

-- "A ring, or none, takes the sum of the trials returned since the ring before it, or since the opening, up to and with the step that gives it"
abbrev pub taken : Opening → List ℕ → Listing
taken o steps = totals 0 (answers o steps)

-- that is its price in the book
abbrev pub TakenListed : Type 0
TakenListed = (o : Opening) (steps : List ℕ) → Starts (taken o steps) (book_of o)

-- of walks alike in n, d, kind and limit: the same rings as far as both go, each ring, and none, for the same trials
abbrev pub TakenAlike : Type 0
TakenAlike = (o : Opening) (steps others : List ℕ) → Starts (taken o steps) (taken o others) ⊎ Starts (taken o others) (taken o steps)

-- at most 2 n - 1 trials in kind 1
abbrev pub Kind1Trials : Type 0
Kind1Trials = (o : Opening) (steps : List ℕ) → o.kind ≡ 1 → AtMost (2 * o.n - 1) (taken o steps)

-- at most 4 n - 2 in kind 2
abbrev pub Kind2Trials : Type 0
Kind2Trials = (o : Opening) (steps : List ℕ) → o.kind ≡ 2 → AtMost (4 * o.n - 2) (taken o steps)

-- in every kind, all trials of a walk, whatever the allowances, are fewer than 2 ^ n
abbrev pub AllTrials : Type 0
AllTrials = (o : Opening) (steps : List ℕ) → trials_told (answers o steps) < 2 ^ o.n

-- a step allowed so many is not refused as spent: 4 n - 2, but in kind 3
abbrev pub NeverSpent : Type 0
NeverSpent = (o : Opening) (steps : List ℕ) (a : ℕ) → (o.kind ≡ 3 → ⊥) → 4 * o.n - 2 ≤ a → (next o steps a).said ≡ refused 21 → ⊥

-- and 2 ^ n - 1 in every kind
abbrev pub NeverSpentInAny : Type 0
NeverSpentInAny = (o : Opening) (steps : List ℕ) (a : ℕ) → 2 ^ o.n ≤ a + 1 → (next o steps a).said ≡ refused 21 → ⊥
