-- What document 02 claims of how one row fits another, over any alphabet, and of the refusals of that question.
use Rattle.std.specs.Prelude.{false, true, List, reverse, ◌↔◌, ◌⊎◌, ◌≡◌, suc, ℕ, ◌+◌, ◌-◌, ◌/◌, ◌<◌, ◌≤◌, ℤ, nat_abs, negsuc, neg_ℤ, pos, ◌*ℤ◌, ◌+ℤ◌, length}
use Rattle.coated.specs.Answers.{fit_verdict}
use Rattle.coated.specs.Fitting.{Fit, Way, both, different, fit_of, nearest_turn, over, rotation_by, turn_of, turning, turns_to}
use Rattle.refusal.specs.Conditions.{FirstOf, NoStations, no_more, when}
use Rattle.refusal.specs.declared.Refusal.TheVariants.{Limit, Stations, Symbol}
use Rattle.words.specs.Claims.{FirstOther}
use Rattle.words.specs.Reversal.{SameRing, turned_key}
use Rattle.words.specs.Rotation.{IsRotation, least_rotation, period}
use Rattle.words.specs.Symbols.{first_wrong}

-- 1 of the first row, 4, then 3 of the first row and of the second
abbrev pub FitRefusals : Type 0
FitRefusals =
    (a b : List ℕ)
    → FirstOf (when (NoStations (length a)) Stations
    (when (length b ≡ length a → ⊥) Limit
    (when (FirstOther 2 a (first_wrong 2 a)) (Symbol (first_wrong 2 a))
    (when (FirstOther 2 b (first_wrong 2 b)) (Symbol (first_wrong 2 b)) no_more))))
    (fit_verdict a b)

-- ---- the signed turn

-- "s mod n": below n, and s is so much above a multiple of n
abbrev pub SignedTurn : Type 0
SignedTurn = (n : ℕ) (s : ℤ) → 0 < n → (turn_of n s < n) × ((q : ℤ) × (s ≡ (q *ℤ pos n) +ℤ pos (turn_of n s)))

-- turned by s, a is b; no turn that does the same, of all integers, is nearer to zero; and s is below zero only where
-- its opposite does not
pub record Nearest (a b : List ℕ) (s : ℤ) : Type 0 where
  pub gives : rotation_by s a ≡ b
  pub nearest : (t : ℤ) → rotation_by t a ≡ b → nat_abs s ≤ nat_abs t
  pub positive : (k : ℕ) → s ≡ negsuc k → rotation_by (pos (suc k)) a ≡ b → ⊥

-- "The nearest to zero, and the positive one where two are equally near": wherever there is one, and there is no other
abbrev pub NearestTurn : Type 0
NearestTurn =
    (a b : List ℕ) → IsRotation a b
    → Nearest a b (nearest_turn a b) × ((s : ℤ) → Nearest a b s → s ≡ nearest_turn a b)

-- it is 0 exactly for equal rows
abbrev pub TurnZero : Type 0
TurnZero = (a b : List ℕ) → IsRotation a b → (nearest_turn a b ≡ pos 0) ↔ (a ≡ b)

-- from the second row to the first it is the opposite, or the same where the opposite takes the first to the second too
abbrev pub TurnBack : Type 0
TurnBack =
    (a b : List ℕ) → IsRotation a b → let s = nearest_turn a b in
    (turns_to a b (neg_ℤ s) ≡ false → nearest_turn b a ≡ neg_ℤ s) × (turns_to a b (neg_ℤ s) ≡ true → nearest_turn b a ≡ s)

-- that is so for equal rows and for half the period, which is half a turn where the row has no symmetry
abbrev pub TurnTied : Type 0
TurnTied =
    (a b : List ℕ) → IsRotation a b → let k = nat_abs (nearest_turn a b) in
    (turns_to a b (neg_ℤ (nearest_turn a b)) ≡ true) ↔ ((k ≡ 0) ⊎ (k + k ≡ period a))

-- turned over and then turned, it is the same from the second row to the first
abbrev pub OverBack : Type 0
OverBack = (a b : List ℕ) → IsRotation (reverse a) b → nearest_turn (reverse b) a ≡ nearest_turn (reverse a) b

-- ---- the four answers

-- what each answer says: a turn of the row is the other or none is, and so of its reverse; s is the nearest.
-- "'Different' carries 0."
abbrev pub FitsAs : List ℕ → List ℕ → Way → ℤ → Type 0
FitsAs a b different s = (IsRotation a b → ⊥) × (IsRotation (reverse a) b → ⊥) × (s ≡ pos 0)
FitsAs a b turning s = Nearest a b s × (IsRotation (reverse a) b → ⊥)
FitsAs a b over s = (IsRotation a b → ⊥) × Nearest (reverse a) b s
FitsAs a b both s = Nearest a b s × IsRotation (reverse a) b

-- the answer fits, and no other does
abbrev pub FitsExactly : Type 0
FitsExactly = (a b : List ℕ) → 0 < length a → (f : Fit) → FitsAs a b f.way f.turn ↔ (f ≡ fit_of a b)

-- "n stations allow -floor((n-1)/2) to floor(n/2)"
abbrev pub Allowed : ℕ → ℤ → Type 0
Allowed n (pos k) = k ≤ n / 2
Allowed n (negsuc k) = suc k ≤ (n - 1) / 2

abbrev pub TurnAllowed : Type 0
TurnAllowed = (a b : List ℕ) → Allowed (length a) (fit_of a b).turn

-- M-140's "one ring, turning over allowed, yes or no": no is "different", and yes the other three
abbrev pub OneRingExactly : Type 0
OneRingExactly = (a b : List ℕ) → ((fit_of a b).way ≡ different → ⊥) ↔ SameRing a b

-- "different" exactly where the turned-over keys differ
abbrev pub DifferentExactly : Type 0
DifferentExactly =
    (a b : List ℕ) → 0 < length a → 0 < length b → ((fit_of a b).way ≡ different) ↔ (turned_key a ≡ turned_key b → ⊥)

-- by turning, only or both, exactly where the keys are equal
abbrev pub TurningExactly : Type 0
TurningExactly =
    (a b : List ℕ) → 0 < length a → 0 < length b
    → (((fit_of a b).way ≡ turning) ⊎ ((fit_of a b).way ≡ both)) ↔ (least_rotation a ≡ least_rotation b)

-- by turning over, only or both, exactly where the reverse has the second row's key
abbrev pub OverExactly : Type 0
OverExactly =
    (a b : List ℕ) → 0 < length a → 0 < length b
    → (((fit_of a b).way ≡ over) ⊎ ((fit_of a b).way ≡ both)) ↔ (least_rotation (reverse a) ≡ least_rotation b)

-- the way is the same from the second row to the first
abbrev pub SameWay : Type 0
SameWay = (a b : List ℕ) → (fit_of b a).way ≡ (fit_of a b).way
