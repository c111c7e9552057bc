-- What document 01 claims of rows, over any alphabet.
use Rattle.std.specs.Prelude.{true, List, reverse, ◌++◌, ◌∷◌, ◌↔◌, ◌⊎◌, ◌≡◌, ℕ, suc, ◌+◌, ◌-◌, ◌*◌, ◌/◌, ◌%◌, ◌≤◌, ◌<◌, length, get_or, take}
use Rattle.words.specs.Difference.{first_difference}
use Rattle.words.specs.Order.{cmp, le, lt, order_of, same}
use Rattle.words.specs.Pairs.{pairs, shorter_length}
use Rattle.words.specs.Reversal.{SameRing, turned_key}
use Rattle.words.specs.Rotation.{IsRotation, is_lyndon, is_necklace, least_index, least_rotation, period, rotation}
use Rattle.words.specs.Symbols.{Within, first_wrong}
use Rattle.std.specs.declared.cmp.Ordering.TheVariants.{Equal, Greater, Less}

-- ---- the order of rows

-- behind symbols that both begin with, a has the lower one
pub record LowerSymbol (a b : List ℕ) : Type 0 where
  pub front : List ℕ
  pub x : ℕ
  pub y : ℕ
  pub xs : List ℕ
  pub ys : List ℕ
  pub of_a : a ≡ front ++ (x ∷ xs)
  pub of_b : b ≡ front ++ (y ∷ ys)
  pub lower : x < y

-- "Dictionary order; a proper beginning of a row is the lower of the two"
abbrev pub LiesBelow : List ℕ → List ℕ → Type 0
LiesBelow a b = ((y : ℕ) × (ys : List ℕ) × (b ≡ a ++ (y ∷ ys))) ⊎ LowerSymbol a b

-- the three answers of the comparison
abbrev pub DictionaryOrder : Type 0
DictionaryOrder =
    (a b : List ℕ) → let order = order_of (cmp a b) in
    ((order ≡ Less) ↔ LiesBelow a b) × ((order ≡ Equal) ↔ (a ≡ b)) × ((order ≡ Greater) ↔ LiesBelow b a)

-- below, at or below, the same: the tests that other definitions use
abbrev pub OrderTests : Type 0
OrderTests =
    (a b : List ℕ)
    → ((lt a b ≡ true) ↔ LiesBelow a b) × ((le a b ≡ true) ↔ (LiesBelow a b ⊎ (a ≡ b))) × ((same a b ≡ true) ↔ (a ≡ b))

-- ---- turns

-- Turn j "reads from place j+1 to the end, then places 1 to j".
abbrev pub TurnReads : Type 0
TurnReads = (u v : List ℕ) → rotation (length u) (u ++ v) ≡ v ++ u

-- "Shelved: at or below all its turns"
abbrev pub Shelved : Type 0
Shelved = (w : List ℕ) → (is_necklace w ≡ true) ↔ ((j : ℕ) → j < length w → le w (rotation j w) ≡ true)

-- "Without symmetry: strictly below its turns 1 to n-1"
abbrev pub WithoutSymmetry : Type 0
WithoutSymmetry = (w : List ℕ) → 0 < length w → (is_lyndon w ≡ true) ↔ ((j : ℕ) → 1 ≤ j → j < length w → lt w (rotation j w) ≡ true)

-- "Period: the smallest p from 1 to n whose turn gives the row back"
abbrev pub SmallestPeriod : Type 0
SmallestPeriod =
    (w : List ℕ) → 0 < length w
    → (1 ≤ period w) × (period w ≤ length w) × (rotation (period w) w ≡ w) × ((p : ℕ) → 1 ≤ p → p < period w → rotation p w ≡ w → ⊥)

-- without symmetry is shelved with period n
abbrev pub SymmetryByPeriod : Type 0
SymmetryByPeriod = (w : List ℕ) → 0 < length w → (is_lyndon w ≡ true) ↔ ((is_necklace w ≡ true) × (period w ≡ length w))

-- "Key of a row: writes the least turn"
abbrev pub LeastTurn : Type 0
LeastTurn = (w : List ℕ) (j : ℕ) → j < length w → le (least_rotation w) (rotation j w) ≡ true

-- "returns the smallest j that gives it"
abbrev pub SmallestTurn : Type 0
SmallestTurn =
    (w : List ℕ) → 0 < length w
    → (least_index w < length w) × (rotation (least_index w) w ≡ least_rotation w) × ((j : ℕ) → j < least_index w → rotation j w ≡ least_rotation w → ⊥)

-- the key is shelved
abbrev pub KeyShelved : Type 0
KeyShelved = (w : List ℕ) → 0 < length w → is_necklace (least_rotation w) ≡ true

-- one ring, one key: rows have the same key exactly when one is a turn of the other
abbrev pub OneKey : Type 0
OneKey = (v w : List ℕ) → 0 < length v → 0 < length w → (least_rotation v ≡ least_rotation w) ↔ IsRotation w v

-- ---- turning over

-- reversing twice gives the row back
abbrev pub ReversedTwice : Type 0
ReversedTwice = (w : List ℕ) → reverse (reverse w) ≡ w

-- the turns of the reverse are the reverses of the turns
abbrev pub TurnsReversed : Type 0
TurnsReversed = (w : List ℕ) (j : ℕ) → j ≤ length w → rotation j (reverse w) ≡ reverse (rotation (length w - j) w)

-- "The least of the n turns of a row and the n turns of its reverse": it is one of them, and none lies below it
abbrev pub LeastTurned : Type 0
LeastTurned = (w : List ℕ) → 0 < length w → SameRing w (turned_key w) × ((v : List ℕ) → SameRing w v → le (turned_key w) v ≡ true)

-- it is shelved
abbrev pub TurnedShelved : Type 0
TurnedShelved = (w : List ℕ) → 0 < length w → is_necklace (turned_key w) ≡ true

-- one ring, one turned-over key: two rows have the same one exactly when one is a turn of the other or of its reverse
abbrev pub OneTurnedKey : Type 0
OneTurnedKey = (v w : List ℕ) → 0 < length v → 0 < length w → (turned_key v ≡ turned_key w) ↔ SameRing w v

-- ---- symbols

-- p is the place of the first symbol that is so; before it stand so many
pub record FirstSo (So : ℕ → Type 0) (w : List ℕ) (p : ℕ) : Type 0 where
  pub before : ℕ
  pub place : p ≡ suc before
  pub inside : before < length w
  pub here : So (get_or w before 0)
  pub first : (i : ℕ) → i < before → So (get_or w i 0) → ⊥

-- the first that is none of an alphabet of k
abbrev pub FirstOther : ℕ → List ℕ → ℕ → Type 0
FirstOther k w p = FirstSo (λ x. k ≤ x) w p

-- "A byte other than 0 or 1; place of the first", which is 0 where there is none.
abbrev pub PlaceOfFirst : Type 0
PlaceOfFirst = (k : ℕ) (w : List ℕ) → (Within k w × (first_wrong k w ≡ 0)) ⊎ FirstOther k w (first_wrong k w)

-- ---- the first difference

-- after i symbols of each, two rows differ, or one of them has ended
abbrev pub Apart : List ℕ → List ℕ → ℕ → Type 0
Apart a b i =
    ((i < length a) × (i < length b) × (get_or a i 0 ≡ get_or b i 0 → ⊥))
    ⊎ (((length a ≡ i) × (i < length b)) ⊎ ((length b ≡ i) × (i < length a)))

-- p is the place where they first do: the symbols before it agree, so many of each
pub record FirstApart (a b : List ℕ) (p : ℕ) : Type 0 where
  pub before : ℕ
  pub place : p ≡ suc before
  pub agree : take before a ≡ take before b
  pub apart : Apart a b before

-- "that place (0 if equal)": 0 exactly for equal rows
abbrev pub NoDifference : Type 0
NoDifference = (a b : List ℕ) → (first_difference a b ≡ 0) ↔ (a ≡ b)

-- it is the same both ways
abbrev pub DifferenceBothWays : Type 0
DifferenceBothWays = (a b : List ℕ) → first_difference a b ≡ first_difference b a

-- the symbols before it agree; at it they differ, or one row has ended, "the place just after the shorter"
abbrev pub DifferencePlace : Type 0
DifferencePlace = (a b : List ℕ) → (a ≡ b → ⊥) → FirstApart a b (first_difference a b)

-- and there is no other such place
abbrev pub OnePlace : Type 0
OnePlace = (a b : List ℕ) (p : ℕ) → FirstApart a b p → first_difference a b ≡ p

-- ---- the pairs compared, by the place where the rows first differ, behind i symbols

-- in a word: "the words up to the first unequal pair"
abbrev pub WordPairs : Type 0
WordPairs = (a b : List ℕ) (i : ℕ) → first_difference a b ≡ suc i → i < shorter_length a b / 8 * 8 → pairs a b ≡ suc (i / 8)

-- behind the words: "or, with none, all of them and the remaining bytes up to the first unequal pair"
abbrev pub BytePairs : Type 0
BytePairs =
    (a b : List ℕ) (i : ℕ) → first_difference a b ≡ suc i → shorter_length a b / 8 * 8 ≤ i → i < shorter_length a b
    → pairs a b ≡ shorter_length a b / 8 + suc (i % 8)

-- nowhere over the shorter length: all words and all remaining bytes
abbrev pub AllPairs : Type 0
AllPairs = (a b : List ℕ) → take (shorter_length a b) a ≡ take (shorter_length a b) b → pairs a b ≡ shorter_length a b / 8 + shorter_length a b % 8
