-- What an operation comes to, in document 01's terms: it is refused, or something is given.
use Rattle.std.specs.Prelude.{List, Result, Ok, Err, ◌≡◌, ℕ}
use Rattle.refusal.specs.Refusals.{number_of, place_of}
use Rattle.refusal.specs.Verdicts.{Verdict, accepted}
use Rattle.refusal.specs.declared.Refusal.{Refusal}
use Rattle.words.specs.Buffers.{fronted}

-- what the verdict refuses, and what is given else
abbrev pub decide : {A : Type 0} → Verdict → A → Result A Refusal
decide accepted a = Ok a
decide (Verdict.refused r) a = Err r

-- "A refusal is a number and a place (0 unless named)": 0 where nothing is refused
abbrev pub number_in : {A : Type 0} → Result A Refusal → ℕ
number_in (Ok a) = 0
number_in (Err r) = number_of r

abbrev pub place_in : {A : Type 0} → Result A Refusal → ℕ
place_in (Ok a) = 0
place_in (Err r) = place_of r

-- "Any other number returned beside it is 0": what is given, and `zero` beside a refusal
abbrev pub value_in : {A : Type 0} → A → Result A Refusal → A
value_in zero (Ok a) = a
value_in zero (Err r) = zero

-- what a refused operation tells: its refusal's number and place, and 0 for all else
abbrev pub RefusedNumbers : Type 1
RefusedNumbers = (A : Type 0) (zero a : A) (r : Refusal) → let o = decide (Verdict.refused r) a in (number_in o ≡ number_of r) × (place_in o ≡ place_of r) × (value_in zero o ≡ zero)

-- and one that is accepted: no refusal, and what it gives
abbrev pub GivenNumbers : Type 1
GivenNumbers = (A : Type 0) (zero a : A) → let o = decide accepted a in (number_in o ≡ 0) × (place_in o ≡ 0) × (value_in zero o ≡ a)

-- a lent buffer at the end: on acceptance the text fills its front; a refusal leaves it as it was
abbrev pub filled : Verdict → List ℕ → List ℕ → List ℕ
filled accepted text out = fronted text out
filled (Verdict.refused r) text out = out
