-- The drawer program's input: the names, "then one line of values", or the first line that is faulty, missing or too many.
use Rattle.std.specs.Prelude.{Option, Some, None, Result, Ok, Err, cond, not, ◌&&◌, List, [], ◌∷◌, map, ℕ, ◌+◌, eqb, leb, length, drop, take}
use Rattle.words.specs.Tests.{is_prefix}
use Rattle.refusal.specs.Outcomes.{decide, filled}
use Rattle.refusal.specs.Verdicts.{Verdict, accepted, need}
use Rattle.refusal.specs.declared.Refusal.{Refusal}
use Rattle.refusal.specs.declared.Refusal.TheVariants.{Text, Buffer}
use Rattle.text.specs.declared.Bytes.TheVariants.{Unspaced}
use Rattle.text.specs.declared.Numeral.{Numeral}
use Rattle.drawer_input.specs.declared.Values.{Values}
use Rattle.drawer_input.specs.declared.Request.{Request}
use Rattle.text.specs.Parts.{feed, run, spaced_at}
use Rattle.text.specs.Symbols.{symbol_of}

-- `stations holes kind limit` and a line feed
abbrev pub names : List ℕ
names = 115 ∷ 116 ∷ 97 ∷ 116 ∷ 105 ∷ 111 ∷ 110 ∷ 115 ∷ 32 ∷ 104 ∷ 111 ∷ 108 ∷ 101 ∷ 115 ∷ 32 ∷ 107 ∷ 105 ∷ 110 ∷ 100 ∷ 32 ∷ 108 ∷ 105 ∷ 109 ∷ 105 ∷ 116 ∷ 10 ∷ []

-- "256 bytes in all at most"
abbrev pub most_bytes : ℕ
most_bytes = 256

-- ---- the line of values

-- go on behind a number, if there is one
abbrev pub behind : Option Numeral → (ℕ → ℕ → Option Values) → Option Values
behind (Some n) go = go n.value n.next
behind None go = None

-- "The limit is one or more bytes with no space", and its line is "ended by a line feed".
unfoldable pub limit_at : List ℕ → ℕ → ℕ → ℕ → ℕ → Option Values
limit_at s n d kind at =
    let size = length (run Unspaced (drop at s)) in
    cond (not (eqb size 0) && is_prefix (feed ∷ []) (drop (at + size) s)) (Some (record { stations = n; holes = d; kind = kind; start = at; size = size })) None

-- "one line of values, single spaces"
unfoldable pub values_at : List ℕ → ℕ → Option Values
values_at s at = behind (spaced_at s at) (λ n p. behind (spaced_at s p) (λ d q. behind (spaced_at s q) (limit_at s n d)))

-- ---- the whole input

-- what the program is asked
pub record Asked : Type 0 where
  pub stations : ℕ
  pub holes : ℕ
  pub kind : ℕ
  pub limit : List ℕ

-- behind the line of values nothing may follow
abbrev pub input_of : List ℕ → Option Values → Result Asked Refusal
input_of s (Some v) =
    let limit = map symbol_of (take v.size (drop v.start s)) in
    cond (eqb (v.start + v.size + 1) (length s)) (Ok (record { stations = v.stations; holes = v.holes; kind = v.kind; limit = limit })) (Err (Text 3))
input_of s None = Err (Text 2)

-- "Over 256 bytes in all is refusal 10 at line 1. Otherwise 10 names the first line that is faulty, missing or too many."
unfoldable pub read_drawer : List ℕ → Result Asked Refusal
read_drawer s = cond (leb (length s) most_bytes && is_prefix names s) (input_of s (values_at s (length names))) (Err (Text 1))

-- ---- what is answered, where a buffer is lent for the limit

-- the limit is refused where it does not fit
abbrev pub room_verdict : List ℕ → ℕ → Verdict
room_verdict limit room = need (leb (length limit) room) Buffer accepted

-- what was read, for a buffer of that many bytes
abbrev pub request_for : Result Asked Refusal → ℕ → Result Request Refusal
request_for (Ok a) room = decide (room_verdict a.limit room) (record { stations = a.stations; holes = a.holes; kind = a.kind; size = length a.limit })
request_for (Err r) room = Err r

-- the buffer at the end: the limit fills its front
abbrev pub limit_filled : Result Asked Refusal → List ℕ → List ℕ
limit_filled (Ok a) out = filled (room_verdict a.limit (length out)) a.limit out
limit_filled (Err r) out = out
