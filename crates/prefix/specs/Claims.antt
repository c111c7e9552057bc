-- What document 01 claims of the prefix question.
use Rattle.std.specs.Prelude.{false, true, ◌↔◌, ◌≡◌, ℕ, ◌+◌, ◌<◌, ◌≤◌, length}
use mathlib.Core.List.{List, Memᴰ, [], ◌++◌}
use Rattle.density.specs.Density.{density}
use Rattle.density.specs.Necklaces.{begins, necklaces}
use Rattle.prefix.specs.Question.{question_verdict}
use Rattle.refusal.specs.Conditions.{FirstOf, NoStations, no_more, when}
use Rattle.refusal.specs.declared.Refusal.TheVariants.{Holes, Prefix, Stations, Symbol}
use Rattle.words.specs.Claims.{FirstOther}
use Rattle.words.specs.Symbols.{first_wrong}

-- "Orders. .. Prefix: 1, 2, 6, 3. .. Each number is returned only under its condition."
abbrev pub QuestionRefusals : Type 0
QuestionRefusals =
    (n d : ℕ) (p : List ℕ)
    → FirstOf (when (NoStations n) Stations (when (n < d) Holes (when (n < length p) Prefix (when (FirstOther 2 p (first_wrong 2 p)) (Symbol (first_wrong 2 p)) no_more))))
    (question_verdict n d p)

-- "Does some kind 1 ring of the drawer begin so?"
abbrev pub Begins : Type 0
Begins = (n d : ℕ) (p : List ℕ) → (begins n d p ≡ true) ↔ ((z : List ℕ) × Memᴰ (p ++ z) (necklaces n d))

-- "An empty prefix: yes."
abbrev pub EmptyPrefix : Type 0
EmptyPrefix = (n d : ℕ) → 1 ≤ n → d ≤ n → begins n d [] ≡ true

-- "Too many .. holes: no."
abbrev pub TooManyHoles : Type 0
TooManyHoles = (n d : ℕ) (p : List ℕ) → d < density p → begins n d p ≡ false

-- "Too .. few holes: no.": not enough, even if all symbols to come are holes
abbrev pub TooFewHoles : Type 0
TooFewHoles = (n d : ℕ) (p : List ℕ) → density p + n < d + length p → begins n d p ≡ false
