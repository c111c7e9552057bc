-- "The drawer's book", from n, d, the kind and the limit by the definitions alone. Nothing here knows of a walk.
use Rattle.std.specs.Prelude.{Bool, true, false, cond, List, [], ◌∷◌, ℕ, ◌+◌, ◌-◌, length, eqb, ltb}
use Rattle.density.specs.Density.{density}
use Rattle.density.specs.Necklaces.{is_necklace_of, necklaces_below, of_kind}

-- a line of the book: a ring, or none
pub data Line : Type 0 where
  ring : List ℕ → Line
  none : Line

-- what is still to come, each with its price; of the first, the trials owed
pub data Listing : Type 0 where
  over : Listing
  entry : Line → ℕ → Listing → Listing

-- ---- lines and prices

-- all symbols but the last
unfoldable pub front : List ℕ → List ℕ
front [] = []
front (x ∷ []) = []
front (x ∷ (y ∷ ys)) = x ∷ front (y ∷ ys)

-- the holes of x. "Where x is a line, a hole at its place n isn't counted."
abbrev pub counted : Bool → List ℕ → ℕ
counted true x = density (front x)
counted false x = density x

-- "If it first differs from x at place p, its price is the holes of x at places p to n, plus n - p."
unfoldable pub price : Bool → List ℕ → List ℕ → ℕ
price is_line [] r = 0
price is_line (a ∷ x) [] = 0
price is_line (a ∷ x) (b ∷ r) = cond (eqb a b) (price is_line x r) (counted is_line (a ∷ x) + length r)

-- these lines, the first looked for from x (is x itself a line?); then "none", "at the price of all holes of x"
unfoldable pub lines_from : Bool → List ℕ → List (List ℕ) → Listing
lines_from is_line x [] = entry none (counted is_line x) over
lines_from is_line x (r ∷ rs) = entry (ring r) (price is_line x r) (lines_from true r rs)

-- all lines below x (is x itself a line?)
abbrev pub lines_below : Bool → ℕ → ℕ → List ℕ → Listing
lines_below is_line n d x = lines_from is_line x (necklaces_below n d x)

-- "If the limit is a kind 1 row of the drawer, it is the first line, at price 0."
abbrev pub limit_first : Bool → List ℕ → List (List ℕ) → Listing
limit_first true x rs = entry (ring x) 0 (lines_from true x rs)
limit_first false x rs = lines_from false x rs

unfoldable pub all_lines : ℕ → ℕ → List ℕ → Listing
all_lines n d limit = limit_first (is_necklace_of d limit) limit (necklaces_below n d limit)

-- ---- "Last, lines not of the asked kind are struck out and their price is added to what follows them."

-- add to the first price
abbrev pub raise : ℕ → Listing → Listing
raise p over = over
raise p (entry s k rest) = entry s (p + k) rest

abbrev pub struck : Bool → List ℕ → ℕ → Listing → Listing
struck true r p rest = entry (ring r) p rest
struck false r p rest = raise p rest

unfoldable pub strike : (List ℕ → Bool) → Listing → Listing
strike test over = over
strike test (entry (ring r) p rest) = struck (test r) r p (strike test rest)
strike test (entry none p rest) = entry none p (strike test rest)

-- the book, of the rows that pass a test of their kind
unfoldable pub listing : ℕ → ℕ → (List ℕ → Bool) → List ℕ → Listing
listing n d test limit = strike test (all_lines n d limit)

-- that of a kind
abbrev pub book : ℕ → ℕ → ℕ → List ℕ → Listing
book n d kind limit = listing n d (of_kind kind) limit

-- ---- its steps

-- what a step says: a line, or a refusal by its number
pub data Said : Type 0 where
  says : Line → Said
  refused : ℕ → Said

-- an answer and its trials
pub record Told : Type 0 where
  pub said : Said
  pub trials : ℕ

abbrev pub told : Said → ℕ → Told
told s t = record { said = s; trials = t }

-- an answer, and what is still to come
pub record Listed : Type 0 where
  pub tells : Told
  pub left : Listing

abbrev pub listed : Said → ℕ → Listing → Listed
listed s t l = record { tells = told s t; left = l }

-- "More than a owed: 21, a trials, and a less is owed. Otherwise: that line or none, with the trials owed."
abbrev pub pay : Bool → Line → ℕ → Listing → ℕ → Listed
pay true s owed rest a = listed (refused 21) a (entry s (owed - a) rest)
pay false s owed rest a = listed (says s) owed rest

-- "Nothing to come: 20, 0 trials, no change."
unfoldable pub listing_step : Listing → ℕ → Listed
listing_step over a = listed (refused 20) 0 over
listing_step (entry s owed rest) a = pay (ltb a owed) s owed rest a

-- the answers to a list of allowances
unfoldable pub listing_answers : Listing → List ℕ → List Told
listing_answers l [] = []
listing_answers l (a ∷ more) = let b = listing_step l a in b.tells ∷ listing_answers b.left more
