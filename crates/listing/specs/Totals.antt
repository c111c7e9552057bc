-- What a list of answers names, and what each ring took in all.
use Rattle.std.specs.Prelude.{ℕ, ◌+◌, ◌≤◌, List, [], ◌∷◌}
use Rattle.listing.specs.Listing.{Line, ring, none, Said, says, refused, Told, Listing, over, entry, listing_step}

-- the ring of a line, and those that follow
abbrev pub also : Line → List (List ℕ) → List (List ℕ)
also (ring r) rs = r ∷ rs
also none rs = rs

-- the rings of the answers, in order
abbrev pub also_said : Said → List (List ℕ) → List (List ℕ)
also_said (says l) rs = also l rs
also_said (refused c) rs = rs

unfoldable pub named : List Told → List (List ℕ)
named [] = []
named (t ∷ more) = also_said t.said (named more)

-- those of the lines
unfoldable pub rings_of : Listing → List (List ℕ)
rings_of over = []
rings_of (entry s p rest) = also s (rings_of rest)

-- what is still to come after these steps
unfoldable pub listing_left : Listing → List ℕ → Listing
listing_left l [] = l
listing_left l (a ∷ more) = listing_left (listing_step l a).left more

-- the trials owed to the first of it
abbrev pub owed : Listing → ℕ
owed over = 0
owed (entry s p rest) = p

-- the trials of all of it
unfoldable pub all_trials : Listing → ℕ
all_trials over = 0
all_trials (entry s p rest) = p + all_trials rest

-- the trials of some answers, together
unfoldable pub trials_told : List Told → ℕ
trials_told [] = 0
trials_told (t ∷ more) = t.trials + trials_told more

-- whether "none" is among the answers
pub data SaysNone : List Told → Type 0 where
  now : {t : ℕ} {more : List Told} → SaysNone (record { said = says none; trials = t } ∷ more)
  later : {t : Told} {more : List Told} → SaysNone more → SaysNone (t ∷ more)

-- each ring, and none, with the trials since the one before it; `made` were made before these answers
abbrev pub totalled : Said → ℕ → Listing → Listing → Listing
totalled (says l) t first on = entry l t first
totalled (refused c) t first on = on

unfoldable pub totals : ℕ → List Told → Listing
totals made [] = over
totals made (t ∷ more) = totalled t.said (made + t.trials) (totals 0 more) (totals (made + t.trials) more)

-- a listing is the beginning of another
pub data Starts : Listing → Listing → Type 0 where
  at_once : {l : Listing} → Starts over l
  then : {s : Line} {p : ℕ} {a b : Listing} → Starts a b → Starts (entry s p a) (entry s p b)

-- every price is at most b
pub data AtMost (b : ℕ) : Listing → Type 0 where
  all_over : AtMost b over
  and_then : {s : Line} {p : ℕ} {l : Listing} → p ≤ b → AtMost b l → AtMost b (entry s p l)
