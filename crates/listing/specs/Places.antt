-- The places that answers carry, worked out from the answers and the limit alone. Nothing here knows of a walk.
use Rattle.std.specs.Prelude.{List, [], ◌∷◌, ℕ}
use Rattle.listing.specs.Listing.{Said, Told, none, refused, ring, says}
use Rattle.words.specs.Difference.{first_difference}

-- the place that an answer carries, measured from the row kept: a ring's first difference from it, and 0 else
abbrev pub place_from : List ℕ → Said → ℕ
place_from kept (says (ring r)) = first_difference kept r
place_from kept (says none) = 0
place_from kept (refused c) = 0

-- The row kept then: a ring "is measured against it and then replaces it". A record has zeros after none; here it is left, since no ring
-- follows none and nothing is measured from it again.
abbrev pub kept_then : List ℕ → Said → List ℕ
kept_then kept (says (ring r)) = r
kept_then kept (says none) = kept
kept_then kept (refused c) = kept

-- an answer with its trials, and its place
pub record Placed : Type 0 where
  pub tells : Told
  pub place : ℕ

abbrev pub placed : Told → ℕ → Placed
placed t p = record { tells = t; place = p }

-- the answers with their places, "measured from the opened limit for the first answer and from the ring before for later ones"
unfoldable pub places_from : List ℕ → List Told → List Placed
places_from kept [] = []
places_from kept (t ∷ more) = placed t (place_from kept t.said) ∷ places_from (kept_then kept t.said) more

-- ---- the rings alone

-- the places of the rings among the answers
abbrev pub ring_place : Said → ℕ → List ℕ → List ℕ
ring_place (says (ring r)) p rest = p ∷ rest
ring_place (says none) p rest = rest
ring_place (refused c) p rest = rest

unfoldable pub ring_places : List Placed → List ℕ
ring_places [] = []
ring_places (a ∷ more) = ring_place a.tells.said a.place (ring_places more)

-- where each of these rows leaves the one before it, the first leaves x
unfoldable pub leaving : List ℕ → List (List ℕ) → List ℕ
leaving x [] = []
leaving x (r ∷ rs) = first_difference x r ∷ leaving r rs
