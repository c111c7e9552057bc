-- Answers that are no ring don't show in the places of the rings.
use mathlib.Core.List.{List, [], ◌∷◌}
use mathlib.Core.Path.{ap, refl, ◌≡◌}
use Prim.Native.Nat.{ℕ}
use Rattle.listing.specs.Listing.{Said, Told, none, refused, ring, says}
use Rattle.listing.specs.Places.{kept_then, leaving, place_from, places_from, ring_place, ring_places}
use Rattle.listing.specs.Totals.{also_said, named}
use Rattle.words.specs.Difference.{first_difference}

pub ring_places_lem : (x : List ℕ) (answers : List Told) → ring_places (places_from x answers) ≡ leaving x (named answers)
unfolding ring_places places_from leaving named
ring_places_lem x [] = refl
ring_places_lem x (t ∷ more) = go t.said (λ y. ring_places_lem y more)
  where
    go : (s : Said) → ((y : List ℕ) → ring_places (places_from y more) ≡ leaving y (named more))
        → ring_place s (place_from x s) (ring_places (places_from (kept_then x s) more)) ≡ leaving x (also_said s (named more))
    go (says (ring r)) ih = ap (λ l. first_difference x r ∷ l) (ih r)
    go (says none) ih = ih x
    go (refused c) ih = ih x
