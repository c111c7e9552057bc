-- The claims on the drawer's book hold.
use mathlib.Core.List.{[], ◌∷◌}
use mathlib.Core.Path.{refl}
use borrow.Author.Tests.{eq-eqb, ne_eqb}
use Rattle.density.specs.Necklaces.{necklaces_below}
use Rattle.listing.proofs.ListingMeaning.{below_none, highest_line, line_highest, none_below}
use Rattle.listing.specs.Claims.{LastLine, LimitLine, NextLine, Price}
use Rattle.listing.specs.Listing.{all_lines, price}

pub limit_line : LimitLine
unfolding all_lines
limit_line n d limit = (λ e. rw e, λ e. rw e)

pub further_line : NextLine
further_line f n d x r = (line_highest f n d x r (necklaces_below n d x) refl, λ h. highest_line f n d x r h (necklaces_below n d x) refl)

pub last_line : LastLine
last_line f n d x = (none_below f n d x (necklaces_below n d x) refl, below_none f n d x)

pub line_price : Price
unfolding price
line_price f [] x r a b h = rw (ne_eqb a b h)
line_price f (c ∷ u) x r a b h = rw (eq-eqb c c refl) (line_price f u x r a b h)
