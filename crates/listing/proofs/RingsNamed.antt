-- The rings of a book are those of its kind at or below the limit, falling.
use mathlib.Core.Bool.{Bool, cond, false, true}
use mathlib.Core.List.{List, [], ◌∷◌}
use mathlib.Core.Path.{ap, refl, sym, ◌∙◌, ◌≡◌}
use Prim.Native.Nat.{ℕ}
use lib.ListN.{length}
use Rattle.density.proofs.Binary.{Binary}
use Rattle.density.proofs.Members.{necklaces_falling, test_member, →member}
use Rattle.density.proofs.RowsBelow.{not_itself}
use Rattle.density.specs.Necklaces.{is_necklace_of, necklaces, necklaces_below, necklaces_up_to, wanted}
use Rattle.listing.proofs.Strikes.{Closed, all_closed, last, line}
use Rattle.listing.specs.Listing.{Line, Listing, all_lines, entry, limit_first, lines_from, listing, none, over, raise, refused, ring, says, strike, struck}
use Rattle.listing.specs.Totals.{rings_of}
use Rattle.words.proofs.Falling.{at_or_below}
use Rattle.words.proofs.Lists.{keep-keep}
use Rattle.words.specs.Order.{le, lt}
use Rattle.words.specs.Tests.{keep}
use Rattle.words.proofs.Booleans.{clash}

-- ---- the rings of a book

rings_lines : (f : Bool) (x : List ℕ) (rs : List (List ℕ)) → rings_of (lines_from f x rs) ≡ rs
unfolding lines_from rings_of
rings_lines f x [] = refl
rings_lines f x (r ∷ rs) = ap {B = List (List ℕ)} (λ t. r ∷ t) (rings_lines true r rs)

rings_raise : (c : ℕ) (l : Listing) → rings_of (raise c l) ≡ rings_of l
unfolding rings_of
rings_raise c over = refl
rings_raise c (entry s p l) = refl

rings_strike : (test : List ℕ → Bool) {l : Listing} → Closed l → rings_of (strike test l) ≡ keep test (rings_of l)
unfolding strike rings_of keep
rings_strike test last = refl
rings_strike test (line {r = r} {p = p} {l = l} h) = go (test r) (rings_strike test h)
  where
    go : (b : Bool) → rings_of (strike test l) ≡ keep test (rings_of l) → rings_of (struck b r p (strike test l)) ≡ cond b (r ∷ keep test (rings_of l)) (keep test (rings_of l))
    go true e = ap {B = List (List ℕ)} (λ t. r ∷ t) e
    go false e = rings_raise p (strike test l) ∙ e

-- the lines are the rows of the drawer at or below the limit
pub rings_all : (n d : ℕ) (limit : List ℕ) → length limit ≡ n → Binary limit → rings_of (all_lines n d limit) ≡ necklaces_up_to n d limit
unfolding all_lines necklaces_below necklaces_up_to rings_of
rings_all n d limit l b = lines (is_necklace_of d limit) refl
  where
    lower : List (List ℕ)
    lower = keep (λ r. lt r limit) (necklaces n d)

    lines : (t : Bool) → is_necklace_of d limit ≡ t → rings_of (limit_first t limit lower) ≡ necklaces_up_to n d limit
    lines true e = ap {B = List (List ℕ)} (λ t. limit ∷ t) (rings_lines true limit lower) ∙ sym (at_or_below limit (necklaces_falling n d) (→member (test_member l b e)))
    lines false e = rings_lines false limit lower ∙ not_itself n d limit e

pub rings_listing : (n d : ℕ) (test : List ℕ → Bool) (limit : List ℕ) → length limit ≡ n → Binary limit → rings_of (listing n d test limit) ≡ wanted n d test limit
unfolding listing necklaces_up_to
rings_listing n d test limit l b =
    rings_strike test (all_closed n d limit) ∙ ap (keep test) (rings_all n d limit l b) ∙ keep-keep (λ r. le r limit) test (necklaces n d)

-- ---- what is said apart

pub ring≢none : {r : List ℕ} → says (ring r) ≡ says none → ⊥
ring≢none e = clash (cc)

pub refused≢line : {c : ℕ} {l : Line} → refused c ≡ says l → ⊥
refused≢line e = clash (cc)
