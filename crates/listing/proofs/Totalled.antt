-- What each ring took in all doesn't depend on how the allowances are cut: it is its price in the book.
use mathlib.Core.Bool.{Bool, false, true}
use mathlib.Core.List.{List, [], ◌∷◌}
use mathlib.Core.Logic.{inl, inr, ◌⊎◌}
use mathlib.Core.Path.{refl, ◌≡◌}
use Prim.Native.Nat.{ℕ, ◌+◌, ◌-◌}
use native.Mathlib.Omega.{arith}
use lib.Dec.{ltb}
use borrow.Author.Tests.{ltb-true}
use Rattle.listing.proofs.Prices.{raise_zero}
use Rattle.listing.proofs.Strikes.{Closed, last, line}
use Rattle.listing.specs.Listing.{Line, Listing, entry, listing_answers, listing_step, none, over, pay, raise, ring}
use Rattle.listing.specs.Totals.{Starts, at_once, then, totals}

over_totals : (allowances : List ℕ) (made : ℕ) → Starts (totals made (listing_answers over allowances)) over
unfolding totals listing_answers listing_step
over_totals [] made = at_once
over_totals (a ∷ more) made = over_totals more (made + 0)

pub listing-totals : (allowances : List ℕ) (made : ℕ) (l : Listing) → Closed l → Starts (totals made (listing_answers l allowances)) (raise made l)
unfolding totals listing_answers listing_step
listing-totals [] made l c = at_once
listing-totals (a ∷ more) made over c = elim c [ ]
listing-totals (a ∷ more) made (entry none p (entry _ _ _)) c = elim c [ ]
listing-totals (a ∷ more) made (entry none p over) last = go (ltb a p) refl (listing-totals more (made + a) (entry none (p - a) over) last)
  where
    go : (b : Bool) → ltb a p ≡ b → Starts (totals (made + a) (listing_answers (entry none (p - a) over) more)) (entry none (made + a + (p - a)) over)
        → Starts (totals made ((pay b none p over a).tells ∷ listing_answers (pay b none p over a).left more)) (entry none (made + p) over)
    go true e ih = let m : made + a + (p - a) ≡ made + p = omega (arith, ltb-true a p e) in rw m at ih
    go false e ih = then (over_totals more 0)
listing-totals (a ∷ more) made (entry (ring r) p l) (line c) =
    go (ltb a p) refl (listing-totals more (made + a) (entry (ring r) (p - a) l) (line c)) (listing-totals more 0 l c)
  where
    go : (b : Bool) → ltb a p ≡ b → Starts (totals (made + a) (listing_answers (entry (ring r) (p - a) l) more)) (entry (ring r) (made + a + (p - a)) l)
        → Starts (totals 0 (listing_answers l more)) (raise 0 l)
        → Starts (totals made ((pay b (ring r) p l a).tells ∷ listing_answers (pay b (ring r) p l a).left more)) (entry (ring r) (made + p) l)
    go true e one all = let m : made + a + (p - a) ≡ made + p = omega (arith, ltb-true a p e) in rw m at one
    go false e one all = then (rw raise_zero at all)

-- of two beginnings of a book one begins the other
pub starts_alike : {a b l : Listing} → Starts a l → Starts b l → Starts a b ⊎ Starts b a
starts_alike at_once k = inl at_once
starts_alike (then h) at_once = inr at_once
starts_alike (then h) (then k) = go (starts_alike h k)
  where
    go : {s : Line} {p : ℕ} {a b : Listing} → Starts a b ⊎ Starts b a → Starts (entry s p a) (entry s p b) ⊎ Starts (entry s p b) (entry s p a)
    go (inl h) = inl (then h)
    go (inr h) = inr (then h)
