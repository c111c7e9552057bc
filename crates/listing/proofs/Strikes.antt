-- Striking out keeps what a trial and a ring do to a listing, and that it has rings and then none.
use mathlib.Core.Bool.{Bool, false, true}
use mathlib.Core.List.{List, [], ◌∷◌}
use mathlib.Core.Path.{ap, refl, ◌≡◌}
use Prim.Native.Nat.{suc, ℕ, ◌+◌}
use native.Mathlib.Omega.{arith}
use Rattle.density.specs.Necklaces.{is_necklace_of, necklaces_below}
use Rattle.listing.proofs.Prices.{raise_zero}
use Rattle.listing.specs.Listing.{Line, Listing, all_lines, entry, limit_first, lines_from, listing, none, over, raise, ring, strike, struck}
use Rattle.words.proofs.Booleans.{clash}

raise-raise : (p q : ℕ) (l : Listing) → raise (p + q) l ≡ raise p (raise q l)
raise-raise p q over = refl
raise-raise p q (entry s k rest) = ap {B = Listing} (λ t. entry s t rest) (omega arith)

pub strike-raise : (test : List ℕ → Bool) (c : ℕ) (l : Listing) → strike test (raise c l) ≡ raise c (strike test l)
unfolding strike
strike-raise test c over = refl
strike-raise test c (entry (ring r) p rest) = go (test r)
  where
    go : (b : Bool) → struck b r (c + p) (strike test rest) ≡ raise c (struck b r p (strike test rest))
    go true = refl
    go false = raise-raise c p (strike test rest)
strike-raise test c (entry none p rest) = refl

pub strike_kept : (test : List ℕ → Bool) (r : List ℕ) (l : Listing) → test r ≡ true → strike test (entry (ring r) 0 l) ≡ entry (ring r) 0 (strike test l)
unfolding strike
strike_kept test r l e = rw e

pub strike_out : (test : List ℕ → Bool) (r : List ℕ) (l : Listing) → test r ≡ false → strike test (entry (ring r) 0 l) ≡ strike test l
unfolding strike
strike_out test r l e = rw e (raise_zero (strike test l))

-- ---- rings to come, and then none

pub data Closed : Listing → Type 0 where
  last : {p : ℕ} → Closed (entry none p over)
  line : {r : List ℕ} {p : ℕ} {l : Listing} → Closed l → Closed (entry (ring r) p l)

pub lines_closed : (f : Bool) (x : List ℕ) (rs : List (List ℕ)) → Closed (lines_from f x rs)
unfolding lines_from
lines_closed f x [] = last
lines_closed f x (r ∷ rs) = line (lines_closed true r rs)

raise_closed : (c : ℕ) {l : Listing} → Closed l → Closed (raise c l)
raise_closed c last = last
raise_closed c (line h) = line h

pub strike_closed : (test : List ℕ → Bool) {l : Listing} → Closed l → Closed (strike test l)
unfolding strike
strike_closed test last = last
strike_closed test (line {r = r} {p = p} {l = l} h) = go (test r) (strike_closed test h)
  where
    go : (b : Bool) → Closed (strike test l) → Closed (struck b r p (strike test l))
    go true g = line g
    go false g = raise_closed p g

pub all_closed : (n d : ℕ) (limit : List ℕ) → Closed (all_lines n d limit)
unfolding all_lines
all_closed n d limit = go (is_necklace_of d limit)
  where
    go : (b : Bool) → Closed (limit_first b limit (necklaces_below n d limit))
    go true = line (lines_closed true limit (necklaces_below n d limit))
    go false = lines_closed false limit (necklaces_below n d limit)

pub listing_closed : (n d : ℕ) (test : List ℕ → Bool) (limit : List ℕ) → Closed (listing n d test limit)
unfolding listing
listing_closed n d test limit = strike_closed test (all_closed n d limit)

-- the first of it
pub record Coming (l : Listing) : Type 0 where
  pub first : Line
  pub owed : ℕ
  pub rest : Listing
  pub is : l ≡ entry first owed rest

pub coming : {l : Listing} → Closed l → Coming l
coming (last {p = p}) = record { first = none; owed = p; rest = over; is = refl }
coming (line {r = r} {p = p} {l = l} c) = record { first = ring r; owed = p; rest = l; is = refl }

-- what the first of a listing that was raised by a trial was before
pub record Paid (l : Listing) (s : Line) (owed : ℕ) (rest : Listing) : Type 0 where
  pub before : ℕ
  pub is : l ≡ entry s before rest
  pub more : owed ≡ suc before

pub raised : (l : Listing) {s : Line} {o : ℕ} {rest : Listing} → raise 1 l ≡ entry s o rest → Paid l s o rest
raised over e = clash (cc)
raised (entry s' k rest') {s} {o} {rest} e =
    let p : s' ≡ s = cc in
    let q : rest' ≡ rest = cc in
    let h : 1 + k ≡ o = cc in
    record { before = k; is = cc; more = omega arith }
