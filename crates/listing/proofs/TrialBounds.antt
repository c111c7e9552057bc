-- Before lines are struck out, a price is at most 2 n - 1. With no two neighbours struck out, it is at most twice that.
use mathlib.Core.Bool.{Bool, cond, false, true, true≢false, ◌||◌}
use mathlib.Core.List.{List, Memᴰ, [], append_assoc, ◌++◌, ◌∷◌}
use mathlib.Core.Path.{ap, refl, sym, ◌∙◌, ◌≡◌}
use Prim.Native.Nat.{suc, ℕ, ◌*◌, ◌+◌, ◌-◌, ◌≤◌}
use native.Mathlib.Omega.{arith}
use lib.Dec.{eqb}
use lib.ListN.{length}
use Rattle.density.proofs.Binary.{Binary, within_binary}
use Rattle.density.proofs.Counts.{density_few}
use Rattle.density.proofs.Members.{member→, necklaces_falling}
use Rattle.density.proofs.Neighbours.{neighbours_test}
use Rattle.density.specs.Necklaces.{is_necklace_of, necklaces, necklaces_below, necklaces_up_to, of_kind}
use Rattle.listing.proofs.RingsNamed.{rings_all}
use Rattle.listing.proofs.Strikes.{Closed, all_closed, last, line}
use Rattle.listing.specs.Claims.{Kind1Prices, Kind2Prices}
use Rattle.listing.specs.Listing.{Listing, all_lines, counted, entry, front, limit_first, lines_from, listing, none, over, price, raise, ring, strike, struck}
use Rattle.listing.specs.Totals.{AtMost, Starts, all_over, and_then, at_once, owed, rings_of, then}
use Rattle.words.proofs.Falling.{ends_below}
use Rattle.words.proofs.Lists.{keep→}
use Rattle.words.specs.Order.{lt}
use Rattle.words.specs.Rotation.{is_lyndon}
use Rattle.words.specs.Tests.{keep}

front_few : (x : List ℕ) → length (front x) ≤ length x
unfolding front
front_few [] = omega arith
front_few (a ∷ []) = omega arith
front_few (a ∷ (b ∷ x)) = omega (arith, front_few (b ∷ x))

pub counted_few : (l : Bool) (x : List ℕ) → counted l x ≤ length x
counted_few true x = omega (arith, density_few (front x), front_few x)
counted_few false x = density_few x

pub price_few : (l : Bool) (x r : List ℕ) → length x ≡ length r → price l x r ≤ 2 * length x - 1
unfolding price
price_few l [] r e = omega arith
price_few l (a ∷ x) [] e = omega arith
price_few l (a ∷ x) (b ∷ r) e = go (eqb a b) (price_few l x r (omega arith))
  where
    go : (t : Bool) → price l x r ≤ 2 * length x - 1 → cond t (price l x r) (counted l (a ∷ x) + length r) ≤ 2 * suc (length x) - 1
    go true h = omega arith
    go false h = omega (arith, counted_few l (a ∷ x))

lines_few : (n : ℕ) → 1 ≤ n → (l : Bool) (x : List ℕ) (rs : List (List ℕ)) → length x ≡ n → ((r : List ℕ) → Memᴰ r rs → length r ≡ n) → AtMost (2 * n - 1) (lines_from l x rs)
unfolding lines_from
lines_few n s l x [] e h = and_then {p = counted l x} (omega (arith, counted_few l x)) all_over
lines_few n s l x (r ∷ rs) e h =
    let k = h r (Memᴰ.head refl) in
    and_then {p = price l x r} (omega (arith, price_few l x r (e ∙ sym k))) (lines_few n s true r rs k (λ v m. h v (Memᴰ.tail m)))

pub prices_few : (n d : ℕ) (limit : List ℕ) → 1 ≤ n → length limit ≡ n → AtMost (2 * n - 1) (all_lines n d limit)
unfolding all_lines necklaces_below
prices_few n d limit s e = go (is_necklace_of d limit)
  where
    long : (r : List ℕ) → Memᴰ r (keep (λ r. lt r limit) (necklaces n d)) → length r ≡ n
    long r m = (member→ n d r (keep→ (λ r. lt r limit) r (necklaces n d) m).0).long

    go : (b : Bool) → AtMost (2 * n - 1) (limit_first b limit (keep (λ r. lt r limit) (necklaces n d)))
    go true = and_then {p = 0} (omega arith) (lines_few n s true limit _ e long)
    go false = lines_few n s false limit _ e long

-- ---- striking out

-- nothing is struck out where every row passes
pub strike-nothing : (test : List ℕ → Bool) → ((r : List ℕ) → test r ≡ true) → {l : Listing} → Closed l → strike test l ≡ l
unfolding strike
strike-nothing test h last = refl
strike-nothing test h (line {r = r} {p = p} c) = rw (h r, strike-nothing test h c)

-- of two neighbours one passes
abbrev pub Spaced : (List ℕ → Bool) → List (List ℕ) → Type 0
Spaced test rows = (l : List (List ℕ)) (b a : List ℕ) (r : List (List ℕ)) → rows ≡ l ++ (b ∷ a ∷ r) → (test b || test a) ≡ true

spaced_tail : (test : List ℕ → Bool) (pre : List (List ℕ)) {rows : List (List ℕ)} → Spaced test (pre ++ rows) → Spaced test rows
spaced_tail test pre s l b a r e = s (pre ++ l) b a r (ap {B = List (List ℕ)} (λ t. pre ++ t) e ∙ sym (append_assoc pre l (b ∷ a ∷ r)))

module _ (test : List ℕ → Bool) (b : ℕ) where
  -- the first line is not struck out
  abbrev stays : Listing → Bool
  stays over = true
  stays (entry (ring r) p l) = test r
  stays (entry none p l) = true

  -- the line after one that is struck out
  next_stays : {r : List ℕ} {l : Listing} → Closed l → Spaced test (r ∷ rings_of l) → test r ≡ false → stays l ≡ true
  unfolding rings_of
  next_stays last s e = refl
  next_stays {r} (line {r = q} {l = l} c) s e = rw e at (s [] r q (rings_of l) refl)

  raise_few : {p : ℕ} {l : Listing} → p ≤ b → owed l ≤ b → AtMost (b + b) l → AtMost (b + b) (raise p l)
  raise_few {l = over} h q m = m
  raise_few {p} {l = entry s c rest} h q (and_then u m) = and_then {p = p + c} (omega arith) m

  pub strike_few : {l : Listing} → Closed l → AtMost b l → Spaced test (rings_of l) → AtMost (b + b) (strike test l) × (stays l ≡ true → owed (strike test l) ≤ b)
  unfolding strike rings_of
  strike_few (last {p = p}) (and_then h m) s = (and_then {p = p} (omega arith) all_over, λ e. h)
  strike_few (line {r = r} {p = p} {l = l} c) (and_then h m) s = go (test r) refl (strike_few c m (spaced_tail test (r ∷ []) s))
    where
      go : (t : Bool) → test r ≡ t → AtMost (b + b) (strike test l) × (stays l ≡ true → owed (strike test l) ≤ b)
          → AtMost (b + b) (struck t r p (strike test l)) × (t ≡ true → owed (struck t r p (strike test l)) ≤ b)
      go true e ih = (and_then {p = p} (omega arith) ih.0, λ q. h)
      go false e ih = (raise_few h (ih.1 (next_stays c s e)) ih.0, λ q. absurd (true≢false (sym q)))

-- ---- the lines of a drawer are neighbours in it

-- Lemma 6.1 of source document 000: of two neighbours one is without symmetry
pub lines_spaced : (n d : ℕ) (limit : List ℕ) → length limit ≡ n → Binary limit → Spaced is_lyndon (rings_of (all_lines n d limit))
unfolding necklaces_up_to
lines_spaced n d limit l b =
    let e = ends_below limit (necklaces_falling n d) in
    rw (rings_all n d limit l b) (spaced_tail is_lyndon e.0 (λ k y x t q. neighbours_test n d k y x t (e.1 ∙ q)))

-- ---- what a ring takes

-- of a beginning
pub starts_few : {b : ℕ} {a l : Listing} → Starts a l → AtMost b l → AtMost b a
starts_few at_once m = all_over
starts_few (then h) (and_then q m) = and_then q (starts_few h m)

-- no line of kind 1, nor none, costs more than 2 n - 1 trials
pub kind_1_prices : Kind1Prices
unfolding listing of_kind
kind_1_prices n d limit s l = rw (strike-nothing (of_kind 1) (λ r. refl) (all_closed n d limit)) (prices_few n d limit s l)

-- of kind 2, more than 4 n - 2
pub kind_2_prices : Kind2Prices
unfolding listing of_kind
kind_2_prices n d limit s l b =
    let m : (2 * n - 1) + (2 * n - 1) ≡ 4 * n - 2 = omega (arith, s) in
    rw m at (strike_few is_lyndon (2 * n - 1) (all_closed n d limit) (prices_few n d limit s l) (lines_spaced n d limit l (within_binary limit b))).0
