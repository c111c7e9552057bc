-- All lines of a book and none cost fewer than 2 ^ n trials together. Behind the first line each price is by the symbols at and behind
-- the first difference, so the price of rows that begin with 1, and then rows that begin with 0, is told by the prices of what follows
-- those symbols, and one crossing.
use mathlib.Core.Bool.{Bool, cond, false, true, ◌&&◌}
use mathlib.Core.List.{List, Memᴰ, [], map, ◌++◌, ◌∷◌}
use mathlib.Core.Path.{ap, ap₂, refl, sym, ◌∙◌, ◌≡◌}
use Prim.Native.Nat.{suc, zero, ℕ, ◌*◌, ◌+◌, ◌<◌, ◌^◌, ◌≤◌}
use native.Mathlib.Nat.{two-pow-succ}
use native.Mathlib.Omega.{arith}
use lib.Dec.{ltb}
use lib.ListN.{length}
use borrow.Author.Tests.{eq-eqb, ltb-true}
use Rattle.density.proofs.Binary.{within_binary}
use Rattle.density.proofs.Enumeration.{out_rows}
use Rattle.density.proofs.RowsBelow.{below_begin}
use Rattle.density.specs.Density.{all_rows, density}
use Rattle.density.specs.Necklaces.{is_necklace_of, necklaces_below, of_kind}
use Rattle.listing.proofs.Strikes.{Closed, all_closed, last, line, strike_closed}
use Rattle.listing.proofs.TrialBounds.{counted_few, price_few}
use Rattle.listing.specs.Claims.{AllPrices}
use Rattle.listing.specs.Listing.{Listing, all_lines, counted, entry, front, limit_first, lines_from, listing, listing_answers, listing_step, over, pay, price, raise, strike, struck}
use Rattle.listing.specs.Totals.{AtMost, all_over, all_trials, and_then, listing_left, trials_told}
use Rattle.words.proofs.Lists.{keep_append, keep-map, keep→}
use Rattle.words.specs.Order.{lt}
use Rattle.words.specs.Tests.{keep}

-- ---- one symbol in front of each row

counted_zero : (x : List ℕ) → counted true (0 ∷ x) ≤ counted true x
unfolding front density
counted_zero [] = omega arith
counted_zero (y ∷ x) = omega arith

counted_one : (x : List ℕ) → counted true (1 ∷ x) ≤ suc (counted true x)
unfolding front density
counted_one [] = omega arith
counted_one (y ∷ x) = omega arith

price_same : (b : ℕ) (x r : List ℕ) → price true (b ∷ x) (b ∷ r) ≡ price true x r
unfolding price
price_same b x r = rw (eq-eqb b b refl)

price_crossing : (x r : List ℕ) → price true (1 ∷ x) (0 ∷ r) ≡ counted true (1 ∷ x) + length r
unfolding price
price_crossing x r = refl

-- the trials from the first of some lines on, the first itself free
abbrev onward : List (List ℕ) → ℕ
onward [] = 0
onward (r ∷ rs) = all_trials (lines_from true r rs)

onward-zeros : (rows : List (List ℕ)) → onward (map (λ w. 0 ∷ w) rows) ≤ onward rows
unfolding lines_from all_trials
onward-zeros [] = omega arith
onward-zeros (r ∷ []) = omega (arith, counted_zero r)
onward-zeros (r ∷ (s ∷ rows)) = omega (arith, price_same 0 r s, onward-zeros (s ∷ rows))

-- rows that begin with 1, and behind them rows of k + 1 symbols that begin with 0
crossing : (k : ℕ) (lows : List (List ℕ)) → ((w : List ℕ) → Memᴰ w lows → length w ≡ k) → (highs : List (List ℕ))
    → onward (map (λ w. 1 ∷ w) highs ++ map (λ w. 0 ∷ w) lows) ≤ onward highs + onward lows + suc k
unfolding lines_from all_trials
crossing k lows h [] = omega (arith, onward-zeros lows)
crossing k [] h (a ∷ []) = omega (arith, counted_one a)
crossing k (b ∷ lows) h (a ∷ []) = omega (arith, price_crossing a b, counted_one a, h b (Memᴰ.head refl), onward-zeros (b ∷ lows))
crossing k lows h (a ∷ (c ∷ highs)) = omega (arith, price_same 1 a c, crossing k lows h (c ∷ highs))

-- ---- all rows of k + 1 symbols that pass a test

rows_onward : (k : ℕ) (p : List ℕ → Bool) → onward (keep p (all_rows (suc k))) + k + 3 ≤ 3 * 2 ^ k
unfolding all_rows keep lines_from all_trials price front density
rows_onward zero p = go (p (1 ∷ [])) (p (0 ∷ []))
  where
    go : (a b : Bool) → onward (cond a ((1 ∷ []) ∷ cond b ((0 ∷ []) ∷ []) []) (cond b ((0 ∷ []) ∷ []) [])) + 0 + 3 ≤ 3 * 2 ^ 0
    go true true = omega arith
    go true false = omega arith
    go false true = omega arith
    go false false = omega arith
rows_onward (suc k) p =
    let rows = all_rows (suc k) in
    let highs = keep (λ w. p (1 ∷ w)) rows in
    let lows = keep (λ w. p (0 ∷ w)) rows in
    let parts : keep p (all_rows (suc (suc k))) ≡ map (λ w. 1 ∷ w) highs ++ map (λ w. 0 ∷ w) lows = keep_append p (map (λ w. 1 ∷ w) rows) (map (λ w. 0 ∷ w) rows) ∙ ap₂ (λ (a b : List (List ℕ)). a ++ b) (keep-map p 1 rows) (keep-map p 0 rows) in
    let long : (w : List ℕ) → Memᴰ w lows → length w ≡ suc k = λ w m. (out_rows (suc k) w (keep→ (λ w. p (0 ∷ w)) w rows m).0).0 in
    omega (arith, ap onward parts, crossing (suc k) lows long highs, rows_onward k (λ w. p (1 ∷ w)), rows_onward k (λ w. p (0 ∷ w)), two-pow-succ k)

-- ---- the lines of a book

less_pow : (k : ℕ) → k < 2 ^ k
less_pow zero = omega arith
less_pow (suc k) = omega (arith, less_pow k, two-pow-succ k)

-- from x on, of n symbols: its price, and then the lines, which begin with 0
lines_all : (f : Bool) (n : ℕ) (x : List ℕ) → length x ≡ suc n → (p : List ℕ → Bool) → all_trials (lines_from f x (map (λ w. 0 ∷ w) (keep p (all_rows n)))) < 2 ^ suc n
unfolding lines_from all_trials front density keep all_rows
lines_all f n x l p = go n l (keep p (all_rows n)) (λ w m. (out_rows n w (keep→ p w (all_rows n) m).0).0) (few n)
  where
    -- behind the first line
    few : (n : ℕ) → onward (keep p (all_rows n)) + (2 * n + 1) < 2 ^ suc n
    few zero = one (p [])
      where
        one : (a : Bool) → onward (cond a ([] ∷ []) []) + 1 < 2 ^ 1
        one true = omega arith
        one false = omega arith
    few (suc k) = omega (arith, rows_onward k p, less_pow k, two-pow-succ k, two-pow-succ (suc k))

    go : (n : ℕ) → length x ≡ suc n → (rows : List (List ℕ)) → ((w : List ℕ) → Memᴰ w rows → length w ≡ n) → onward rows + (2 * n + 1) < 2 ^ suc n
        → all_trials (lines_from f x (map (λ w. 0 ∷ w) rows)) < 2 ^ suc n
    go n l [] h q = omega (arith, counted_few f x)
    go n l (r ∷ rows) h q = omega (arith, price_few f x (0 ∷ r) (l ∙ ap suc (sym (h r (Memᴰ.head refl)))), onward-zeros (r ∷ rows))

-- ---- striking out moves a price, and loses none

raise_all : (p : ℕ) {l : Listing} → Closed l → all_trials (raise p l) ≡ p + all_trials l
unfolding all_trials
raise_all p last = omega arith
raise_all p (line c) = omega arith

strike_all : (test : List ℕ → Bool) {l : Listing} → Closed l → all_trials (strike test l) ≡ all_trials l
unfolding strike all_trials
strike_all test last = refl
strike_all test (line {r = r} {p = p} {l = l} c) = go (test r) (strike_all test c)
  where
    go : (b : Bool) → all_trials (strike test l) ≡ all_trials l → all_trials (struck b r p (strike test l)) ≡ p + all_trials l
    go true e = ap (λ k. p + k) e
    go false e = raise_all p (strike_closed test c) ∙ ap (λ k. p + k) e

pub all_prices : AllPrices
unfolding listing all_lines all_trials
all_prices zero d kind limit s l b = absurd (omega arith)
all_prices (suc n) d kind limit s l b =
    omega (arith, strike_all (of_kind kind) (all_closed (suc n) d limit), go (is_necklace_of d limit) (necklaces_below (suc n) d limit) (below_begin n d limit (within_binary limit b) l))
  where
    ring_below : List ℕ → Bool
    ring_below w = is_necklace_of d (0 ∷ w) && lt (0 ∷ w) limit

    go : (t : Bool) (rows : List (List ℕ)) → rows ≡ map (λ w. 0 ∷ w) (keep ring_below (all_rows n)) → all_trials (limit_first t limit rows) < 2 ^ suc n
    go true rows e = rw e (omega (arith, lines_all true n limit l ring_below))
    go false rows e = rw e (lines_all false n limit l ring_below)

-- ---- so no price is higher, and no list of steps makes more trials

pub each_few : {b : ℕ} (l : Listing) → all_trials l ≤ b → AtMost b l
unfolding all_trials
each_few over h = all_over
each_few (entry s p l) h = and_then {p = p} (omega arith) (each_few l (omega arith))

step_all : (l : Listing) (a : ℕ) → let s = listing_step l a in s.tells.trials + all_trials s.left ≡ all_trials l
unfolding listing_step all_trials
step_all over a = refl
step_all (entry s p l) a = go (ltb a p) refl
  where
    go : (t : Bool) → ltb a p ≡ t → let r = pay t s p l a in r.tells.trials + all_trials r.left ≡ p + all_trials l
    go true e = omega (arith, ltb-true a p e)
    go false e = refl

pub told_all : (steps : List ℕ) (l : Listing) → trials_told (listing_answers l steps) + all_trials (listing_left l steps) ≡ all_trials l
unfolding trials_told listing_answers listing_left
told_all [] l = omega arith
told_all (a ∷ steps) l = omega (arith, step_all l a, told_all steps (listing_step l a).left)
