-- What each move does to the rows and the lines to come. One pair of laws for each event, over the row alone.
use mathlib.Core.Bool.{false, true}
use mathlib.Core.List.{List, [], append_assoc, append-nil, ◌++◌, ◌∷◌}
use mathlib.Core.Path.{ap, refl, sym, ◌∙◌, ◌≡◌}
use Prim.Native.Nat.{suc, ℕ, ◌+◌, ◌-◌, ◌<◌, ◌≤◌}
use native.Mathlib.Omega.{arith}
use lib.ListN.{get_or, length, set, take}
use lib.Seq.{length-take-le, take-suc, take-suc-set}
use Rattle.density.proofs.Branching.{down_no, down_yes, next, up_no, within}
use Rattle.density.proofs.Members.{Member, member_test, necklaces_falling, →member}
use Rattle.density.specs.Necklaces.{begins, is_necklace_of, necklaces_below, necklaces_up_to}
use Rattle.listing.proofs.Prices.{lines_dearer, price_next}
use Rattle.listing.specs.Listing.{Listing, all_lines, entry, lines_from, raise, ring}
use Rattle.walk.specs.ToCome.{first_at, highest_of, lines_at, lowest, rows_at}
use Rattle.walk.specs.declared.Standing.TheVariants.{Down, Given, Limit, Up}
use Rattle.words.proofs.Falling.{at_or_below}
use Rattle.words.specs.Symbols.{ones, zeros}

-- ---- one question, over what is fixed (u) and what is left (k places)

module _ (n d : ℕ) (u : List ℕ) (k : ℕ) (fits : length u + suc k ≡ n) where
  -- no: the trial was made for what is found further down
  asked_no : begins n d (u ++ (0 ∷ [])) ≡ false
      → lines_from false (u ++ (1 ∷ zeros k)) (necklaces_below n d (u ++ (1 ∷ zeros k))) ≡ raise 1 (lines_from false (u ++ (0 ∷ zeros k)) (necklaces_below n d (u ++ (0 ∷ zeros k))))
  asked_no nay = ap (lines_from false (u ++ (1 ∷ zeros k))) (down_no n d u k fits nay) ∙ lines_dearer u k _ (within n d u k fits)

  -- yes: the highest that starts with u 0 is next, and k trials away
  asked_yes : begins n d (u ++ (0 ∷ [])) ≡ true
      → lines_from false (u ++ (1 ∷ zeros k)) (necklaces_below n d (u ++ (1 ∷ zeros k))) ≡ raise 1 (first_at k (necklaces_up_to n d (u ++ (0 ∷ ones k))))
  unfolding lines_from
  asked_yes aye =
      let f = next n d u k fits aye in
      rw (← down_yes n d u k fits, f.is) (ap {B = Listing} (λ t. entry (ring (u ++ (0 ∷ f.tail))) t (lines_from true (u ++ (0 ∷ f.tail)) f.rest)) (price_next u k f.tail f.long))

first_dearer : (k : ℕ) (l : List (List ℕ)) → first_at (suc k) l ≡ raise 1 (first_at k l)
first_dearer k [] = refl
first_dearer k (r ∷ rs) = ap {B = Listing} (λ t. entry (ring r) t (lines_from true r rs)) (omega arith)

module _ (n d : ℕ) (row : List ℕ) (within-row : n ≤ length row) where
  -- ---- the rows at a place
  pub fixed : (q : ℕ) → q < n → length (take q row) + suc (n - suc q) ≡ n
  fixed q h = omega (arith, length-take-le q row (omega arith))

  down_here : (q : ℕ) → q < n → lowest (suc q) n row ≡ take q row ++ (get_or row q 0 ∷ zeros (n - suc q))
  down_here q h = ap {B = List ℕ} (λ t. t ++ zeros (n - suc q)) (take-suc row q 0 (omega arith)) ∙ append_assoc (take q row) (get_or row q 0 ∷ []) (zeros (n - suc q))

  down_after : (q : ℕ) → q < n → lowest q n row ≡ take q row ++ (0 ∷ zeros (n - suc q))
  down_after q h = let e : n - q ≡ suc (n - suc q) = omega arith in rw e

  up_here : (i : ℕ) → i < n → highest_of i n row ≡ take i row ++ (1 ∷ ones (n - suc i))
  up_here i h = let e : n - i ≡ suc (n - suc i) = omega arith in rw e

  up_after : (i b : ℕ) → i < n → highest_of (suc i) n (set row i b) ≡ take i row ++ (b ∷ ones (n - suc i))
  up_after i b h = ap {B = List ℕ} (λ t. t ++ ones (n - suc i)) (take-suc-set row i b (omega arith)) ∙ append_assoc (take i row) (b ∷ []) (ones (n - suc i))

  -- ---- Down

  pub down_free : (q : ℕ) → q < n → get_or row q 0 ≡ 0 → lowest (suc q) n row ≡ lowest q n row
  down_free q h e = down_here q h ∙ rw e (sym (down_after q h))

  module _ (q : ℕ) (h : q < n) (one : get_or row q 0 ≡ 1) where
    at_one : lowest (suc q) n row ≡ take q row ++ (1 ∷ zeros (n - suc q))
    at_one = down_here q h ∙ rw one

    pub down_no_rows : begins n d (take q row ++ (0 ∷ [])) ≡ false → rows_at (Down (suc q)) n d row ≡ rows_at (Down q) n d row
    unfolding rows_at
    down_no_rows nay = rw (at_one, down_after q h) (down_no n d (take q row) (n - suc q) (fixed q h) nay)

    pub down_no_lines : begins n d (take q row ++ (0 ∷ [])) ≡ false → lines_at (Down (suc q)) n d row ≡ raise 1 (lines_at (Down q) n d row)
    unfolding lines_at rows_at
    down_no_lines nay = rw (at_one, down_after q h) (asked_no n d (take q row) (n - suc q) (fixed q h) nay)

    pub down_yes_rows : rows_at (Down (suc q)) n d row ≡ rows_at (Up (suc (suc q))) n d (set row q 0)
    unfolding rows_at
    down_yes_rows = rw (at_one, up_after q 0 h) (down_yes n d (take q row) (n - suc q) (fixed q h))

    pub down_yes_lines : begins n d (take q row ++ (0 ∷ [])) ≡ true → lines_at (Down (suc q)) n d row ≡ raise 1 (lines_at (Up (suc (suc q))) n d (set row q 0))
    unfolding lines_at rows_at
    down_yes_lines aye = rw (at_one, up_after q 0 h) (asked_yes n d (take q row) (n - suc q) (fixed q h) aye)

  -- ---- Up

  module _ (i : ℕ) (h : i < n) where
    pub up_yes_rows : rows_at (Up (suc i)) n d row ≡ rows_at (Up (suc (suc i))) n d (set row i 1)
    unfolding rows_at
    up_yes_rows = rw (up_here i h, up_after i 1 h)

    pub up_no_rows : begins n d (take i row ++ (1 ∷ [])) ≡ false → rows_at (Up (suc i)) n d row ≡ rows_at (Up (suc (suc i))) n d (set row i 0)
    unfolding rows_at
    up_no_rows nay = rw (up_here i h, up_after i 0 h) (up_no n d (take i row) (n - suc i) (fixed i h) nay)

    -- either way the ring is one trial nearer
    pub up_lines : (b : ℕ) → rows_at (Up (suc i)) n d row ≡ rows_at (Up (suc (suc i))) n d (set row i b)
        → lines_at (Up (suc i)) n d row ≡ raise 1 (lines_at (Up (suc (suc i))) n d (set row i b))
    unfolding lines_at
    up_lines b e = let m : n - i ≡ suc (n - suc i) = omega arith in rw (m, e) (first_dearer (n - suc i) (rows_at (Up (suc (suc i))) n d (set row i b)))

  -- ---- Found, Limit

  highest_whole : highest_of n n row ≡ take n row
  highest_whole = let e : n - n ≡ 0 = omega arith in rw e (append-nil _)

  module _ (ring_in : Member n d (take n row)) where
    pub found_rows : rows_at (Up (suc n)) n d row ≡ take n row ∷ rows_at Given n d row
    unfolding rows_at necklaces_up_to necklaces_below
    found_rows = rw highest_whole (at_or_below (take n row) (necklaces_falling n d) (→member ring_in))

    pub found_lines : lines_at (Up (suc n)) n d row ≡ entry (ring (take n row)) 0 (lines_at Given n d row)
    unfolding lines_at
    found_lines = let e : n - n ≡ 0 = omega arith in rw (found_rows, e)

    pub limit_yes_lines : lines_at Limit n d row ≡ lines_at (Up (suc n)) n d row
    unfolding lines_at all_lines rows_at
    limit_yes_lines = rw (member_test ring_in) (sym found_lines)

  lowest_whole : lowest n n row ≡ take n row
  lowest_whole = let e : n - n ≡ 0 = omega arith in rw e (append-nil _)

  pub limit_no_rows : rows_at Limit n d row ≡ rows_at (Down n) n d row
  unfolding rows_at
  limit_no_rows = rw lowest_whole

  pub limit_no_lines : is_necklace_of d (take n row) ≡ false → lines_at Limit n d row ≡ lines_at (Down n) n d row
  unfolding lines_at all_lines rows_at
  limit_no_lines e = rw (e, lowest_whole)
