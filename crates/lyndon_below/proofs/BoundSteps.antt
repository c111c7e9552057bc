-- The search for the highest prenecklace below v, from the last symbol of v to the first.
use mathlib.Core.Bool.{Bool, false, true}
use mathlib.Core.List.{List, [], append_assoc, append-nil, ◌++◌, ◌∷◌}
use mathlib.Core.Path.{ap, refl, sym, ◌∙◌, ◌≡◌}
use Prim.Native.Nat.{suc, zero, ℕ, ◌-◌, ◌<◌, ◌≤◌}
use native.Mathlib.Omega.{arith}
use lib.ListN.{drop, drop_of_length-le, get_or, length, length-drop, length-set, set, take}
use lib.Seq.{drop-cons, get_or_at, get_or-take, length-take-le, set_at, set-set, take_all, take_at, take-set-lt, take-suc, take-suc-set, take-take}
use Rattle.counting.specs.InnerBound.{Bound, at, highest_below, highest_up_to, none, only_if, or_else, passes}
use Rattle.refusal.specs.Verdicts.{most_stations}
use Rattle.words.specs.InnerScan.{scan, ◌▹◌}
use Rattle.words.specs.Symbols.{ones, zeros}

-- ---- the definition, one symbol of v at a time

abbrev pub behind : List ℕ → ℕ → Bound
behind v q = highest_below (take q v) (drop q v)

module _ (v : List ℕ) (q : ℕ) (h : q < length v) where
  -- what is found behind the place
  deeper : Bound
  deeper = highest_below (take q v ▹ get_or v q 0) (drop (suc q) v)

  is_deeper : behind v (suc q) ≡ highest_below (take q v ▹ get_or v q 0) (drop (suc q) v)
  is_deeper = ap (λ t. highest_below t (drop (suc q) v)) (take-suc v q 0 h)

  opened : behind v q ≡ highest_below (take q v) (get_or v q 0 ∷ drop (suc q) v)
  opened = ap (highest_below (take q v)) (drop-cons v q 0 h)

  at_zero : (x : ℕ) → x ≡ 0 → highest_below (take q v) (x ∷ drop (suc q) v) ≡ highest_below (take q v ▹ x) (drop (suc q) v)
  unfolding highest_below
  at_zero x e = rw e

  at_one : (x : ℕ) → x ≡ 1 → highest_below (take q v) (x ∷ drop (suc q) v) ≡ or_else (highest_below (take q v ▹ x) (drop (suc q) v)) (only_if (passes (scan (take q v ▹ 0))) ((take q v ▹ 0) ++ ones (length v - suc q)))
  unfolding highest_below
  at_one x e = rw (e, length-drop (suc q) v)

  pub back_zero : get_or v q 0 ≡ 0 → behind v (suc q) ≡ none → behind v q ≡ none
  back_zero z n = opened ∙ at_zero (get_or v q 0) z ∙ sym is_deeper ∙ n

  pub back_one : get_or v q 0 ≡ 1 → behind v (suc q) ≡ none → behind v q ≡ only_if (passes (scan (take q v ▹ 0))) ((take q v ▹ 0) ++ ones (length v - suc q))
  back_one z n = opened ∙ at_one (get_or v q 0) z ∙ ap (λ b. or_else b (only_if (passes (scan (take q v ▹ 0))) ((take q v ▹ 0) ++ ones (length v - suc q)))) (sym is_deeper ∙ n)

  -- what is found behind a place is found before it
  pub kept : (x : ℕ) {u : List ℕ} → highest_below (take q v ▹ x) (drop (suc q) v) ≡ at u → highest_below (take q v) (x ∷ drop (suc q) v) ≡ at u
  unfolding highest_below
  kept zero e = e
  kept (suc x) e = rw e

  pub kept_back : {u : List ℕ} → behind v (suc q) ≡ at u → behind v q ≡ at u
  kept_back e = opened ∙ kept (get_or v q 0) (sym is_deeper ∙ e)

pub kept_all : (v : List ℕ) (q : ℕ) {u : List ℕ} → q ≤ length v → behind v q ≡ at u → highest_below [] v ≡ at u
kept_all v zero h e = e
kept_all v (suc q) h e = kept_all v q (omega arith) (kept_back v q h e)

-- ---- the row: v to the place p, and ones

pub record Search (v row : List ℕ) (p : ℕ) : Type 0 where
  pub inside : p ≤ length v
  pub long : length row ≡ most_stations
  pub front : take (length v) row ≡ take p v ++ ones (length v - p)
  pub nothing : behind v p ≡ none

pub search_start : (v : List ℕ) → length v ≤ most_stations → (row : List ℕ) → length row ≡ most_stations → row ≡ v ++ zeros (most_stations - length v) → Search v row (length v)
unfolding highest_below
search_start v h row l e =
    let full : take (length v) v ≡ v = take_all (length v) v (omega arith) in
    let over : length v - length v ≡ 0 = omega arith in
    record {
      inside = omega arith;
      long = l;
      front = rw (e, take_at v (zeros (most_stations - length v)) (length v) refl, full, over) (sym (append-nil v));
      nothing = rw (full, drop_of_length-le v {i = length v} (omega arith));
    }

module _ (v row : List ℕ) (q : ℕ) (few : length v ≤ most_stations) (s : Search v row (suc q)) where
  inner : q < length v
  inner = s.inside

  -- the front of the row, cut at q
  cut : take (length v) row ≡ take q v ++ (get_or v q 0 ∷ ones (length v - suc q))
  cut = s.front ∙ ap (λ t. t ++ ones (length v - suc q)) (take-suc v q 0 inner) ∙ append_assoc (take q v) (get_or v q 0 ∷ []) (ones (length v - suc q))

  size : length (take q v) ≡ q
  size = length-take-le q v (omega arith)

  pub symbol_at : get_or row q 0 ≡ get_or v q 0
  symbol_at = sym (get_or-take (length v) row q 0 inner) ∙ ap (λ t. get_or t q 0) cut ∙ get_or_at (take q v) (get_or v q 0) (ones (length v - suc q)) 0 q size

  pub stored : (a : ℕ) → take (length v) (set row q a) ≡ take q v ++ (a ∷ ones (length v - suc q))
  stored a = take-set-lt (length v) row q a inner ∙ ap (λ t. set t q a) cut ∙ set_at (take q v) (get_or v q 0) (ones (length v - suc q)) a q size

  pub tried : take (suc q) (set row q 0) ≡ take q v ▹ 0
  tried =
      take-suc-set row q 0 (omega (arith, s.long))
      ∙ ap (λ t. t ▹ 0) (sym (take-take q (length v) row (omega arith)) ∙ ap (take q) cut ∙ take_at (take q v) (get_or v q 0 ∷ ones (length v - suc q)) q size)

  -- found
  pub found : get_or v q 0 ≡ 1 → passes (scan (take q v ▹ 0)) ≡ true → at (take (length v) (set row q 0)) ≡ highest_below [] v
  found z t =
      sym (kept_all v q (omega arith) (back_one v q inner z s.nothing ∙ rw t (ap at (append_assoc (take q v) (0 ∷ []) (ones (length v - suc q)) ∙ sym (stored 0)))))

  -- not found: on with a 1 at q
  next : behind v q ≡ none → Search v (set (set row q 0) q 1) q
  next n =
      let again : set (set row q 0) q 1 ≡ set row q 1 = set-set row q 0 1 in
      let one_more : length v - q ≡ suc (length v - suc q) = omega arith in
      record {
        inside = omega arith;
        long = simp length-set s.long;
        front = rw (again, one_more) (stored 1);
        nothing = n;
      }

  pub next_zero : get_or v q 0 ≡ 0 → Search v (set (set row q 0) q 1) q
  next_zero z = next (back_zero v q inner z s.nothing)

  pub next_one : get_or v q 0 ≡ 1 → passes (scan (take q v ▹ 0)) ≡ false → Search v (set (set row q 0) q 1) q
  next_one z f = next (back_one v q inner z s.nothing ∙ rw f)

-- ---- v itself, or what is below it

pub itself : (t : Bool) (v row : List ℕ) (k : ℕ) → t ≡ true → passes (scan v) ≡ true → row ≡ v ++ zeros k → at (take (length v) row) ≡ highest_up_to t v
unfolding highest_up_to
itself t v row k e p r = rw (e, p, r, take_at v (zeros k) (length v) refl)

pub not_allowed : (t : Bool) (v : List ℕ) → t ≡ false → highest_below [] v ≡ highest_up_to t v
unfolding highest_up_to
not_allowed t v e = rw e

pub not_itself : (t : Bool) (v : List ℕ) → t ≡ true → passes (scan v) ≡ false → highest_below [] v ≡ highest_up_to t v
unfolding highest_up_to
not_itself t v e p = rw (e, p)
