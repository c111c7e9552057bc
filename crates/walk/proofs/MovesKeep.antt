-- Each move of a good walk keeps what it stands for: the events put together.
use mathlib.Core.Bool.{Bool, false, true}
use mathlib.Core.List.{List, [], ◌++◌, ◌∷◌}
use mathlib.Core.Path.{ap, refl, ◌∙◌, ◌≡◌}
use Prim.Native.Nat.{suc, zero, ℕ, ◌*◌, ◌+◌, ◌-◌, ◌<◌, ◌≤◌}
use native.Mathlib.Nat.{le_refl}
use native.Mathlib.Omega.{arith}
use lib.Dec.{ltb}
use lib.ListN.{get_or, length, set, take}
use lib.Seq.{length-take-le, take-suc-set}
use borrow.Author.Tests.{ltb-false, ltb-true}
use Rattle.density.proofs.Begun.{begins_member, member_begins}
use Rattle.density.proofs.Binary.{empty, one∷, zero∷}
use Rattle.density.proofs.Branching.{other_way}
use Rattle.density.proofs.Members.{Member, member_test, test_member, →begins}
use Rattle.density.specs.Necklaces.{begins, is_necklace_of}
use Rattle.listing.proofs.Strikes.{strike_kept, strike_out, strike-raise}
use Rattle.listing.specs.Listing.{raise, strike}
use Rattle.walk.proofs.BelowLines.{below_lines, below_rows, last_lines, last_rows, none_lines}
use Rattle.walk.proofs.MoveLines.{down_free, down_no_lines, down_no_rows, down_yes_lines, down_yes_rows, fixed, found_lines, found_rows, limit_no_lines, limit_no_rows, limit_yes_lines, up_lines, up_no_rows, up_yes_rows}
use Rattle.walk.proofs.Invariant.{Fit, down_fit, ended_fit, given_fit, sound_answered, sound_at, sound_fit, sound_set, symbol, up_fit}
use Rattle.walk.proofs.Simulation.{Keeps, keeps_answer, keeps_free, keeps_trial, said_row}
use Rattle.walk.specs.InnerCourse.{Good, GoodAt, Sound, moves_at, size, size_at}
use Rattle.walk.specs.Fit.{fit_at}
use Rattle.walk.specs.Moves.{Move, Rules, answer, down_move, down_tried, ended, found_move, free, gone_below, limit_move, move_at, moved, row_of, trial, up_move, up_tried}
use Rattle.walk.specs.Step.{answered}
use Rattle.walk.specs.ToCome.{lines_at, rows_at, stands}
use Rattle.std.specs.Prelude.{Ok}
use Rattle.walk.specs.declared.Answer.TheVariants.{None, Ring}
use Rattle.walk.specs.declared.Standing.{Standing}
use Rattle.walk.specs.declared.Standing.TheVariants.{Down, Ended, Given, Limit, Up}
use Rattle.walk.specs.declared.Walk.{Walk}

-- ---- sizes

pub smaller : (n d : ℕ) (s s' : Standing) (row row' : List ℕ) → rows_at s n d row ≡ rows_at s' n d row' → moves_at n s' < moves_at n s → size_at s' n d row' < size_at s n d row
unfolding size_at
smaller n d s s' row row' e h = rw e (omega arith)

one_row_more : (l c a b : ℕ) → c + a < b → suc l * c + a < l * c + b
one_row_more l c a b h = let e : suc l * c ≡ c + l * c = omega arith in omega arith

one_row_less : (l c a b : ℕ) → a < c + b → l * c + a < suc l * c + b
one_row_less l c a b h = let e : suc l * c ≡ c + l * c = omega arith in omega arith

pub limit_size : (n d : ℕ) (row : List ℕ) → n ≤ length row → Member n d (take n row) → size_at (Up (suc n)) n d row < size_at Limit n d row
unfolding size_at rows_at
limit_size n d row h i =
    rw (found_rows n d row h i) (one_row_more _ (2 * n + 4) (suc n - n) (4 * n + 7) (omega arith))

pub found_size : (n d : ℕ) (row : List ℕ) → n ≤ length row → Member n d (take n row) → size_at Given n d row < size_at (Up (suc n)) n d row
unfolding size_at
found_size n d row h i =
    rw (found_rows n d row h i) (one_row_less _ (2 * n + 4) (2 * n + 3) (suc n - n) (omega arith))

module _ (R : Rules) where
  abbrev Kept : Walk → Move → Type 0
  Kept w m = Keeps R (Good R) (Fit R) (stands R) size w m

  -- the walk w, which stands at s
  module _ (w : Walk) (s : Standing) (at : w.at ≡ s) (sound : Sound R w) where
    stands_here : stands R w ≡ strike (R.of_kind w.kind) (lines_at s w.n w.d w.row)
    unfolding stands
    stands_here = rw at

    size_here : size w ≡ size_at s w.n w.d w.row
    unfolding size
    size_here = rw at

    to_free : (s' : Standing) (row' : List ℕ) → Sound R (moved w row' w.at) → GoodAt s' (moved w row' s')
        → lines_at s w.n w.d w.row ≡ lines_at s' w.n w.d row' → size_at s' w.n w.d row' < size_at s w.n w.d w.row
        → Kept w (free (moved w row' s'))
    unfolding stands size
    to_free s' row' so g l z = keeps_free (record { sound = sound_at so s'; placed = g }) (stands_here ∙ ap (strike (R.of_kind w.kind)) l) (rw size_here z)

    to_trial : (s' : Standing) (row' : List ℕ) → fit_at R s w ≡ true → Sound R (moved w row' w.at) → GoodAt s' (moved w row' s')
        → lines_at s w.n w.d w.row ≡ raise 1 (lines_at s' w.n w.d row') → size_at s' w.n w.d row' < size_at s w.n w.d w.row
        → Kept w (trial (moved w row' s'))
    unfolding stands size
    to_trial s' row' f so g l z =
        keeps_trial (record { sound = sound_at so s'; placed = g }) (sound_fit sound (ap (λ t. fit_at R t w) at ∙ f))
        (stands_here ∙ ap (strike (R.of_kind w.kind)) l ∙ strike-raise (R.of_kind w.kind) 1 (lines_at s' w.n w.d row')) (rw size_here z)

  module _ (w : Walk) (sound : Sound R w) where
    long : w.n ≤ length w.row
    long = omega (arith, sound.most, sound.long)

    -- a ring of the drawer in the record
    ring_in : is_necklace_of w.d (row_of w) ≡ true → Member w.n w.d (row_of w)
    ring_in e = test_member (length-take-le w.n w.row long) sound.binary e

    at_limit : w.at ≡ Limit → (b : Bool) → is_necklace_of w.d (row_of w) ≡ b → Kept w (limit_move b w)
    at_limit at true e =
        let i = ring_in e in
        to_free w Limit at sound (Up (suc w.n)) w.row sound (sound.some, le_refl w.n, member_begins i)
        (limit_yes_lines w.n w.d w.row long i) (limit_size w.n w.d w.row long i)
    at_limit at false e =
        to_free w Limit at sound (Down w.n) w.row sound (le_refl w.n)
        (limit_no_lines w.n w.d w.row long e)
        (smaller w.n w.d Limit (Down w.n) w.row w.row (limit_no_rows w.n w.d w.row long) (omega arith))

    -- ---- Down (q + 1)

    module _ (q : ℕ) (at : w.at ≡ Down (suc q)) (h : q < w.n) where
      down_asked : get_or w.row q 0 ≡ 1 → (b : Bool) → begins w.n w.d (take q w.row ++ (0 ∷ [])) ≡ b → Kept w (trial (down_tried b q w))
      down_asked one true e =
          to_trial w (Down (suc q)) at sound (Up (suc (suc q))) (set w.row q 0) (down_fit R w q h) (sound_set sound q 0 h (zero∷ empty))
          (omega arith, h, rw (take-suc-set w.row q 0 (omega (arith, long))) e)
          (down_yes_lines w.n w.d w.row long q h one e)
          (smaller w.n w.d (Down (suc q)) (Up (suc (suc q))) w.row (set w.row q 0) (down_yes_rows w.n w.d w.row long q h one) (omega arith))
      down_asked one false e =
          to_trial w (Down (suc q)) at sound (Down q) w.row (down_fit R w q h) sound (omega arith)
          (down_no_lines w.n w.d w.row long q h one e)
          (smaller w.n w.d (Down (suc q)) (Down q) w.row w.row (down_no_rows w.n w.d w.row long q h one e) (omega arith))

      at_down : (b : ℕ) → get_or w.row q 0 ≡ b → b ≤ 1 → Kept w (down_move b q w)
      unfolding lines_at rows_at
      at_down zero e l =
          let f = down_free w.n w.d w.row long q h e in
          to_free w (Down (suc q)) at sound (Down q) w.row sound (omega arith) (rw f)
          (smaller w.n w.d (Down (suc q)) (Down q) w.row w.row (rw f) (omega arith))
      at_down (suc zero) e l = down_asked e (begins w.n w.d (take q w.row ++ (0 ∷ []))) refl
      at_down (suc (suc b)) e l = absurd (omega arith)

    -- ---- Up (i + 1)

    module _ (i : ℕ) (at : w.at ≡ Up (suc i)) (some : 1 ≤ i) (begun : begins w.n w.d (take i w.row) ≡ true) where
      up_asked : i < w.n → (b : Bool) → begins w.n w.d (take i w.row ++ (1 ∷ [])) ≡ b → Kept w (trial (up_tried b i w))
      up_asked h true e =
          let r = up_yes_rows w.n w.d w.row long i h in
          to_trial w (Up (suc i)) at sound (Up (suc (suc i))) (set w.row i 1) (up_fit R w i some h begun) (sound_set sound i 1 h (one∷ empty))
          (omega arith, h, rw (take-suc-set w.row i 1 (omega (arith, long))) e)
          (up_lines w.n w.d w.row long i h 1 r)
          (smaller w.n w.d (Up (suc i)) (Up (suc (suc i))) w.row (set w.row i 1) r (omega arith))
      up_asked h false e =
          let r = up_no_rows w.n w.d w.row long i h e in
          let o = other_way w.n w.d (take i w.row) (w.n - suc i) (fixed w.n w.d w.row long i h) begun e in
          to_trial w (Up (suc i)) at sound (Up (suc (suc i))) (set w.row i 0) (up_fit R w i some h begun) (sound_set sound i 0 h (zero∷ empty))
          (omega arith, h, rw (take-suc-set w.row i 0 (omega (arith, long))) (→begins o))
          (up_lines w.n w.d w.row long i h 0 r)
          (smaller w.n w.d (Up (suc i)) (Up (suc (suc i))) w.row (set w.row i 0) r (omega arith))

    -- ---- Found

    module _ (at : w.at ≡ Up (suc w.n)) (i : Member w.n w.d (row_of w)) where
      at_found : (b : Bool) → R.of_kind w.kind (row_of w) ≡ b → Kept w (found_move b w)
      unfolding stands size
      at_found true e =
          keeps_answer (sound_fit (sound_answered (sound_at sound Given) (Ok Ring)) (given_fit R (answered (Ok Ring) (moved w w.row Given)) (member_test i) e))
          (said_row (row_of w) (omega (arith, sound.some, i.long)))
          (stands_here w (Up (suc w.n)) at sound ∙ ap (strike (R.of_kind w.kind)) (found_lines w.n w.d w.row long i)
          ∙ strike_kept (R.of_kind w.kind) (row_of w) (lines_at Given w.n w.d w.row) e)
      at_found false e =
          keeps_free (record { sound = sound_at sound Given; placed = member_test i })
          (stands_here w (Up (suc w.n)) at sound ∙ ap (strike (R.of_kind w.kind)) (found_lines w.n w.d w.row long i)
          ∙ strike_out (R.of_kind w.kind) (row_of w) (lines_at Given w.n w.d w.row) e)
          (rw (size_here w (Up (suc w.n)) at sound) (found_size w.n w.d w.row long i))

    at_up : (i : ℕ) → w.at ≡ Up (suc i) → GoodAt (Up (suc i)) w → (b : Bool) → ltb i w.n ≡ b → Kept w (up_move R b i w)
    at_up i at g true e = up_asked i at g.0 g.2 (ltb-true i w.n e) (begins w.n w.d (take i w.row ++ (1 ∷ []))) refl
    at_up i at g false e =
        let m : i ≡ w.n = omega (arith, ltb-false i w.n e, g.1) in
        at_found (at ∙ ap (λ t. Up (suc t)) m) (begins_member w.n w.d (row_of w) (length-take-le w.n w.row long) (rw m at g.2)) (R.of_kind w.kind (row_of w)) refl

    -- ---- Given, and none

    at_given : w.at ≡ Given → Member w.n w.d (row_of w) → (d : ℕ) → w.d ≡ d → Kept w (free (gone_below d w))
    at_given at i zero e =
        let j : Member w.n 0 (row_of w) = rw e at i in
        to_free w Given at sound (Down 0) w.row sound (omega arith)
        (rw e (last_lines w.n w.row j))
        (smaller w.n w.d Given (Down 0) w.row w.row (rw e (last_rows w.n w.row j)) (omega arith))
    at_given at i (suc d) e =
        let j : Member w.n (suc d) (row_of w) = rw e at i in
        let some : 1 ≤ w.n = sound.some in
        to_free w Given at sound (Down w.n) (set w.row (w.n - 1) 0) (sound_set sound (w.n - 1) 0 (omega arith) (zero∷ empty)) (le_refl w.n)
        (rw e (below_lines w.n d w.row some long j))
        (smaller w.n w.d Given (Down w.n) w.row (set w.row (w.n - 1) 0) (rw e (below_rows w.n d w.row some long j)) (omega arith))

    at_none : w.at ≡ Down 0 → Kept w (answer (Ok None) (ended w))
    unfolding stands strike lines_at
    at_none at =
        keeps_answer (ended_fit w sound) refl
        (stands_here w (Down 0) at sound ∙ ap (strike (R.of_kind w.kind)) (none_lines w.n w.d w.row))

    at_standing : (s : Standing) → w.at ≡ s → GoodAt s w → Kept w (move_at R s w)
    unfolding move_at
    at_standing Limit at g = at_limit at (is_necklace_of w.d (row_of w)) refl
    at_standing (Down zero) at g = at_none at
    at_standing (Down (suc q)) at g = at_down q at g (get_or w.row q 0) refl (symbol sound q g)
    at_standing (Up zero) at g = absurd g
    at_standing (Up (suc i)) at g = at_up i at g (ltb i w.n) refl
    at_standing Given at g = at_given at (ring_in g) w.d refl
    at_standing Ended at g = absurd g

  pub keeping : (w : Walk) → Good R w → Kept w (move_at R w.at w)
  keeping w g = at_standing w g.sound w.at refl g.placed
