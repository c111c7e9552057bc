-- The moves of a walk by cases, with places counted as the code counts them; and what a good record has.
use mathlib.Core.Bool.{Bool, false, true}
use mathlib.Core.List.{List, [], ◌++◌, ◌∷◌}
use mathlib.Core.Path.{ap, refl, subst, sym, ◌∙◌, ◌≡◌}
use Prim.Native.Nat.{suc, zero, ℕ, ◌+◌, ◌-◌, ◌<◌, ◌≤◌}
use native.Mathlib.Omega.{arith}
use lib.ListN.{drop, get_or, length, set, take, take-append-drop}
use lib.Seq.{length-take-le}
use borrow.Author.Tests.{le-ltb, lt-ltb}
use Rattle.density.proofs.Begun.{begins_member}
use Rattle.density.proofs.Binary.{Binary, binary_append, binary_within, test_binary}
use Rattle.density.proofs.Members.{Member}
use Rattle.density.specs.Necklaces.{begins, is_necklace_of, of_kind}
use Rattle.walk.specs.InnerCourse.{Good}
use Rattle.walk.specs.Moves.{answer, down_tried, ended, found_move, free, gone_below, limit_move, move_at, moved, row_of, rules, trial, up_tried}
use Rattle.std.specs.Prelude.{Ok}
use Rattle.walk.specs.declared.Answer.TheVariants.{None}
use Rattle.walk.specs.declared.Standing.TheVariants.{Down, Given, Limit, Up}
use Rattle.walk.specs.declared.Walk.{Walk}
use Rattle.words.specs.Symbols.{Within}
use Rattle.refusal.specs.Verdicts.{most_stations}

-- the symbol that a trial on the way up leaves
abbrev pub bit : Bool → ℕ
bit true = 1
bit false = 0

module _ (w : Walk) (row : List ℕ) where
  -- ---- down

  pub down_free : (p : ℕ) → 0 < p → get_or row (p - 1) 0 ≡ 0 → free (moved w row (Down (p - 1))) ≡ move_at rules (Down p) (moved w row (Down p))
  unfolding move_at
  down_free zero h e = absurd (omega arith)
  down_free (suc q) h e = let m : suc q - 1 ≡ q = omega arith in rw (m, rw m at e)

  pub down_no : (p : ℕ) → 0 < p → get_or row (p - 1) 0 ≡ 1 → begins w.n w.d (take (p - 1) row ++ (0 ∷ [])) ≡ false
      → trial (moved w row (Down (p - 1))) ≡ move_at rules (Down p) (moved w row (Down p))
  unfolding move_at
  down_no zero h e f = absurd (omega arith)
  down_no (suc q) h e f = let m : suc q - 1 ≡ q = omega arith in rw (m, rw m at e, rw m at f)

  pub down_yes : (p : ℕ) → 0 < p → get_or row (p - 1) 0 ≡ 1 → begins w.n w.d (take (p - 1) row ++ (0 ∷ [])) ≡ true
      → trial (moved w (set row (p - 1) 0) (Up (p + 1))) ≡ move_at rules (Down p) (moved w row (Down p))
  unfolding move_at
  down_yes zero h e f = absurd (omega arith)
  down_yes (suc q) h e f = let m : suc q - 1 ≡ q = omega arith in let n : suc q + 1 ≡ suc (suc q) = omega arith in rw (m, n, rw m at e, rw m at f)

  -- a trial is due there
  pub down_due : (p : ℕ) → 0 < p → get_or row (p - 1) 0 ≡ 1
      → trial (down_tried (begins w.n w.d (take (p - 1) row ++ (0 ∷ []))) (p - 1) (moved w row (Down p))) ≡ move_at rules (Down p) (moved w row (Down p))
  unfolding move_at
  down_due zero h e = absurd (omega arith)
  down_due (suc q) h e = let m : suc q - 1 ≡ q = omega arith in rw (m, rw m at e)

  -- ---- up

  pub up_due : (p : ℕ) → 0 < p → p ≤ w.n
      → trial (up_tried (begins w.n w.d (take (p - 1) row ++ (1 ∷ []))) (p - 1) (moved w row (Up p))) ≡ move_at rules (Up p) (moved w row (Up p))
  unfolding move_at
  up_due zero h l = absurd (omega arith)
  up_due (suc i) h l = let m : suc i - 1 ≡ i = omega arith in rw (m, lt-ltb i w.n (omega arith))

  pub up_tried_lem : (p : ℕ) → 0 < p → p ≤ w.n → (b : Bool) → begins w.n w.d (take (p - 1) row ++ (1 ∷ [])) ≡ b
      → trial (moved w (set row (p - 1) (bit b)) (Up (p + 1))) ≡ move_at rules (Up p) (moved w row (Up p))
  up_tried_lem p h l b e = go b ∙ ap (λ t. trial (up_tried t (p - 1) (moved w row (Up p)))) (sym e) ∙ up_due p h l
    where
      place : suc (suc (p - 1)) ≡ p + 1
      place = omega arith

      go : (b : Bool) → trial (moved w (set row (p - 1) (bit b)) (Up (p + 1))) ≡ trial (up_tried b (p - 1) (moved w row (Up p)))
      go true = rw place
      go false = rw place

-- ---- the other moves

found_at : (w : Walk) (b : Bool) → of_kind w.kind (row_of w) ≡ b → found_move b w ≡ move_at rules (Up (w.n + 1)) w
unfolding move_at
found_at w b e =
    let m : w.n + 1 ≡ suc w.n = omega arith in
    rw (m, le-ltb w.n w.n (omega arith), e)

pub from_found : (w : Walk) → w.at ≡ Up (w.n + 1) → (b : Bool) → of_kind w.kind (row_of w) ≡ b → found_move b w ≡ move_at rules w.at w
from_found w e b f = found_at w b f ∙ ap (λ s. move_at rules s w) (sym e)

pub from_limit : (w : Walk) → w.at ≡ Limit → (b : Bool) → is_necklace_of w.d (row_of w) ≡ b → limit_move b w ≡ move_at rules w.at w
unfolding move_at
from_limit w e b f = rw (e, f)

pub from_given : (w : Walk) → w.at ≡ Given → free (gone_below w.d w) ≡ move_at rules w.at w
unfolding move_at
from_given w e = rw e

pub gone_last : (w : Walk) → w.d ≡ 0 → gone_below w.d w ≡ moved w w.row (Down 0)
gone_last w e = ap (λ t. gone_below t w) e

pub gone_on : (w : Walk) → (w.d ≡ 0 → ⊥) → gone_below w.d w ≡ moved w (set w.row (w.n - 1) 0) (Down w.n)
gone_on w h = go w.d refl
  where
    go : (d : ℕ) → w.d ≡ d → gone_below d w ≡ moved w (set w.row (w.n - 1) 0) (Down w.n)
    go zero e = absurd (h e)
    go (suc d) e = refl

pub from_none : (w : Walk) → w.at ≡ Down 0 → answer (Ok None) (ended w) ≡ move_at rules w.at w
unfolding move_at
from_none w e = rw e

-- ---- good records

module _ {w : Walk} (g : Good rules w) where
  pub good_long : length w.row ≡ most_stations
  good_long = g.sound.long

  pub good_symbols : Within 2 w.row
  good_symbols =
      binary_within (subst Binary (take-append-drop w.n w.row) (binary_append g.sound.binary (test_binary 0 (drop w.n w.row) (omega arith) g.sound.clean)))

  pub good_down : (p : ℕ) → w.at ≡ Down p → p ≤ w.n
  good_down p e = rw e at g.placed

  -- what lies before the place where it stands begins a necklace
  pub good_up : (p : ℕ) → w.at ≡ Up p → (2 ≤ p) × (p ≤ w.n + 1) × (begins w.n w.d (take (p - 1) w.row) ≡ true)
  good_up zero e = absurd (rw e at g.placed)
  good_up (suc i) e =
      let h = rw e at g.placed in
      let same : suc i - 1 ≡ i = omega arith in
      (omega (arith, h.0), omega (arith, h.1), rw same h.2)

  -- a row that is found is a necklace
  pub good_found : w.at ≡ Up (w.n + 1) → Member w.n w.d (row_of w)
  good_found e =
      let m : w.n + 1 - 1 ≡ w.n = omega arith in
      begins_member w.n w.d (row_of w) (length-take-le w.n w.row (omega (arith, good_long, g.sound.most))) (rw m at (good_up (w.n + 1) e).2)
