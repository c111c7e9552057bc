-- The test of two walk records is equality.
use mathlib.Core.Bool.{Bool, false, not, true, ◌&&◌}
use mathlib.Core.List.{List}
use mathlib.Core.Path.{ap, ap₂, refl, sym, ◌∙◌, ◌≡◌}
use Prim.Native.Nat.{suc, zero, ℕ}
use lib.Dec.{eqb}
use borrow.Author.Tests.{eq-eqb, eqb-true}
use Rattle.std.proofs.lemmas.Bool.Decides.{Decides-eqb}
use Rattle.std.proofs.lemmas.Slice.Eq.{slice_eq-Decides}
use Rattle.std.specs.Cmp.Lexicographic.{pointwise}
use Rattle.walk.specs.contracts.StandingPartialEq.TheImpl as StandingEq
use Rattle.walk.specs.contracts.WalkPartialEq.TheImpl as WalkEq
use Rattle.walk.specs.declared.Standing.{Standing}
use Rattle.walk.specs.declared.Standing.TheVariants.{Down, Ended, Given, Limit, Up}
use Rattle.walk.specs.declared.Walk.{Walk}
use Rattle.words.proofs.Booleans.{and→, never, same_test, →and}
use Rattle.words.proofs.Difference.{no_difference}
use Rattle.words.proofs.OrderTests.{same→, →same}
use Rattle.words.specs.Difference.{first_difference}
use Rattle.words.specs.Order.{same}
use Rattle.walk_records.specs.Claims.{SameWalk}
use Rattle.walk_records.specs.SameWalks.{same_standing, same_walk, standing_number, standing_place}

-- ---- standings

-- the standing of a number and a place
abbrev standing : ℕ → ℕ → Standing
standing zero p = Limit
standing (suc zero) p = Down p
standing (suc (suc zero)) p = Up p
standing (suc (suc (suc zero))) p = Given
standing (suc (suc (suc (suc k)))) p = Ended

standing_back : (a : Standing) → standing (standing_number a) (standing_place a) ≡ a
standing_back Limit = refl
standing_back (Down p) = refl
standing_back (Up p) = refl
standing_back Given = refl
standing_back Ended = refl

standing_same→ : (a b : Standing) → same_standing a b ≡ true → a ≡ b
unfolding same_standing
standing_same→ a b e =
    let h = and→ (eqb (standing_number a) (standing_number b)) (eqb (standing_place a) (standing_place b)) e in
    let number = eqb-true (standing_number a) (standing_number b) h.0 in
    let place = eqb-true (standing_place a) (standing_place b) h.1 in
    sym (standing_back a) ∙ ap₂ standing number place ∙ standing_back b

standing_self : (a : Standing) → same_standing a a ≡ true
unfolding same_standing
standing_self a =
    →and (eq-eqb (standing_number a) (standing_number a) refl) (eq-eqb (standing_place a) (standing_place a) refl)

-- the derived test
standing_derived : (a b : Standing) → StandingEq.ghosts.eq a b ≡ same_standing a b
unfolding same_standing
standing_derived Limit Limit = refl
standing_derived Limit (Down q) = refl
standing_derived Limit (Up q) = refl
standing_derived Limit Given = refl
standing_derived Limit Ended = refl
standing_derived (Down p) Limit = refl
standing_derived (Down p) (Down q) = refl
standing_derived (Down p) (Up q) = refl
standing_derived (Down p) Given = refl
standing_derived (Down p) Ended = refl
standing_derived (Up p) Limit = refl
standing_derived (Up p) (Down q) = refl
standing_derived (Up p) (Up q) = refl
standing_derived (Up p) Given = refl
standing_derived (Up p) Ended = refl
standing_derived Given Limit = refl
standing_derived Given (Down q) = refl
standing_derived Given (Up q) = refl
standing_derived Given Given = refl
standing_derived Given Ended = refl
standing_derived Ended Limit = refl
standing_derived Ended (Down q) = refl
standing_derived Ended (Up q) = refl
standing_derived Ended Given = refl
standing_derived Ended Ended = refl

-- ---- rows, by the place where they differ

pub row_same : (a b : List ℕ) (p : ℕ) → p ≡ first_difference a b → eqb p 0 ≡ same a b
row_same a b p e =
    same_test (eqb p 0) (same a b)
    (λ t. →same a b ((no_difference a b).0 (sym e ∙ eqb-true p 0 t)))
    (λ t. eq-eqb p 0 (e ∙ (no_difference a b).1 (same→ a b t)))

row_self : (a : List ℕ) → same a a ≡ true
row_self a = →same a a refl

row_derived : (a b : List ℕ) → pointwise eqb a b ≡ same a b
row_derived a b =
    let d = slice_eq-Decides Decides-eqb a b (pointwise eqb a b) refl in
    same_test (pointwise eqb a b) (same a b) (λ e. →same a b (d.0 e)) (λ e. d.1 (same→ a b e))

-- ---- records

pub same_walk_lem : SameWalk
unfolding same_walk
same_walk_lem a b = (there, λ e. rw e (self b))
  where
    there : same_walk a b ≡ true → a ≡ b
    there e =
        let n = and→ (eqb a.n b.n) _ e in
        let d = and→ (eqb a.d b.d) _ n.1 in
        let k = and→ (eqb a.kind b.kind) _ d.1 in
        let s = and→ (same_standing a.at b.at) _ k.1 in
        let r = and→ (same a.row b.row) _ s.1 in
        let en : a.n ≡ b.n = eqb-true a.n b.n n.0 in
        let ed : a.d ≡ b.d = eqb-true a.d b.d d.0 in
        let ek : a.kind ≡ b.kind = eqb-true a.kind b.kind k.0 in
        let es : a.at ≡ b.at = standing_same→ a.at b.at s.0 in
        let er : a.row ≡ b.row = same→ a.row b.row r.0 in
        let et : a.kept ≡ b.kept = same→ a.kept b.kept r.1 in
        rw (en, ed, ek, es, er, et)

    self : (w : Walk) → same_walk w w ≡ true
    self w =
        →and (eq-eqb w.n w.n refl)
        (→and (eq-eqb w.d w.d refl)
        (→and (eq-eqb w.kind w.kind refl)
        (→and (standing_self w.at)
        (→and (row_self w.row) (row_self w.kept)))))

-- ---- the test, field by field

pub not_true : {x : Bool} → not x ≡ true → x ≡ false
not_true {x = true} e = sym e
not_true {x = false} e = refl

pub not_false : {x : Bool} → not x ≡ false → x ≡ true
not_false {x = true} e = refl
not_false {x = false} e = sym e

module _ (a b : Walk) where
  abbrev Sized : Type 0
  Sized = (a.n ≡ b.n) × (a.d ≡ b.d) × (a.kind ≡ b.kind)

  -- of other sizes
  pub other_sizes : (Sized → ⊥) → same_walk a b ≡ false
  other_sizes f = never (same_walk a b) (λ q. let e = (same_walk_lem a b).0 q in f (rw e (refl, refl, refl)))

  -- of standings with other numbers
  pub other_numbers : (standing_number a.at ≡ standing_number b.at → ⊥) → same_walk a b ≡ false
  other_numbers f = never (same_walk a b) (λ q. f (ap (λ w. standing_number w.at) ((same_walk_lem a b).0 q)))

  module _ {s : Bool} (h : Sized) (e : s ≡ StandingEq.ghosts.eq a.at b.at) where
    sized : same_walk a b ≡ s && (same a.row b.row && same a.kept b.kept)
    unfolding same_walk
    sized = rw (eq-eqb _ _ h.0, eq-eqb _ _ h.1, eq-eqb _ _ h.2, e, standing_derived a.at b.at) refl

    -- of other standings
    pub other_standings : s ≡ false → same_walk a b ≡ false
    other_standings f = sized ∙ ap (λ x. x && (same a.row b.row && same a.kept b.kept)) f

    -- of one standing
    pub by_rows : s ≡ true → same_walk a b ≡ same a.row b.row && same a.kept b.kept
    by_rows f = sized ∙ ap (λ x. x && (same a.row b.row && same a.kept b.kept)) f

swapped : (x y z : Bool) → (x && (y && z)) ≡ (y && (x && z))
swapped true y z = refl
swapped false true z = refl
swapped false false z = refl

-- the derived test: the rows before the standing
pub same_derived : (a b : Walk) {r : Bool} → r ≡ WalkEq.ghosts.eq a b → r ≡ same_walk a b
unfolding same_walk
same_derived a b e =
    e
    ∙ rw (row_derived a.row b.row, row_derived a.kept b.kept, standing_derived a.at b.at, swapped (same a.row b.row) (same_standing a.at b.at) (same a.kept b.kept))
