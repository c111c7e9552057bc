-- What the answers on how two rows fit give, at each return.
use mathlib.Core.Bool.{Bool, false, true}
use mathlib.Core.List.{List, reverse}
use mathlib.Core.Path.{ap, refl, sym, ◌∙◌, ◌≡◌}
use Prim.Native.Nat.{ℕ, ◌<◌, ◌≤◌}
use native.Mathlib.Omega.{arith}
use lib.IntN.{ℤ, nat_abs}
use lib.ListN.{length, length-reverse}
use borrow.Author.Tests.{eq-eqb, ne_eqb}
use mir.Syntax.{w64}
use mir.Val.{of_z, to_z}
use Rattle.std.specs.Prelude.{Err, None, Ok, Option, Result, Some}
use Rattle.coated.proofs.Signed.{kept}
use Rattle.coated.proofs.SignedTurns.{nearest_is, nearest_short, rotates_to→}
use Rattle.coated.specs.Answers.{fit_outcome, fit_told, fit_verdict, turn_found}
use Rattle.coated.specs.Fitting.{fit_of, nearest_turn, rotates_to}
use Rattle.coated.specs.declared.FitAnswer.{FitAnswer}
use Rattle.coated.specs.declared.FitAnswer.TheVariants.{Both, Different, Over, Turning}
use Rattle.refusal.specs.Outcomes.{decide}
use Rattle.refusal.specs.Verdicts.{are_stations, most_stations}
use Rattle.refusal.specs.declared.Refusal.{Refusal}
use Rattle.refusal.specs.declared.Refusal.TheVariants.{Limit, Stations, Symbol}
use Rattle.words.proofs.Booleans.{clash}
use Rattle.words.specs.Symbols.{first_wrong}

-- ---- what is refused

-- what `fit` promises of an answer
abbrev pub FitKept : List ℕ → List ℕ → Result FitAnswer Refusal → Type 0
FitKept a b r = fit_outcome r ≡ decide (fit_verdict a b) (fit_of a b)

pub fit_stations : (a b : List ℕ) → are_stations (length a) ≡ false → FitKept a b (Err Stations)
unfolding fit_verdict
fit_stations a b e = rw e

module _ (a b : List ℕ) (e : are_stations (length a) ≡ true) where
  pub fit_length : (length b ≡ length a → ⊥) → FitKept a b (Err Limit)
  unfolding fit_verdict
  fit_length h = rw (e, ne_eqb (length b) (length a) h)

  pub fit_first : length b ≡ length a → (x : ℕ) → x ≡ first_wrong 2 a →
      (x ≡ 0 → ⊥) → FitKept a b (Err (Symbol x))
  unfolding fit_verdict
  fit_first l x q h = rw (e, eq-eqb (length b) (length a) l, ← q, ne_eqb x 0 h)

-- what is known behind the tests of the first row and of the lengths
pub record Checked (a b : List ℕ) : Type 0 where
  pub stations : are_stations (length a) ≡ true
  pub as_long : length b ≡ length a
  pub right : first_wrong 2 a ≡ 0

module _ {a b : List ℕ} (c : Checked a b) where
  pub fit_second : (x : ℕ) → x ≡ first_wrong 2 b → (x ≡ 0 → ⊥) → FitKept a b (Err (Symbol x))
  unfolding fit_verdict
  fit_second x q h = rw
      (c.stations, eq-eqb (length b) (length a) c.as_long, eq-eqb (first_wrong 2 a) 0 c.right, ← q, ne_eqb x 0 h)

  pub fit_found : first_wrong 2 b ≡ 0 → (r : FitAnswer) → fit_told r ≡ fit_of a b → FitKept a b (Ok r)
  unfolding fit_verdict
  fit_found g r k = rw (
    c.stations,
    eq-eqb (length b) (length a) c.as_long,
    eq-eqb (first_wrong 2 a) 0
        c.right,
    eq-eqb (first_wrong 2 b) 0 g,
  ) (ap Ok k)

-- ---- the answer, from what two searches gave

-- p for the row, q for its reverse
pub record Searched (a b : List ℕ) (p q : Option ℤ) : Type 0 where
  pub some : 0 < length a
  pub most : length a ≤ most_stations
  pub plain : p ≡ turn_found (rotates_to a b) (nearest_turn a b)
  pub over : q ≡ turn_found (rotates_to (reverse a) b) (nearest_turn (reverse a) b)

-- a turn that was found, and as a number of the code
found : (w b : List ℕ) (s : ℤ) → 0 < length w → length w ≤ most_stations
    → Some s ≡ turn_found (rotates_to w b) (nearest_turn w b) →
    (rotates_to w b ≡ true) × (to_z w64 (of_z w64 s) ≡ nearest_turn w b)
found w b s h most e = go (rotates_to w b) refl e
  where
    go : (t : Bool) → rotates_to w b ≡ t → Some s ≡ turn_found t (nearest_turn w b) →
        (rotates_to w b ≡ true) × (to_z w64 (of_z w64 s) ≡ nearest_turn w b)
    go true t e =
        let z : s ≡ nearest_turn w b = cc in
        let short = nearest_short w b (nearest_turn w b) h (nearest_is w b (rotates_to→ w b t)) in
        (t, kept s (omega (arith, short, ap nat_abs z, most)) ∙ z)
    go false t e = clash (cc)

-- and none
none : (w b : List ℕ) → None ≡ turn_found (rotates_to w b) (nearest_turn w b) → rotates_to w b ≡ false
none w b e = go (rotates_to w b) refl e
  where
    go : (t : Bool) → rotates_to w b ≡ t → None ≡ turn_found t (nearest_turn w b) → rotates_to w b ≡ false
    go true t e = clash (cc)
    go false t e = t

module _ {a b : List ℕ} {p q : Option ℤ} (r : Searched a b p q) where
  plainly : (s : ℤ) → p ≡ Some s → (rotates_to a b ≡ true) × (to_z w64 (of_z w64 s) ≡ nearest_turn a b)
  plainly s u = found a b s r.some r.most (sym u ∙ r.plain)

  turned : (s : ℤ) → q ≡ Some s → (rotates_to (reverse a) b ≡ true) × (to_z w64 (of_z w64 s) ≡ nearest_turn (reverse a) b)
  turned s u = found (reverse a) b s (omega (arith, length-reverse a, r.some))
      (omega (arith, length-reverse a, r.most)) (sym u ∙ r.over)

  pub fit_both : (s t : ℤ) → p ≡ Some s → q ≡ Some t → fit_told (Both (to_z w64 (of_z w64 s))) ≡ fit_of a b
  unfolding fit_of
  fit_both s t u w = let x = plainly s u in rw (x.0, (turned t w).0, x.1)

  pub fit_turning : (s : ℤ) → p ≡ Some s → q ≡ None → fit_told (Turning (to_z w64 (of_z w64 s))) ≡ fit_of a b
  unfolding fit_of
  fit_turning s u w = let x = plainly s u in rw (x.0, none (reverse a) b (sym w ∙ r.over), x.1)

  pub fit_over : (s : ℤ) → p ≡ None → q ≡ Some s → fit_told (Over (to_z w64 (of_z w64 s))) ≡ fit_of a b
  unfolding fit_of
  fit_over s u w = let y = turned s w in rw (none a b (sym u ∙ r.plain), y.0, y.1)

  pub fit_different : p ≡ None → q ≡ None → fit_told Different ≡ fit_of a b
  unfolding fit_of
  fit_different u w = rw (none a b (sym u ∙ r.plain), none (reverse a) b (sym w ∙ r.over))
