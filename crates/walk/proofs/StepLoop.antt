-- The loop of a step: what it keeps from one turn to the next.
use mathlib.Core.Bool.{true, false}
use mathlib.Core.List.{List}
use mathlib.Core.Path.{subst, sym, ◌≡◌}
use Prim.Native.Nat.{ℕ, ◌-◌, ◌≤◌}
use native.Mathlib.Nat.{le_refl}
use native.Mathlib.Omega.{arith}
use lib.ListN.{length, take}
use lib.Seq.{length-take-le, take-take}
use Rattle.prefix.proofs.CarriedLaws.{knows_fewer}
use Rattle.prefix.specs.InnerCarried.{Knows, KnowsPrefixes}
use Rattle.prefix.specs.declared.carried.Known.{Known}
use Rattle.refusal.specs.declared.Refusal.TheVariants.{Unfit}
use Rattle.std.specs.Prelude.{Err, None}
use Rattle.walk.proofs.Invariant.{Fit, fit_at_lem, fit_sound}
use Rattle.walk.proofs.MoveCases.{good_long, good_symbols}
use Rattle.walk.proofs.StepAgrees.{fit-placed, fit_step}
use Rattle.walk.specs.InnerCourse.{Fitting, Good, Informed, Resumes, before, landed, rest}
use Rattle.walk.specs.Fit.{fit}
use Rattle.walk.specs.Moves.{row_of, rules}
use Rattle.walk.specs.Step.{step_of, stepped}
use Rattle.walk.specs.declared.Reached.{Reached}
use Rattle.walk.specs.declared.Standing.{Standing}
use Rattle.walk.specs.declared.Standing.TheVariants.{Down, Ended, Given, Limit, Up}
use Rattle.walk.specs.declared.Walk.{Walk}
use Rattle.words.proofs.Alphabet.{within_take}
use Rattle.words.specs.Symbols.{Within}
use Rattle.refusal.specs.Verdicts.{most_stations}

pub unfit_step : (allowance : ℕ) (w : Walk) → fit rules w ≡ false → stepped w (Err Unfit) 0 ≡ step_of rules w allowance
unfolding step_of
unfit_step allowance w e = rw e

-- from `first`, allowed so many trials, the loop has come to w, with so many left
pub record Going (first : Walk) (allowance : ℕ) (w : Walk) (left : ℕ) : Type 0 where
  pub fits : left ≤ allowance
  pub same : rest allowance left w ≡ step_of rules first allowance

-- ---- the loop begins

-- what is read first: the symbols before the place where it stands
before_inside : (s : Standing) (n : ℕ) → before s n ≤ n
before_inside Limit n = le_refl n
before_inside (Down p) n = omega arith
before_inside (Up p) n = omega arith
before_inside Given n = le_refl n
before_inside Ended n = omega arith

module _ {w : Walk} (f : Fitting w) where
  pub first_inside : before w.at w.n ≤ length w.row
  first_inside = omega (arith, before_inside w.at w.n, f.long, f.most)

  pub first_length : length (take (before w.at w.n) w.row) ≡ before w.at w.n
  first_length = length-take-le (before w.at w.n) w.row first_inside

  pub first_read : (prefixes : List ℕ) → KnowsPrefixes (row_of w) prefixes
      → let a = take (before w.at w.n) w.row in (length a ≤ most_stations) × Within 2 a × KnowsPrefixes a prefixes
  first_read prefixes k =
      let h = before_inside w.at w.n in
      let size : length (row_of w) ≡ w.n = length-take-le w.n w.row (omega (arith, f.long, f.most)) in (
        omega (arith, first_length, h, f.most),
        within_take (before w.at w.n) w.row f.symbols,
        subst (λ a. KnowsPrefixes a prefixes) (take-take (before w.at w.n) w.n w.row h) (knows_fewer (row_of w) prefixes (before w.at w.n) (omega (arith, size, h)) k),
      )

module _ (allowance : ℕ) (w : Walk) (e : fit rules w ≡ true) (l : length w.row ≡ most_stations) where
  pub fitting : Fit rules w
  fitting = record { test = e; long = l }

  pub first_informed : (prefixes : List ℕ) (known : Known) → KnowsPrefixes (row_of w) prefixes → Knows (take (before w.at w.n) w.row) known → Informed w prefixes known
  first_informed prefixes known t k = record { ready = record { sound = fit_sound fitting; placed = fit-placed rules w w.at (fit_at_lem fitting) }; table = t; knows = k }

  pub going_first : Going w allowance w allowance
  going_first = let m : allowance - allowance ≡ 0 = omega arith in record { fits = le_refl allowance; same = rw m (sym (fit_step rules w allowance fitting)) }

-- where a ring of another kind was found
module _ {w : Walk} {left : ℕ} {r : Reached} (q : Resumes w left r) (e : r.said ≡ None) where
  good : Good rules (landed w r)
  good = q.good e

  pub struck_inside : w.n ≤ most_stations
  struck_inside = good.sound.most

  pub struck_long : length r.row ≡ most_stations
  struck_long = good_long good

  pub struck-length : length (row_of (landed w r)) ≡ w.n
  struck-length = length-take-le w.n r.row (omega (arith, struck_long, struck_inside))

  pub struck_symbols : Within 2 (row_of (landed w r))
  struck_symbols = within_take w.n r.row (good_symbols good)
