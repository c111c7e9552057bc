-- `walk::Walk::step` meets its contract.
use mathlib.Core.Bool.{Bool, true}
use mathlib.Core.List.{List}
use mathlib.Core.Path.{ap, refl, subst, sym, ◌∙◌, ◌≡◌}
use Prim.Native.Nat.{ℕ, ◌≤◌}
use native.Mathlib.Omega.{arith}
use lib.ListN.{length, take}
use lib.Seq.{length-take-le}
use Rattle.walk.proofs.FitCases.{fit_no_rows, fit_no_sizes, fit_so_far, record_fitting, sizes→}
use Rattle.walk.proofs.StepLoop.{first_informed, first_inside, first_length, first_read, going_first, struck_inside, struck-length, struck_symbols, unfit_step}
use Rattle.prefix.specs.InnerCarried.{Knows, KnowsPrefixes}
use Rattle.walk.specs.InnerCourse.{Fitting, before}
use Rattle.walk.specs.Fit.{fit, fit_at, fit_rows, fit_sizes}
use Rattle.walk.specs.Moves.{row_of, rules}
use Rattle.walk.specs.Step.{step_numbers}
use Rattle.walk.specs.declared.Walk.{Walk}
use Rattle.refusal.specs.Verdicts.{most_stations}
use Rattle.words.specs.Symbols.{Within}
use Rattle.walk.proofs.Walk.step.Goals as goal
use Rattle.walk.proofs.Walk.step.Goals.{After-read-known, Else-not-are_padded, Else-not-fit_at, In-Some-Err, In-Some-Ok-None, In-Some-Ok-Ring}

-- ---- the tests on the record

-- what has been shown of the record once its sizes and rows are tested
record Tested (w : Walk) : Type 0 where
  sizes : fit_sizes rules w ≡ true
  rows : fit_rows w ≡ true
  long : length w.row ≡ most_stations

module _ {w : Walk} (t : Tested w) where
  fitting : Fitting w
  fitting = record_fitting w t.sizes t.rows t.long

  inside : w.n ≤ length w.row
  inside = omega (arith, t.long, fitting.most)

  whole : length (row_of w) ≡ w.n
  whole = length-take-le w.n w.row inside

  -- the symbols before the place where the walk stands
  module _ {m : ℕ} (e : m ≡ before w.at w.n) where
    front_inside : m ≤ length w.row
    front_inside = rw e (first_inside fitting)

    front_length : length (take m w.row) ≡ m
    front_length = rw e (first_length fitting)

    front_read : {prefixes : List ℕ} → KnowsPrefixes (row_of w) prefixes → let a = take m w.row in (length a ≤ most_stations) × Within 2 a × KnowsPrefixes a prefixes
    front_read {prefixes} k = rw e (first_read fitting prefixes k)

  -- the whole test
  all_tested : {b : Bool} → b ≡ fit_at rules w.at w → b ≡ fit rules w
  all_tested e = e ∙ fit_so_far w t.sizes t.rows

-- by the code's tests
shown : {w : Walk} {sizes rows : Bool} → sizes ≡ fit_sizes rules w → sizes ≡ true → rows ≡ fit_rows w → rows ≡ true → length w.row ≡ most_stations → Tested w
shown p p' q q' l = record { sizes = sym p ∙ p'; rows = sym q ∙ q'; long = l }

tested : (c : Else-not-are_padded) → Tested c.args.self
tested c = shown c.fit_sizes.ensures c.if-not-fit_sizes.false c.are_padded.ensures c.if-not-are_padded.false (search c.well_formed)

-- and once all of it is
fitted : (c : Else-not-fit_at) → fit rules c.args.self ≡ true
fitted c =
    let t : Tested c.args.self = shown c.fit_sizes.ensures c.if-not-fit_sizes.false c.are_padded.ensures c.if-not-are_padded.false (search c.well_formed) in
    sym (all_tested t c.fit_at.ensures) ∙ c.if-not-fit_at.false

-- what is known of the symbols before the place where it stands
knows_before : (c : After-read-known) → Knows (take (before c.args.self.at c.args.self.n) c.args.self.row) c.read-known.result
knows_before c = subst (λ m. Knows (take m c.args.self.row) c.read-known.result) c.before-m.ensures c.read-known.ensures

pub returns-then-not-fit_sizes : goal.returns-then-not-fit_sizes
returns-then-not-fit_sizes c =
    let e = c.unfit.ensures ∙ unfit_step c.args.allowance c.args.self (fit_no_sizes c.args.self (sym c.fit_sizes.ensures ∙ c.if-not-fit_sizes.true)) in
    record { answer = e; numbers = ap step_numbers e }

pub are_padded-requires : goal.are_padded-requires
are_padded-requires c =
    let long : length c.args.self.row ≡ most_stations = search c.well_formed in
    let kept_long : length c.args.self.kept ≡ most_stations = search c.well_formed in
    (omega (arith, long, (sizes→ c.args.self (sym c.fit_sizes.ensures ∙ c.if-not-fit_sizes.false)).0.most), long ∙ sym kept_long)

pub returns-then-not-are_padded : goal.returns-then-not-are_padded
returns-then-not-are_padded c =
    let e =
    c.unfit-then-not-are_padded.ensures
    ∙ unfit_step c.args.allowance c.args.self (fit_no_rows c.args.self (sym c.fit_sizes.ensures ∙ c.if-not-fit_sizes.false) (sym c.are_padded.ensures ∙ c.if-not-are_padded.true)) in
    record { answer = e; numbers = ap step_numbers e }

pub slice_bounds-row-end : goal.slice_bounds-row-end
slice_bounds-row-end c =
    let t = tested (goal.at.slice_bounds-row-end c).Else-not-are_padded in
    inside t

pub slice_bounds-prefixes_of-end : goal.slice_bounds-prefixes_of-end
slice_bounds-prefixes_of-end c =
    let t = tested (goal.at.slice_bounds-prefixes_of-end c).Else-not-are_padded in
    sym (whole t)

pub slice_bounds-row-end-2 : goal.slice_bounds-row-end-2
slice_bounds-row-end-2 c =
    let t = tested (goal.at.slice_bounds-row-end-2 c).Else-not-are_padded in
    front_inside t c.before-m.ensures

pub slice_bounds-read-end : goal.slice_bounds-read-end
slice_bounds-read-end c =
    let t = tested (goal.at.slice_bounds-read-end c).Else-not-are_padded in
    sym (front_length t c.before-m.ensures)

pub read-known-requires : goal.read-known-requires
read-known-requires c =
    let t = tested (goal.at.read-known-requires c).Else-not-are_padded in
    front_read t c.before-m.ensures c.prefixes_of-prefixes.ensures

pub slice_bounds-row-end-3 : goal.slice_bounds-row-end-3
slice_bounds-row-end-3 c =
    let t = tested (goal.at.slice_bounds-row-end-3 c).Else-not-are_padded in
    inside t

pub slice_bounds-fit_at-end : goal.slice_bounds-fit_at-end
slice_bounds-fit_at-end c =
    let t = tested (goal.at.slice_bounds-fit_at-end c).Else-not-are_padded in
    sym (whole t)

pub fit_at-requires : goal.fit_at-requires
fit_at-requires c =
    let t = tested (goal.at.fit_at-requires c).Else-not-are_padded in
    (fitting t, knows_before (goal.at.fit_at-requires c).After-read-known, refl, refl)

pub returns-then-not-fit_at : goal.returns-then-not-fit_at
returns-then-not-fit_at c =
    let t = tested (goal.at.returns-then-not-fit_at c).Else-not-are_padded in
    let e = c.unfit-then-not-fit_at.ensures ∙ unfit_step c.args.allowance c.args.self (sym (all_tested t c.fit_at.ensures) ∙ c.if-not-fit_at.true) in
    record { answer = e; numbers = ap step_numbers e }

pub loop-kept-init : goal.loop-kept-init
loop-kept-init c =
    let t = tested (goal.at.loop-kept-init c).Else-not-are_padded in
    let fits = fitted (goal.at.loop-kept-init c).Else-not-fit_at in
    let knows = knows_before (goal.at.loop-kept-init c).After-read-known in
    (first_informed c.args.allowance c.args.self fits t.long _ _ c.prefixes_of-prefixes.ensures knows, going_first c.args.allowance c.args.self fits t.long)

-- ---- a ring of another kind

pub read-known-requires-in-loop-kept : goal.read-known-requires-in-loop-kept
read-known-requires-in-loop-kept c =
    let q = c.go_on-reached.ensures in
    (omega (arith, struck-length q c.in-None.is, struck_inside q c.in-None.is), struck_symbols q c.in-None.is, c.prefixes_of-prefixes-in-loop-kept.ensures)
