-- `drawer_input::read_drawer` meets its contract: each return has passed the tests before it.
use mathlib.Core.Bool.{true}
use mathlib.Core.List.{List}
use mathlib.Core.Path.{refl, sym, ◌∙◌, ◌≡◌}
use Prim.Native.Nat.{ℕ, ◌+◌, ◌<◌, ◌≤◌}
use native.Mathlib.Omega.{arith}
use lib.ListN.{length}
use borrow.Author.Tests.{le-leb, lt-leb}
use Rattle.drawer_input.proofs.Inputs.{all_read, from_input, limit_length, limit_put, misnamed, no_values, over_long, too_many}
use Rattle.drawer_input.proofs.ValueLines.{line as line_of_values, line_inside}
use Rattle.drawer_input.specs.Input.{most_bytes, names, read_drawer, values_at}
use Rattle.std.specs.Prelude.{Err}
use Rattle.refusal.specs.declared.Refusal.TheVariants.{Text}
use Rattle.words.specs.Tests.{is_prefix}
use Rattle.drawer_input.proofs.read_drawer.Goals.{In-Some}
use Rattle.drawer_input.proofs.read_drawer.Goals as goal
use Rattle.drawer_input.proofs.read_drawer.Goals.{then-text-gt-MOST_BYTES-via-then-text-gt-MOST_BYTES, then-text-gt-MOST_BYTES-via-else-text-gt-MOST_BYTES+then-not-stands_at}

-- the names line stands in a text of few enough bytes
record Named (s : List ℕ) : Type 0 where
  few : length s ≤ most_bytes
  named : is_prefix names s ≡ true

pub returns-then-text-gt-MOST_BYTES : goal.returns-then-text-gt-MOST_BYTES
returns-then-text-gt-MOST_BYTES c =
    let s = c.args.text.now in
    let e : read_drawer s ≡ Err (Text 1) =
    elim c.then-text-gt-MOST_BYTES.branch [ then-text-gt-MOST_BYTES-via-then-text-gt-MOST_BYTES w ↦ over_long s w.if-text-gt-MOST_BYTES.true | then-text-gt-MOST_BYTES-via-else-text-gt-MOST_BYTES+then-not-stands_at w ↦ misnamed s w.if-text-gt-MOST_BYTES.false (sym w.stands_at.ensures ∙ w.if-not-stands_at.true) ] in
    let w = from_input s c.args.limit.now _ e _ _ refl refl in
    record { answer = w.0; buffer = w.1 }

pub returns-in_default : goal.returns-in_default
returns-in_default c =
    let s = c.args.text.now in
    let w = from_input s c.args.limit.now _ (no_values s c.if-text-gt-MOST_BYTES.false (sym c.stands_at.ensures ∙ c.if-not-stands_at.false) (sym c.in_default.is ∙ c.values_at.ensures)) _ _ refl refl in
    record { answer = w.0; buffer = w.1 }

-- a line of values was read, from start on for the limit, and stands within the text
record Lined (s : List ℕ) (n d k start size : ℕ) : Type 0 where
  head : Named s
  line : line_of_values n d k start size ≡ values_at s (length names)
  inside : start + size < length s

lined : (s : List ℕ) {n d k start size : ℕ} → length s ≤ most_bytes → is_prefix names s ≡ true → line_of_values n d k start size ≡ values_at s (length names) → Lined s n d k start size
lined s f p e = record { head = record { few = f; named = p }; line = e; inside = line_inside s (length names) e }

read_line : (c : In-Some) → Lined c.args.text.now c.in-Some.values.stations c.in-Some.values.holes c.in-Some.values.kind c.in-Some.values.start c.in-Some.values.size
read_line c = lined c.args.text.now c.if-text-gt-MOST_BYTES.false (sym c.stands_at.ensures ∙ c.if-not-stands_at.false) (sym c.in-Some.is ∙ c.values_at.ensures)

-- a line too many is refused,
-- and the limit is not touched
pub returns-then-end-text : goal.returns-then-end-text
returns-then-end-text c =
    let s = c.args.text.now in
    let l = read_line (goal.at.returns-then-end-text c).In-Some in
    let w = from_input s c.args.limit.now _ (too_many s l.head.few l.head.named _ _ _ _ _ l.line c.if-end-text.true) _ _ refl refl in
    record { answer = w.0; buffer = w.1 }

pub returns-then-limit-values : goal.returns-then-limit-values
returns-then-limit-values c =
    let s = c.args.text.now in
    let l = read_line (goal.at.returns-then-limit-values c).In-Some in
    let r = all_read s l.head.few l.head.named _ _ _ _ _ l.line c.if-end-text.false in
    let e = limit_length s _ _ l.inside in
    let w = from_input s c.args.limit.now _ r _ _ (rw (e, lt-leb _ _ c.if-limit-values.true)) (rw (e, lt-leb _ _ c.if-limit-values.true)) in
    record { answer = w.0; buffer = w.1 }

pub returns : goal.returns
returns c =
    let s = c.args.text.now in
    let l = read_line (goal.at.returns c).In-Some in
    let r = all_read s l.head.few l.head.named _ _ _ _ _ l.line c.if-end-text.false in
    let room = c.if-limit-values.false in
    let w = from_input s c.args.limit.now _ r _ _
    (rw (limit_length s _ _ l.inside, le-leb _ _ room))
    (limit_put s c.args.limit.now _ _ _ l.inside room c.write_symbols.ensures) in
    record { answer = w.0; buffer = w.1 }

pub overflow_add-end : goal.overflow_add-end
overflow_add-end c =
    let l = read_line (goal.at.overflow_add-end c).In-Some in
    omega (arith, l.inside)

pub overflow_add-end-2 : goal.overflow_add-end-2
overflow_add-end-2 c =
    let l = read_line (goal.at.overflow_add-end-2 c).In-Some in
    omega (arith, l.inside)
