-- `drawer_lines::write_refusal` meets its contract, piece by piece.
use mathlib.Core.List.{List, append_assoc, ◌++◌}
use mathlib.Core.Path.{ap, ◌∙◌, ◌≡◌}
use Prim.Native.Nat.{ℕ, ◌+◌, ◌≤◌}
use native.Mathlib.Omega.{arith}
use lib.ListN.{length}
use Rattle.drawer_lines.proofs.Filling.{Filled, filled_all, filled_more, filled_none, refusal_length, too_short}
use Rattle.text.proofs.Digits.{field-length}
use Rattle.text.specs.Buffers.{placed}
use Rattle.text.specs.Decimals.{decimal, field}
use Rattle.drawer_lines.specs.Lines.{longest_line, refusal_text, refused_names}
use Rattle.text.specs.Parts.{feed, space}
use Rattle.refusal.specs.Refusals.{number_of, place_of}
use Rattle.refusal.specs.declared.Refusal.{Refusal}
use Rattle.drawer_lines.proofs.write_refusal.Goals.{After-decimal_length-2}
use Rattle.drawer_lines.proofs.write_refusal.Goals as goal

-- the refusal's two numbers, and how many digits they have
record Numbers (r : Refusal) (number place digits digits2 : ℕ) : Type 0 where
  first : number ≡ number_of r
  second : place ≡ place_of r
  some : digits ≡ length (decimal (number_of r))
  others : digits2 ≡ length (decimal (place_of r))

numbers : (r : Refusal) {number place digits digits2 : ℕ} → number ≡ number_of r → place ≡ place_of r → digits ≡ length (decimal number) → digits2 ≡ length (decimal place) → Numbers r number place digits digits2
numbers r f s d e =
    record {
      first = f;
      second = s;
      some = d ∙ ap (λ n. length (decimal n)) f;
      others = e ∙ ap (λ n. length (decimal n)) s;
    }

told : (c : After-decimal_length-2) → Numbers c.args.r c.from-number.result c.place-place.result c.decimal_length.result c.decimal_length-2.result
told c =
    numbers c.args.r (c.from-number.ensures ∙ c.number.ensures) c.place-place.ensures c.decimal_length.ensures.0 c.decimal_length-2.ensures.0

-- two numbers of 64 bits
short : {r : Refusal} {number place digits digits2 : ℕ} → Numbers r number place digits digits2 → digits ≤ 20 → digits2 ≤ 20 → length (refusal_text r) ≤ longest_line
short {r} n d e = omega (arith, refusal_length r)

pub returns-then-out-decimal_length : goal.returns-then-out-decimal_length
returns-then-out-decimal_length c =
    let a = c.args in
    let n = told (goal.at.returns-then-out-decimal_length c).After-decimal_length-2 in
    let w = too_short (refusal_text a.r) a.out.now (omega (arith, refusal_length a.r)) in
    record { answer = w.0; buffer = w.1; short = short n c.decimal_length.ensures.1 c.decimal_length-2.ensures.1 }

-- there is room for the text
room : {r : Refusal} {number place digits digits2 : ℕ} (O : List ℕ) → Numbers r number place digits digits2 → digits + digits2 + 16 ≤ length O → length (refusal_text r) ≤ length O
room {r} O n h = omega (arith, refusal_length r)

named : (r : Refusal) {O o : List ℕ} {at : ℕ} → length (refusal_text r) ≤ length O → at ≡ 0 + length refused_names → o ≡ placed O 0 refused_names → Filled O refused_names o at
named r {O} m e f = filled_more (filled_none O) refused_names (omega (arith, refusal_length r)) e f

numbered : (r : Refusal) {O o o' : List ℕ} {at at' : ℕ} → length (refusal_text r) ≤ length O → Filled O refused_names o at → at' ≡ at + length (field (number_of r) space) → o' ≡ placed o at (field (number_of r) space) → Filled O (refused_names ++ field (number_of r) space) o' at'
numbered r m f d e = filled_more f (field (number_of r) space) (omega (arith, refusal_length r, field-length (number_of r) space)) d e

pub put_field-b-requires : goal.put_field-b-requires
put_field-b-requires c =
    let r = c.args.r in
    let n = told (goal.at.put_field-b-requires c).After-decimal_length-2 in
    let m = room c.args.out.now n c.if-out-decimal_length.false in
    let f = named r m c.put-a.ensures.0 c.put-a.ensures.1 in
    rw n.first (omega (arith, refusal_length r, field-length (number_of r) space))

pub put_field-requires : goal.put_field-requires
put_field-requires c =
    let r = c.args.r in
    let n = told (goal.at.put_field-requires c).After-decimal_length-2 in
    let m = room c.args.out.now n c.if-out-decimal_length.false in
    let f = named r m c.put-a.ensures.0 c.put-a.ensures.1 in
    let p = rw n.first at c.put_field-b.ensures in
    let g = numbered r m f p.0 p.1 in
    rw n.second (omega (arith, refusal_length r, field-length (number_of r) space, field-length (place_of r) feed))

pub returns : goal.returns
unfolding refusal_text
returns c =
    let r = c.args.r in
    let O = c.args.out.now in
    let n = told (goal.at.returns c).After-decimal_length-2 in
    let m = room O n c.if-out-decimal_length.false in
    let f = named r m c.put-a.ensures.0 c.put-a.ensures.1 in
    let b = rw n.first at c.put_field-b.ensures in
    let g = numbered r m f b.0 b.1 in
    let q = rw n.second at c.put_field.ensures in
    let k : length (refused_names ++ field (number_of r) space) + length (field (place_of r) feed) ≤ length O = omega (arith, refusal_length r, field-length (number_of r) space, field-length (place_of r) feed) in
    let w = filled_all (refusal_text r) (filled_more g (field (place_of r) feed) k q.0 q.1) (simp append_assoc) m in
    record { answer = w.0; buffer = w.1; short = short n c.decimal_length.ensures.1 c.decimal_length-2.ensures.1 }
