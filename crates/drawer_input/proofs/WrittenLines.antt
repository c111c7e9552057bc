-- A line of values as it is written, and as it stands at a place.
use mathlib.Core.List.{List, append_assoc, map, ◌++◌, ◌∷◌}
use mathlib.Core.Path.{ap, refl, sym, ◌∙◌, ◌≡◌}
use Prim.Native.Nat.{ℕ, ◌+◌}
use native.Mathlib.Omega.{arith}
use lib.ListN.{drop, length, length-append, take}
use Rattle.drawer_input.proofs.ValueLines.{LineAt, limit_bytes, limit_here}
use Rattle.drawer_input.specs.Claims.{ValueLine}
use Rattle.drawer_input.specs.Input.{Asked}
use Rattle.text.proofs.Places.{spaced_here, spaced-rest}
use Rattle.text.specs.Ascii.{ascii}
use Rattle.text.specs.Decimals.{decimal}
use Rattle.text.specs.Parts.{feed, space}
use Rattle.text.specs.Symbols.{symbol_of}

-- what is read at a place, with the limit's start and size
abbrev pub asked : List ℕ → ℕ → ℕ → ℕ → ℕ → ℕ → Asked
asked s n d kind start size =
    record { stations = n; holes = d; kind = kind; limit = map symbol_of (take size (drop start s)) }

-- the parts of a line and what follows it
abbrev parts : ℕ → ℕ → ℕ → List ℕ → List ℕ → List ℕ
parts n d kind bytes more =
    decimal n ++ (space ∷ (decimal d ++ (space ∷ (decimal kind ++ (space ∷ (bytes ++ (feed ∷ more)))))))

-- the line as it is written
abbrev line_of : ℕ → ℕ → ℕ → List ℕ → List ℕ
line_of n d kind bytes =
    decimal n ++ ascii " " ++ decimal d ++ ascii " " ++ decimal kind ++ ascii " " ++ bytes ++ ascii "\n"

line_parts : (n d kind : ℕ) (bytes more : List ℕ) → line_of n d kind bytes ++ more ≡ parts n d kind bytes more
unfolding ascii
line_parts n d kind bytes more = simp append_assoc

line_length : (n d kind : ℕ) (bytes more line : List ℕ) → line ++ more ≡ parts n d kind bytes more
    → length line ≡ length (decimal n) + 1 + length (decimal d) + 1 + length (decimal kind) + 1 + length bytes + 1
line_length n d kind bytes more line e = omega (arith, simp length-append at (ap length e))

-- a line of values that stands at a place is read there
pub record Found (s : List ℕ) (at : ℕ) (line : List ℕ) (a : Asked) : Type 0 where
  pub start : ℕ
  pub size : ℕ
  pub there : LineAt s at a.stations a.holes a.kind start size
  pub limit : map symbol_of (take size (drop start s)) ≡ a.limit
  pub end : start + size + 1 ≡ at + length line

pub found : (s : List ℕ) (at : ℕ) (line more : List ℕ) (a : Asked) → drop at s ≡ line ++ more → ValueLine line a
    → Found s at line a
found s at line more a e v =
    let n = a.stations in
    let d = a.holes in
    let kind = a.kind in
    let w = ap (λ l. l ++ more) v.whole ∙ line_parts n d kind v.bytes more in
    let p = at + length (decimal n) + 1 in
    let first = spaced_here s at n _ v.numbers.0 (e ∙ w) in
    let q = p + length (decimal d) + 1 in
    let second = spaced_here s p d _ v.numbers.1 (spaced-rest first) in
    let start = q + length (decimal kind) + 1 in
    let third = spaced_here s q kind _ v.numbers.2 (spaced-rest second) in
    let last = limit_here s start v.bytes more v.some v.unspaced (spaced-rest third) in
    record {
      start = start;
      size = length v.bytes;
      there = record { p = p; q = q; first = first; second = second; third = third; last = last };
      limit = ap (map symbol_of) (limit_bytes last) ∙ sym v.symbols;
      end = omega (arith, line_length n d kind v.bytes more line w);
    }

-- what is read at a place is a line of values that stands there
pub record Standing (s : List ℕ) (at : ℕ) (a : Asked) (end : ℕ) : Type 0 where
  pub line : List ℕ
  pub more : List ℕ
  pub whole : drop at s ≡ line ++ more
  pub values : ValueLine line a
  pub behind : end ≡ at + length line

pub standing : {s : List ℕ} {at n d kind start size : ℕ} → LineAt s at n d kind start size
    → Standing s at (asked s n d kind start size) (start + size + 1)
standing {s} {at} {n} {d} {kind} {start} {size} r =
    let l = r.last in
    let line = line_of n d kind l.bytes in
    let f = spaced-rest r.first in
    let g = spaced-rest r.second in
    let h = spaced-rest r.third in
    let w : drop at s ≡ parts n d kind l.bytes l.more = cc in
    record {
      line = line;
      more = l.more;
      whole = w ∙ sym (line_parts n d kind l.bytes l.more);
      values =
          record {
            numbers = (r.first.below, r.second.below, r.third.below);
            bytes = l.bytes;
            some = l.some;
            unspaced = l.unspaced;
            symbols = ap (map symbol_of) (limit_bytes l);
            whole = refl;
          };
      behind = omega (arith, line_length n d kind l.bytes l.more line (line_parts n d kind l.bytes l.more));
    }
