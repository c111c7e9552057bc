-- Pieces written into a buffer, a byte at a time.
use mathlib.Core.List.{List, [], append_assoc, append-nil, map, ◌++◌, ◌∷◌}
use mathlib.Core.Path.{ap, refl, sym, ◌∙◌, ◌≡◌}
use Prim.Native.Nat.{ℕ, ◌+◌, ◌-◌, ◌<◌, ◌≤◌}
use native.Mathlib.Numerals.{add-one}
use native.Mathlib.Omega.{arith}
use lib.ListN.{get_or-append, drop, drop_of_length-le, get_or, length, length-append, length-drop, length-map, set, take}
use lib.Seq.{drop-drop, get_or_at, length-paste, paste, paste-suc, take_all, take-length}
use Rattle.std.proofs.lemmas.List.{get_or-map}
use Rattle.text.specs.Buffers.{placed}
use Rattle.text.specs.Symbols.{character_of, row_field}
use Rattle.text.specs.Parts.{space}
use Rattle.words.specs.Buffers.{fronted}

-- all of a piece is written
pub paste_all : (d : List ℕ) (at : ℕ) (s : List ℕ) (i : ℕ) → i ≡ length s → paste d at s i ≡ placed d at s
paste_all d at s i e = rw (e, take-length)

pub length-placed : (d : List ℕ) (at : ℕ) (s : List ℕ) → at + length s ≤ length d → length (placed d at s) ≡ length d
length-placed d at s h = ap length (sym (paste_all d at s (length s) refl)) ∙ length-paste d at s (length s) h (omega arith)

-- the rest of a buffer
pub behind : (u : ℕ) (o : List ℕ) → take (length o - u) (drop u o) ≡ drop u o
behind u o = take_all (length o - u) (drop u o) (omega (arith, length-drop u o))

-- a piece at the front of the part behind u bytes stands at that place
pub part_placed : (u : ℕ) (o piece part : List ℕ) → part ≡ fronted piece (take (length o - u) (drop u o)) → take u o ++ (part ++ drop (length o - u) (drop u o)) ≡ placed o u piece
part_placed u o piece part e =
    let nothing : drop (length o - u) (drop u o) ≡ [] = drop_of_length-le (drop u o) {i = length o - u} (omega (arith, length-drop u o)) in
    rw (e, behind u o, nothing, drop-drop, append-nil) (sym (append_assoc (take u o) piece (drop (u + length piece) o)))

-- one byte more, at the code's place
pub paste_next : (d : List ℕ) (at : ℕ) (s o : List ℕ) (i x : ℕ) → at + i < length d → i < length s → o ≡ paste d at s i → x ≡ get_or s i 0 → set o (at + i) x ≡ paste d at s (i + 1)
paste_next d at s o i x h k e f = rw (e, f, add-one) (paste-suc d at s i 0 h k)

-- a row's characters, and the space behind them
module _ (row : List ℕ) where
  pub row_length : length (row_field row) ≡ length row + 1
  unfolding row_field
  row_length = simp (length-append, length-map)

  pub row_at : (i : ℕ) → i < length row → character_of (get_or row i 0) ≡ get_or (row_field row) i 0
  unfolding row_field
  row_at i h =
      let l = length-map row character_of in
      sym (get_or-append (map character_of row) (space ∷ []) 0 i (omega arith) ∙ get_or-map character_of row i 0 0 h)

  pub row_end : space ≡ get_or (row_field row) (length row) 0
  unfolding row_field
  row_end = sym (get_or_at (map character_of row) space [] 0 (length row) (length-map row character_of))
