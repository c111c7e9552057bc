-- A line that fills the front of a buffer, piece by piece.
use mathlib.Core.List.{List, [], ◌++◌}
use mathlib.Core.Path.{ap, refl, ◌∙◌, ◌≡◌}
use Prim.Native.Nat.{ℕ, ◌+◌, ◌<◌, ◌≤◌}
use native.Mathlib.Omega.{arith}
use lib.ListN.{length, length-append}
use lib.Seq.{drop-append-add, drop-drop, take-append_seam}
use borrow.Author.Tests.{le-leb, lt-leb}
use Rattle.text.proofs.Digits.{field-length}
use Rattle.text.proofs.Written.{length-placed, row_length}
use Rattle.text.specs.Buffers.{placed}
use Rattle.text.specs.Decimals.{decimal}
use Rattle.drawer_lines.specs.Lines.{count_of, end_line, refusal_text, ring_line, written}
use Rattle.refusal.specs.Refusals.{number_of, place_of}
use Rattle.refusal.specs.declared.Refusal.{Refusal}
use Rattle.words.specs.Buffers.{fronted}

-- a piece behind a text that fills the front
piece_next : (t p d o o' : List ℕ) (at : ℕ) → at ≡ length t → o ≡ fronted t d → o' ≡ placed o at p → o' ≡ fronted (t ++ p) d
piece_next t p d o o' at h e f =
    f ∙ rw (e, h, take-append_seam, drop-append-add, drop-drop, length-append)

-- the text t fills the front of what held O, and the next piece goes to the place `at`
pub record Filled (O t o : List ℕ) (at : ℕ) : Type 0 where
  pub place : at ≡ length t
  pub front : o ≡ fronted t O
  pub long : length o ≡ length O

pub filled_none : (O : List ℕ) → Filled O [] O 0
filled_none O = record { place = refl; front = refl; long = refl }

pub filled_more : {O t o : List ℕ} {at : ℕ} → Filled O t o at → (p : List ℕ) {o' : List ℕ} {r : ℕ} → length t + length p ≤ length O → r ≡ at + length p → o' ≡ placed o at p → Filled O (t ++ p) o' r
filled_more {O} {t} {o} {at} f p {o'} {r} room e q =
    record {
      place = omega (arith, length-append t p);
      front = piece_next t p O o o' at f.place f.front q;
      long = ap length q ∙ length-placed o at p (omega arith) ∙ f.long;
    }

-- the whole text is written
pub filled_all : {O t o : List ℕ} {r : ℕ} (text : List ℕ) → Filled O t o r → t ≡ text → length text ≤ length O → (r ≡ count_of text (length O)) × (o ≡ written text O)
filled_all text f e room = rw (← e) (let h = rw (← e) at room in rw (le-leb _ _ h) (f.place, f.front))

-- a buffer that is too short
pub too_short : (text O : List ℕ) → length O < length text → (0 ≡ count_of text (length O)) × (O ≡ written text O)
too_short text O h = rw (lt-leb (length text) (length O) h) (refl, refl)

-- ---- the lengths of the lines

pub ring-length : (number : ℕ) (row : List ℕ) (period trials : ℕ) → length (ring_line number row period trials) ≡ length row + (length (decimal number) + length (decimal period) + length (decimal trials) + 4)
unfolding ring_line
ring-length number row period trials =
    simp (length-append, field-length, row_length) (omega arith)

pub end_length : (trials : ℕ) → length (end_line trials) ≡ length (decimal trials) + 9
unfolding end_line
end_length trials = simp field-length (omega arith)

pub refusal_length : (r : Refusal) → length (refusal_text r) ≡ length (decimal (number_of r)) + length (decimal (place_of r)) + 16
unfolding refusal_text
refusal_length r = simp (length-append, field-length) (omega arith)
