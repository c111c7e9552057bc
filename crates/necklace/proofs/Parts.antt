-- A rotation by its two parts, the row's tail and its head: its symbols, and what lies in the row without a break.
use mathlib.Core.List.{List}
use mathlib.Core.Path.{ap, sym, ◌∙◌, ◌≡◌}
use Prim.Native.Nat.{ℕ, ◌+◌, ◌-◌, ◌<◌, ◌≤◌}
use native.Mathlib.Omega.{arith}
use lib.ListN.{get_or-append, drop, get_or, length, length-drop, take}
use lib.Seq.{drop-append-add, drop-append-le, drop-drop, get_or-append-add, get_or-drop, get_or-take, take-append-le, take-take}
use Rattle.words.proofs.Agreeing.{drop-take}
use Rattle.words.specs.Rotation.{rotation}

-- ---- the symbols of a rotation

module _ (w : List ℕ) (j i : ℕ) where
  pub tail_symbol : i < length w - j → get_or (rotation j w) i 0 ≡ get_or w (j + i) 0
  unfolding rotation
  tail_symbol h =
      let l : i < length (drop j w) = rw length-drop h in
      get_or-append (drop j w) (take j w) 0 i l ∙ get_or-drop j w i 0

  pub head_symbol : i < length w → j ≤ length w → length w - j ≤ i → get_or (rotation j w) i 0 ≡ get_or w (i - (length w - j)) 0
  unfolding rotation
  head_symbol h k l =
      let m = i - (length w - j) in
      let size : i ≡ length (drop j w) + m = rw length-drop (omega arith) in
      ap (λ n. get_or (rotation j w) n 0) size ∙ get_or-append-add (drop j w) (take j w) m 0 ∙ get_or-take j w m 0 (omega arith)

-- ---- parts of a rotation that lie in the row without a break

module _ (w : List ℕ) (j i m : ℕ) where
  -- in the row's tail
  pub tail_part : j + i + m ≤ length w → take m (drop i (rotation j w)) ≡ take m (drop (j + i) w)
  unfolding rotation
  tail_part h =
      let inside : i ≤ length (drop j w) = rw length-drop (omega arith) in
      let room : m ≤ length (drop i (drop j w)) = rw (length-drop, length-drop) (omega arith) in
      ap (λ r. take m r) (drop-append-le i (drop j w) (take j w) inside) ∙ take-append-le m (drop i (drop j w)) (take j w) room ∙ ap (λ r. take m r) (drop-drop i j w)

  -- in its head
  pub head_part : j ≤ length w → length w - j ≤ i → i - (length w - j) + m ≤ j → take m (drop i (rotation j w)) ≡ take m (drop (i - (length w - j)) w)
  unfolding rotation
  head_part k h l =
      let at = i - (length w - j) in
      let size : i ≡ length (drop j w) + at = rw length-drop (omega arith) in
      let rest : at + (j - at) ≡ j = omega arith in
      ap (λ n. take m (drop n (rotation j w))) size ∙ ap (λ r. take m r) (drop-append-add (drop j w) (take j w) at)
      ∙ ap (λ n. take m (drop at (take n w))) (sym rest) ∙ ap (λ r. take m r) (drop-take at (j - at) w) ∙ take-take m (j - at) (drop at w) (omega arith)
