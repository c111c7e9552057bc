-- The symbols of a reverse, and its rotations as parts of the reverse written two times.
use mathlib.Core.List.{List, append_assoc, reverse, ◌++◌}
use mathlib.Core.Path.{ap, ap₂, ◌∙◌, ◌≡◌}
use Prim.Native.Nat.{ℕ, ◌+◌, ◌-◌, ◌≤◌}
use native.Mathlib.Omega.{arith}
use lib.ListN.{drop, length, length-append, length-drop, length-reverse, take}
use lib.Seq.{drop-append-le, take-append-add, take-append-le, take_at}
use Rattle.words.specs.Buffers.{fronted}
use Rattle.words.specs.Rotation.{rotation}

-- the rotation by j, where w stands two times, and then z
pub twice_part : (w z : List ℕ) (j : ℕ) → j ≤ length w → take (length w) (drop j (w ++ (w ++ z))) ≡ rotation j w
unfolding rotation
twice_part w z j h =
    let size : length w ≡ length (drop j w) + j = omega (arith, length-drop j w) in
    ap (take (length w)) (drop-append-le j w (w ++ z) h) ∙ ap (λ n. take n (drop j w ++ (w ++ z))) size ∙ take-append-add (drop j w) (w ++ z) j
    ∙ ap (λ t. drop j w ++ t) (take-append-le j w z h)

-- the reverse at the front of a buffer
module _ (row z a : List ℕ) (e : a ≡ fronted (reverse row) z) where
  pub reversed_part : take (length row) a ≡ reverse row
  reversed_part = ap (take (length row)) e ∙ take_at (reverse row) (drop (length (reverse row)) z) (length row) (length-reverse row)

  pub reversed_room : length row ≤ length a
  reversed_room = omega (arith, ap length e, length-append (reverse row) (drop (length (reverse row)) z), length-reverse row)

-- written there, and then behind that
pub twice_front : (row z t u a b : List ℕ) → a ≡ fronted (reverse row) z → b ≡ fronted (reverse row) t
    → take (length row) a ++ (b ++ u) ≡ reverse row ++ (reverse row ++ (drop (length (reverse row)) t ++ u))
twice_front row z t u a b e f =
    ap₂ (λ (p q : List ℕ). p ++ (q ++ u)) (reversed_part row z a e) f
    ∙ ap (λ q. reverse row ++ q) (append_assoc (reverse row) (drop (length (reverse row)) t) u)

pub twice_room : (row back rest : List ℕ) → back ≡ reverse row ++ (reverse row ++ rest) → length row + length row ≤ length back
twice_room row back rest e = omega (arith, ap length e, length-append (reverse row) (reverse row ++ rest), length-append (reverse row) rest, length-reverse row)

-- and a rotation of it there
pub turn_part : (row back rest : List ℕ) (n j : ℕ) → n ≡ length row → back ≡ reverse row ++ (reverse row ++ rest) → j ≤ n → take (j + n - j) (drop j back) ≡ rotation j (reverse row)
turn_part row back rest n j l e h =
    let size : j + n - j ≡ length (reverse row) = omega (arith, length-reverse row) in
    ap₂ (λ (m : ℕ) (b : List ℕ). take m (drop j b)) size e ∙ twice_part (reverse row) rest j (omega (arith, length-reverse row))
