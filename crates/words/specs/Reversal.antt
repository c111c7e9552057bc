-- Rows that may be turned over, over any alphabet: the turned-over key, bracelets, and the rows of one ring.
use Rattle.std.specs.Prelude.{Bool, cond, List, reverse, ◌⊎◌, ℕ}
use Rattle.words.specs.Order.{le, same}
use Rattle.words.specs.Rotation.{IsRotation, least_rotation}

-- the lower of two rows
unfoldable pub lower_of : List ℕ → List ℕ → List ℕ
lower_of a b = cond (le a b) a b

-- "The turned-over key, the least of the n turns of a row and the n turns of its reverse."
unfoldable pub turned_key : List ℕ → List ℕ
turned_key w = lower_of (least_rotation w) (least_rotation (reverse w))

-- "Rows that are their own turned-over key."
unfoldable pub is_bracelet : List ℕ → Bool
is_bracelet w = same (turned_key w) w

-- "One ring, turning over allowed": some turn of a, or of its reverse, is b.
abbrev pub SameRing : List ℕ → List ℕ → Type 0
SameRing a b = IsRotation a b ⊎ IsRotation (reverse a) b
