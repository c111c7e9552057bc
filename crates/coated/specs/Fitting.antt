-- How one row fits another, by turning, by turning over or by both, and the signed turn. Over any alphabet.
use Rattle.std.specs.Prelude.{Bool, cond, false, true, ◌||◌, List, reverse, suc, ℕ, ◌%◌, ◌-◌, ℤ, negsuc, neg_ℤ, pos, length}
use Rattle.words.specs.Order.{same}
use Rattle.words.specs.Rotation.{rotation}
use Rattle.words.specs.Tests.{first_from, some_below}

-- some turn of a is b
unfoldable pub rotates_to : List ℕ → List ℕ → Bool
rotates_to a b = some_below (length a) (λ j. same (rotation j a) b)

-- "Clockwise positive: s stands for turn (s mod n) of 01." An integer is pos k, which is k, or negsuc k, k + 1 below
-- zero.
abbrev pub turn_of : ℕ → ℤ → ℕ
turn_of n (pos k) = k % n
turn_of n (negsuc k) = (n - suc k % n) % n

-- a row, turned by s
abbrev pub rotation_by : ℤ → List ℕ → List ℕ
rotation_by s w = rotation (turn_of (length w) s) w

-- turned by s, a is b
abbrev pub turns_to : List ℕ → List ℕ → ℤ → Bool
turns_to a b s = same (rotation_by s a) b

-- the least amount by which a turn, to one side or the other, takes a to b
unfoldable pub nearest_amount : List ℕ → List ℕ → ℕ
nearest_amount a b = first_from (length a) 0 (λ k. turns_to a b (pos k) || turns_to a b (neg_ℤ (pos k)))

-- "The nearest to zero, and the positive one where two are equally near", where some turn takes a to b.
unfoldable pub nearest_turn : List ℕ → List ℕ → ℤ
nearest_turn a b = let k = nearest_amount a b in cond (turns_to a b (pos k)) (pos k) (neg_ℤ (pos k))

-- "Three answers beside 'different': by turning only, by turning over only, by both."
pub data Way : Type 0 where
  different : Way
  turning : Way
  over : Way
  both : Way

-- "Each carries a signed turn from the first row to the second."
pub record Fit : Type 0 where
  pub way : Way
  pub turn : ℤ

-- whether a turn of the first row is the second, and whether a turn of its reverse is; s and t are the nearest of
-- those. "Under 'over only' the first row is reversed, then turned. Under 'both' the plain turn is reported.
-- 'Different' carries 0."
abbrev pub fit_by : Bool → Bool → ℤ → ℤ → Fit
fit_by false false s t = record { way = different; turn = pos 0 }
fit_by true false s t = record { way = turning; turn = s }
fit_by false true s t = record { way = over; turn = t }
fit_by true true s t = record { way = both; turn = s }

-- how a fits b
unfoldable pub fit_of : List ℕ → List ℕ → Fit
fit_of a b = fit_by (rotates_to a b) (rotates_to (reverse a) b) (nearest_turn a b) (nearest_turn (reverse a) b)
