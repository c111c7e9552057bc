-- The pairs that are compared of two rows: words of eight bytes and, behind them, single bytes.
use Rattle.std.specs.Prelude.{cond, List, [], ◌∷◌, ℕ, zero, suc, min, ◌+◌, ◌*◌, ◌/◌, ◌%◌, drop, length, take}
use Rattle.words.specs.Order.{same}

-- the pieces of a row, so many of so many symbols each, one behind the other
unfoldable pub cut : ℕ → ℕ → List ℕ → List (List ℕ)
cut zero size w = []
cut (suc count) size w = take size w ∷ cut count size (drop size w)

-- how many pairs there are "up to the first unequal pair", which counts; with none, all of them
unfoldable pub up_to_unequal : List (List ℕ) → List (List ℕ) → ℕ
up_to_unequal [] l = 0
up_to_unequal (p ∷ k) [] = 0
up_to_unequal (p ∷ k) (q ∷ l) = let rest = up_to_unequal k l in cond (same p q) (suc rest) 1

-- "Over the shorter length"
abbrev pub shorter_length : List ℕ → List ℕ → ℕ
shorter_length a b = min (length a) (length b)

-- "How many pairs were compared: the words up to the first unequal pair or, with none, all of them and the remaining bytes up to the first
-- unequal pair."
unfoldable pub pairs : List ℕ → List ℕ → ℕ
pairs a b =
    let all = shorter_length a b / 8 in
    let remaining = shorter_length a b % 8 in
    let words = up_to_unequal (cut all 8 a) (cut all 8 b) in
    let bytes = up_to_unequal (cut remaining 1 (drop (all * 8) a)) (cut remaining 1 (drop (all * 8) b)) in
    cond (same (take (all * 8) a) (take (all * 8) b)) (all + bytes) words
