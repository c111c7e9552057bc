-- Dictionary order of two rows. A row is a list of symbols, which are numbers of any alphabet.
use Rattle.std.specs.Prelude.{Bool, true, false, List, [], ◌∷◌}
use Prim.Native.Nat.{ℕ, compare, Ordering}
use Rattle.std.proofs.Math.Dec.{is_le, compare_is_eq}
use Rattle.std.specs.declared.cmp.Ordering.{Ordering as Answer}
use Rattle.std.specs.declared.cmp.Ordering.TheVariants.{Less, Equal, Greater}

-- the order of the heads, or of what follows them where the heads are equal
abbrev pub head_first : Ordering → Ordering → Ordering
head_first Ordering.lt rest = Ordering.lt
head_first Ordering.eq rest = rest
head_first Ordering.gt rest = Ordering.gt

-- "Rows compare in dictionary order; a proper beginning of a row is the lower of the two."
unfoldable pub cmp : List ℕ → List ℕ → Ordering
cmp [] [] = Ordering.eq
cmp [] (y ∷ ys) = Ordering.lt
cmp (x ∷ xs) [] = Ordering.gt
cmp (x ∷ xs) (y ∷ ys) = let rest = cmp xs ys in head_first (compare x y) rest

abbrev pub is_lt : Ordering → Bool
is_lt Ordering.lt = true
is_lt Ordering.eq = false
is_lt Ordering.gt = false

-- a lies below b
unfoldable pub lt : List ℕ → List ℕ → Bool
lt a b = is_lt (cmp a b)

-- a lies at or below b
unfoldable pub le : List ℕ → List ℕ → Bool
le a b = is_le (cmp a b)

-- a and b are the same row
unfoldable pub same : List ℕ → List ℕ → Bool
same a b = compare_is_eq (cmp a b)

-- the three answers of the comparison, as the code names them
abbrev pub order_of : Ordering → Answer
order_of Ordering.lt = Less
order_of Ordering.eq = Equal
order_of Ordering.gt = Greater
