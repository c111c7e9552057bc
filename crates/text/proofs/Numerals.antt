-- The number at a place, by how many digits stand there.
use mathlib.Core.Bool.{false, true}
use mathlib.Core.List.{List, [], ◌∷◌}
use mathlib.Core.Path.{ap, refl, ◌∙◌, ◌≡◌}
use Prim.Native.Nat.{ℕ, ◌*◌, ◌+◌, ◌-◌, ◌<◌, ◌≤◌}
use native.Mathlib.Nat.{add-zero, zero-add}
use native.Mathlib.Omega.{arith}
use lib.ListN.{drop, get_or, length}
use lib.Seq.{get_or-drop, get_or-take}
use borrow.Author.Tests.{le-leb, lt-leb, ne_eqb}
use Rattle.text.proofs.Runs.{run_take}
use Rattle.text.specs.Parts.{is_numeral, numeral_at, run, space, spaced_at, value_from}
use Rattle.words.specs.Tests.{is_prefix}
use Rattle.text.specs.declared.Bytes.TheVariants.{Digits}
use Rattle.text.specs.declared.Numeral.{Numeral}
use Rattle.std.specs.Prelude.{Option, Some, None}

-- a number that was read, and the place behind it
abbrev pub read : ℕ → ℕ → Option Numeral
read value next = Some (record { value = value; next = next })

pub same_value : {a b x y : ℕ} → read a b ≡ read x y → a ≡ x
same_value e = ap value_of e
  where
    value_of : Option Numeral → ℕ
    value_of (Some n) = n.value
    value_of None = 0

pub same_next : {a b x y : ℕ} → read a b ≡ read x y → b ≡ y
same_next e = ap next_of e
  where
    next_of : Option Numeral → ℕ
    next_of (Some n) = n.next
    next_of None = 0

-- lists of one, two and three, by their elements
list_one : (l : List ℕ) → length l ≡ 1 → l ≡ get_or l 0 0 ∷ []
list_one [] e = absurd (omega arith)
list_one (a ∷ []) e = refl
list_one (a ∷ (b ∷ l)) e = absurd (omega arith)

list_two : (l : List ℕ) → length l ≡ 2 → l ≡ get_or l 0 0 ∷ (get_or l 1 0 ∷ [])
list_two [] e = absurd (omega arith)
list_two (a ∷ l) e = ap (λ x. a ∷ x) (list_one l (omega arith))

list_three : (l : List ℕ) → length l ≡ 3 → l ≡ get_or l 0 0 ∷ (get_or l 1 0 ∷ (get_or l 2 0 ∷ []))
list_three [] e = absurd (omega arith)
list_three (a ∷ l) e = ap (λ x. a ∷ x) (list_two l (omega arith))

-- n digits stand at the place
module _ (s : List ℕ) (at n : ℕ) (e : n ≡ length (run Digits (drop at s))) where
  digit_at : (i : ℕ) → i < n → get_or (run Digits (drop at s)) i 0 ≡ get_or s (at + i) 0
  digit_at i h =
      ap (λ l. get_or l i 0) (run_take Digits (drop at s)) ∙ get_or-take (length (run Digits (drop at s))) (drop at s) i 0 (omega arith) ∙ get_or-drop at s i 0

  first : 0 < n → get_or (run Digits (drop at s)) 0 0 ≡ get_or s at 0
  first h = digit_at 0 h ∙ rw add-zero

  pub no_digit : n ≡ 0 → None ≡ numeral_at s at
  unfolding numeral_at is_numeral
  no_digit h = rw (← e, h)

  pub many_digits : 3 < n → None ≡ numeral_at s at
  unfolding numeral_at is_numeral
  many_digits h = rw (← e, le-leb 1 n (omega arith), lt-leb n 3 h)

  pub leading_zero : 1 < n → n ≤ 3 → get_or s at 0 ≡ 48 → None ≡ numeral_at s at
  unfolding numeral_at is_numeral
  leading_zero h k z = rw (← e, le-leb 1 n (omega arith), le-leb n 3 k, ne_eqb n 1 (λ q. omega arith), first (omega arith), z)

  pub one_digit : n ≡ 1 → (a : ℕ) → a ≡ get_or s at 0 - 48 → read a (at + 1) ≡ numeral_at s at
  unfolding numeral_at is_numeral value_from
  one_digit h a p = rw (list_one (run Digits (drop at s)) (omega arith), first (omega arith), p, zero-add)

  pub two_digits : n ≡ 2 → (get_or s at 0 ≡ 48 → ⊥) → (a b : ℕ) → a ≡ get_or s at 0 - 48 → b ≡ get_or s (at + 1) 0 - 48 → read (a * 10 + b) (at + 2) ≡ numeral_at s at
  unfolding numeral_at is_numeral value_from
  two_digits h z a b p q =
      rw (list_two (run Digits (drop at s)) (omega arith), first (omega arith), digit_at 1 (omega arith), ne_eqb (get_or s at 0) 48 z, p, q, zero-add)

  pub three_digits : n ≡ 3 → (get_or s at 0 ≡ 48 → ⊥) → (a b d : ℕ) → a ≡ get_or s at 0 - 48 → b ≡ get_or s (at + 1) 0 - 48 → d ≡ get_or s (at + 2) 0 - 48 → read ((a * 10 + b) * 10 + d) (at + 3) ≡ numeral_at s at
  unfolding numeral_at is_numeral value_from
  three_digits h z a b d p q r =
      rw (list_three (run Digits (drop at s)) (omega arith), first (omega arith), digit_at 1 (omega arith), digit_at 2 (omega arith), ne_eqb (get_or s at 0) 48 z, p, q, r, zero-add)

-- a number, and a space behind it
module _ (s : List ℕ) (at : ℕ) where
  pub no_number : None ≡ numeral_at s at → None ≡ spaced_at s at
  unfolding spaced_at
  no_number e = rw (← e)

  module _ (v next : ℕ) (e : read v next ≡ numeral_at s at) where
    pub no_space : is_prefix (space ∷ []) (drop next s) ≡ false → None ≡ spaced_at s at
    unfolding spaced_at
    no_space h = rw (← e, h)

    pub with_space : is_prefix (space ∷ []) (drop next s) ≡ true → read v (next + 1) ≡ spaced_at s at
    unfolding spaced_at
    with_space h = rw (← e, h)
