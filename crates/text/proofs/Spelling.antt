-- How a number is written: digits with no leading zero, and each such text is the digits of its value.
use mathlib.Core.Bool.{false≢true, not, true, ◌&&◌, ◌||◌}
use mathlib.Core.List.{List, [], append-nil, ◌++◌, ◌∷◌}
use mathlib.Core.Logic.{⊎_elim}
use mathlib.Core.Path.{ap, refl, subst, sym, ◌∙◌, ◌≡◌}
use Prim.Native.Nat.{suc, zero, ℕ, ◌%◌, ◌*◌, ◌+◌, ◌-◌, ◌/◌, ◌<◌, ◌≤◌}
use native.Mathlib.Nat.{div-add-mod'}
use native.Mathlib.Omega.{arith}
use lib.Dec.{eqb, leb}
use lib.ListN.{length}
use lib.Seq.{append_snoc}
use borrow.Author.Tests.{eqb-false, le-leb, leb-true, ne_eqb, not-true}
use Rattle.text.proofs.Digits.{decimal_more, decimal_one, decimal_short}
use Rattle.text.proofs.Every.{every_append}
use Rattle.text.specs.Ascii.{Every, IsDigit}
use Rattle.text.specs.Claims.{DecimalDigits, DecimalValue, NoLeadingZero, NumeralExactly, ValueMeans}
use Rattle.text.specs.Decimals.{decimal}
use Rattle.text.specs.Parts.{is_numeral, value_from, zero_digit}
use Rattle.words.proofs.Below.{le_or}
use Rattle.words.proofs.Booleans.{and→}
use Rattle.words.proofs.Induction.{strong}

-- a law of numbers by their last digit
module _ (P : ℕ → Type 0) (one : (n : ℕ) → n < 10 → P n) (more : (n : ℕ) → 10 ≤ n → P (n / 10) → P n) where
  pub by_digits : (n : ℕ) → P n
  by_digits =
      strong P (λ n ih. ⊎_elim (λ h. more n h (ih (n / 10) (omega (arith, div-add-mod' n 10)))) (one n) (le_or 10 n))

-- ---- values

value_last : (v : ℕ) (l : List ℕ) (b : ℕ) → value_from v (l ++ (b ∷ [])) ≡ 10 * value_from v l + (b - zero_digit)
unfolding value_from
value_last v [] b = omega arith
value_last v (x ∷ l) b = value_last (v * 10 + (x - zero_digit)) l b

pub value_means : ValueMeans
unfolding value_from
value_means = (refl, value_last 0)

value_one : (n : ℕ) → value_from 0 ((zero_digit + n) ∷ []) ≡ n
unfolding value_from
value_one n = omega arith

pub decimal_value : DecimalValue
decimal_value = by_digits (λ n. value_from 0 (decimal n) ≡ n) one more
  where
    one : (n : ℕ) → n < 10 → value_from 0 (decimal n) ≡ n
    one n h = ap (value_from 0) (decimal_one n h) ∙ value_one n

    more : (n : ℕ) → 10 ≤ n → value_from 0 (decimal (n / 10)) ≡ n / 10 → value_from 0 (decimal n) ≡ n
    more n h ih =
        ap (value_from 0) (decimal_more n h)
        ∙ value_last 0 (decimal (n / 10)) (48 + n % 10)
        ∙ rw ih (omega (arith, div-add-mod' n 10))

-- ---- digits

digits : (n : ℕ) → Every IsDigit (decimal n)
digits = by_digits (λ n. Every IsDigit (decimal n)) one more
  where
    one : (n : ℕ) → n < 10 → Every IsDigit (decimal n)
    one n h = subst (Every IsDigit) (sym (decimal_one n h)) ((omega arith, omega arith), tt)

    more : (n : ℕ) → 10 ≤ n → Every IsDigit (decimal (n / 10)) → Every IsDigit (decimal n)
    more n h ih =
        let last : IsDigit (48 + n % 10) = omega (arith, div-add-mod' n 10) in
        subst (Every IsDigit) (sym (decimal_more n h)) (every_append IsDigit (decimal (n / 10)) _ ih (last, tt))

-- ---- the leading digit

abbrev NoZeroFirst : List ℕ → Type 0
NoZeroFirst [] = ⊥
NoZeroFirst (b ∷ s) = b ≡ zero_digit → ⊥

first_append : (a b : List ℕ) → NoZeroFirst a → NoZeroFirst (a ++ b)
first_append [] b p = absurd p
first_append (x ∷ a) b p = p

first_leads : (s : List ℕ) → NoZeroFirst s → NoLeadingZero s
first_leads [] p = p
first_leads (b ∷ []) p = tt
first_leads (b ∷ (c ∷ s)) p = p

first_digit : (n : ℕ) → 1 ≤ n → NoZeroFirst (decimal n)
first_digit = by_digits (λ n. 1 ≤ n → NoZeroFirst (decimal n)) one more
  where
    one : (n : ℕ) → n < 10 → 1 ≤ n → NoZeroFirst (decimal n)
    one n h k = subst NoZeroFirst (sym (decimal_one n h)) (λ e. omega arith)

    more : (n : ℕ) → 10 ≤ n → (1 ≤ n / 10 → NoZeroFirst (decimal (n / 10))) → 1 ≤ n → NoZeroFirst (decimal n)
    more n h ih k =
        let tens = ih (omega (arith, div-add-mod' n 10)) in
        subst NoZeroFirst (sym (decimal_more n h)) (first_append (decimal (n / 10)) _ tens)

pub decimal_digits : DecimalDigits
decimal_digits zero = (digits zero, subst NoLeadingZero (sym (decimal_one zero (omega arith))) tt)
decimal_digits (suc n) = (digits (suc n), first_leads (decimal (suc n)) (first_digit (suc n) (omega arith)))

-- ---- the digits of a value

decimal_next : (v b : ℕ) → 1 ≤ v → IsDigit b → decimal (v * 10 + (b - zero_digit)) ≡ decimal v ++ (b ∷ [])
decimal_next v b h d =
    let tens : (v * 10 + (b - zero_digit)) / 10 ≡ v = omega arith in
    let last : 48 + (v * 10 + (b - zero_digit)) % 10 ≡ b = omega arith in
    decimal_more (v * 10 + (b - zero_digit)) (omega arith) ∙ rw (tens, last)

decimal_on : (v : ℕ) (s : List ℕ) → 1 ≤ v → Every IsDigit s → decimal (value_from v s) ≡ decimal v ++ s
unfolding value_from
decimal_on v [] h e = sym (append-nil (decimal v))
decimal_on v (b ∷ s) h e =
    decimal_on (v * 10 + (b - zero_digit)) s (omega arith) e.1
    ∙ rw (decimal_next v b h e.0) (append_snoc (decimal v) b s)

one_digit : (b : ℕ) → IsDigit b → decimal (0 * 10 + (b - zero_digit)) ≡ b ∷ []
one_digit b d =
    let same : 48 + (0 * 10 + (b - zero_digit)) ≡ b = omega arith in
    decimal_one (0 * 10 + (b - zero_digit)) (omega arith) ∙ rw same

pub decimal_of : (s : List ℕ) → Every IsDigit s → NoLeadingZero s → s ≡ decimal (value_from 0 s)
unfolding value_from
decimal_of [] e p = absurd p
decimal_of (b ∷ []) e p = sym (one_digit b e.0)
decimal_of (b ∷ (c ∷ s)) e p =
    let some : 1 ≤ 0 * 10 + (b - zero_digit) = omega arith in
    sym (decimal_on (0 * 10 + (b - zero_digit)) (c ∷ s) some e.1 ∙ rw (one_digit b e.0))

-- ---- one to three digits

below_thousand : (s : List ℕ) → Every IsDigit s → length s ≤ 3 → value_from 0 s < 1000
unfolding value_from
below_thousand [] e h = omega arith
below_thousand (a ∷ []) e h = omega arith
below_thousand (a ∷ (b ∷ [])) e h = omega arith
below_thousand (a ∷ (b ∷ (c ∷ []))) e h = omega arith
below_thousand (a ∷ (b ∷ (c ∷ (d ∷ s)))) e h = absurd (omega arith)

numeral→ : (s : List ℕ) → is_numeral s ≡ true → NoLeadingZero s × (length s ≤ 3)
unfolding is_numeral
numeral→ [] e = absurd (false≢true e)
numeral→ (b ∷ []) e = (tt, omega arith)
numeral→ (b ∷ (c ∷ s)) e =
    let n = suc (suc (length s)) in
    let few = and→ (leb 1 n && leb n 3) (eqb n 1 || not (eqb b zero_digit)) e in
    let other : not (eqb b zero_digit) ≡ true = rw (ne_eqb n 1 (λ q. omega arith)) at few.1 in
    (eqb-false b zero_digit (not-true _ other), leb-true n 3 (and→ (leb 1 n) (leb n 3) few.0).1)

→numeral : (s : List ℕ) → NoLeadingZero s → length s ≤ 3 → is_numeral s ≡ true
unfolding is_numeral
→numeral [] p h = absurd p
→numeral (b ∷ []) p h = refl
→numeral (b ∷ (c ∷ s)) p h =
    let n = suc (suc (length s)) in
    rw (le-leb 1 n (omega arith), le-leb n 3 h, ne_eqb n 1 (λ q. omega arith), ne_eqb b zero_digit p)

pub numeral_exactly : NumeralExactly
numeral_exactly s e = (to, from)
  where
    to : is_numeral s ≡ true → (n : ℕ) × (n < 1000) × (s ≡ decimal n)
    to h = let r = numeral→ s h in (value_from 0 s, below_thousand s e r.1, decimal_of s e r.0)

    from : ((n : ℕ) × (n < 1000) × (s ≡ decimal n)) → is_numeral s ≡ true
    from r = rw r.2 (→numeral (decimal r.0) (decimal_digits r.0).1 (decimal_short 2 r.0 r.1))
