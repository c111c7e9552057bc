-- The decimal digits of a number, the last one apart.
use mathlib.Core.Bool.{Bool, cond, false, true}
use mathlib.Core.List.{List, [], ◌++◌, ◌∷◌}
use mathlib.Core.Logic.{⊎_elim}
use mathlib.Core.Path.{ap, refl, sym, ◌∙◌, ◌≡◌}
use Prim.Native.Nat.{suc, zero, ℕ, ◌%◌, ◌*◌, ◌+◌, ◌-◌, ◌/◌, ◌<◌, ◌^◌, ◌≤◌}
use native.Mathlib.Nat.{div-add-mod', pow-suc}
use native.Mathlib.Omega.{arith}
use lib.Dec.{ltb}
use lib.ListN.{drop, length, length-append, length-drop, length-set, set, take}
use lib.Seq.{append_snoc, drop_at, length-take-le, set_split, take_all}
use borrow.Author.Tests.{le-ltb, lt-ltb, ltb-false}
use Rattle.text.specs.Decimals.{decimal, decimal_by, field}
use Rattle.words.proofs.Below.{le_or}

-- enough divisions give the same digits
enough : (f g n : ℕ) → n ≤ f → n ≤ g → decimal_by f n ≡ decimal_by g n
unfolding decimal_by
enough zero zero n h k = refl
enough zero (suc g) n h k = rw (lt-ltb n 10 (omega arith))
enough (suc f) zero n h k = rw (lt-ltb n 10 (omega arith))
enough (suc f) (suc g) n h k = go (ltb n 10) refl (enough f g (n / 10))
  where
    go : (t : Bool) → ltb n 10 ≡ t → (n / 10 ≤ f → n / 10 ≤ g → decimal_by f (n / 10) ≡ decimal_by g (n / 10)) → cond t ((48 + n) ∷ []) (decimal_by f (n / 10) ++ ((48 + n % 10) ∷ [])) ≡ cond t ((48 + n) ∷ []) (decimal_by g (n / 10) ++ ((48 + n % 10) ∷ []))
    go true e ih = refl
    go false e ih =
        let m = ltb-false n 10 e in
        ap (λ l. l ++ ((48 + n % 10) ∷ [])) (ih (omega (arith, div-add-mod' n 10)) (omega (arith, div-add-mod' n 10)))

pub decimal_one : (n : ℕ) → n < 10 → decimal n ≡ (48 + n) ∷ []
unfolding decimal decimal_by
decimal_one zero h = refl
decimal_one (suc n) h = rw (lt-ltb (suc n) 10 h)

pub decimal_more : (n : ℕ) → 10 ≤ n → decimal n ≡ decimal (n / 10) ++ ((48 + n % 10) ∷ [])
unfolding decimal decimal_by
decimal_more zero h = absurd (omega arith)
decimal_more (suc n) h =
    rw (le-ltb (suc n) 10 h)
    (ap (λ l. l ++ ((48 + suc n % 10) ∷ [])) (enough n (suc n / 10) (suc n / 10) (omega (arith, div-add-mod' (suc n) 10)) (omega arith)))

pub decimal-length_more : (n : ℕ) → 10 ≤ n → length (decimal n) ≡ length (decimal (n / 10)) + 1
decimal-length_more n h = ap length (decimal_more n h) ∙ length-append (decimal (n / 10)) _

pub field-length : (n end : ℕ) → length (field n end) ≡ length (decimal n) + 1
unfolding field
field-length n end = length-append (decimal n) (end ∷ [])

-- below a power of 10 there are as many digits at most
pub decimal_short : (k n : ℕ) → n < 10 ^ suc k → length (decimal n) ≤ suc k
decimal_short zero n h = omega (arith, ap length (decimal_one n h))
decimal_short (suc k) n h = ⊎_elim (many (decimal_short k (n / 10))) (λ l. omega (arith, ap length (decimal_one n l))) (le_or 10 n)
  where
    many : (n / 10 < 10 ^ suc k → length (decimal (n / 10)) ≤ suc k) → 10 ≤ n → length (decimal n) ≤ suc (suc k)
    many ih m =
        let b : n < 10 ^ suc k * 10 = rw (← pow-suc 10 (suc k)) h in
        omega (arith, decimal-length_more n m, ih (omega (arith, div-add-mod' n 10)))

-- a digit in front of what is written from a place on
pub digit_front : (t : List ℕ) (from x : ℕ) → 0 < from → from ≤ length t → drop (from - 1) (set t (from - 1) x) ≡ x ∷ drop from t
digit_front t zero x h k = absurd (omega arith)
digit_front t (suc i) x h k =
    let e : suc i - 1 ≡ i = omega arith in
    rw (e, set_split t i x (omega arith), drop_at (take i t) (x ∷ drop (suc i) t) i (length-take-le i t (omega arith)))

-- the digits written so far
pub record Spelled (n end : ℕ) (text : List ℕ) (from rest : ℕ) : Type 0 where
  pub long : length text ≡ 21
  pub inside : from ≤ 20
  pub room : length (decimal rest) ≤ from
  pub spelled : field n end ≡ decimal rest ++ drop from text

module _ {n end : ℕ} {text : List ℕ} {from rest : ℕ} (s : Spelled n end text from rest) where
  pub spelled_more : 10 ≤ rest → Spelled n end (set text (from - 1) (48 + rest % 10)) (from - 1) (rest / 10)
  spelled_more h =
      let l = decimal-length_more rest h in
      record {
        long = length-set text (from - 1) (48 + rest % 10) ∙ s.long;
        inside = omega arith;
        room = omega arith;
        spelled =
            s.spelled
            ∙ rw (decimal_more rest h, digit_front text from (48 + rest % 10) (omega arith) (omega arith))
            (append_snoc (decimal (rest / 10)) (48 + rest % 10) (drop from text));
      }

  pub spelled_all : rest < 10 → field n end ≡ drop (from - 1) (set text (from - 1) (48 + rest))
  spelled_all h =
      let l = decimal_one rest h in
      let k = ap length l in
      s.spelled ∙ rw (l, digit_front text from (48 + rest) (omega arith) (omega arith))

  -- what `&text[from..]` lends, after the last digit
  pub spelled_part : rest < 10 → take (21 - (from - 1)) (drop (from - 1) (set text (from - 1) (48 + rest))) ≡ field n end
  spelled_part h =
      take_all (21 - (from - 1)) (drop (from - 1) (set text (from - 1) (48 + rest))) (simp (length-drop, length-set) (omega arith)) ∙ sym (spelled_all h)
