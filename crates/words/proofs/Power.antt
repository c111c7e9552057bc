-- Powers of a row. Rows that commute are powers of one row.
use mathlib.Core.List.{List, [], append_assoc, append-nil, ◌++◌, ◌∷◌}
use mathlib.Core.Logic.{inl, inr, ◌⊎◌}
use mathlib.Core.Path.{ap, refl, sym, ◌∙◌, ◌≡◌}
use Prim.Native.Nat.{suc, zero, ℕ, ◌*◌, ◌+◌, ◌<◌}
use native.Mathlib.Nat.{suc-add, zero-add, zero-mul}
use native.Mathlib.Omega.{arith}
use lib.ListN.{length, length-append}
use Rattle.words.proofs.Cut.{Cut, levi}
use Rattle.words.proofs.Induction.{strong}

-- u repeated k times
unfoldable pub power : ℕ → List ℕ → List ℕ
power zero u = []
power (suc k) u = u ++ power k u

pub power_add : (i j : ℕ) (u : List ℕ) → power (i + j) u ≡ power i u ++ power j u
unfolding power
power_add zero j u = rw zero-add
power_add (suc i) j u = rw (suc-add i j) (ap (λ r. u ++ r) (power_add i j u) ∙ sym (append_assoc u (power i u) (power j u)))

pub power_length : (k : ℕ) (u : List ℕ) → length (power k u) ≡ k * length u
unfolding power
power_length zero u = omega arith
power_length (suc k) u = omega (arith, length-append u (power k u), power_length k u)

pub power_power : (i j : ℕ) (u : List ℕ) → power i (power j u) ≡ power (i * j) u
unfolding power
power_power zero j u = rw zero-mul
power_power (suc i) j u =
    let q : suc i * j ≡ j + i * j = omega arith in
    rw (q, power_add j (i * j) u) (ap (λ r. power j u ++ r) (power_power i j u))

-- x goes round the powers of y x
pub power_slide : (k : ℕ) (x y : List ℕ) → x ++ power k (y ++ x) ≡ power k (x ++ y) ++ x
unfolding power
power_slide zero x y = append-nil x
power_slide (suc k) x y = simp append_assoc (ap (λ r. x ++ (y ++ r)) (power_slide k x y))

pub power_snoc : (k : ℕ) (u : List ℕ) → power (suc k) u ≡ power k u ++ u
unfolding power
power_snoc k u = rw append-nil at (power_slide k u [])

-- ---- two rows that commute

pub record Common (x y : List ℕ) : Type 0 where
  pub z : List ℕ
  pub i : ℕ
  pub j : ℕ
  pub left : x ≡ power i z
  pub right : y ≡ power j z

flip : {x y : List ℕ} → Common x y → Common y x
flip c = record { z = c.z; i = c.j; j = c.i; left = c.right; right = c.left }

-- y is x and r, and x and r have a common root
grown : {x y r : List ℕ} → y ≡ x ++ r → Common x r → Common x y
grown e c = record { z = c.z; i = c.i; j = c.i + c.j; left = c.left; right = rw (power_add c.i c.j c.z, ← c.left, ← c.right) e }

nil_common : (y : List ℕ) → Common [] y
unfolding power
nil_common y = record { z = y; i = 0; j = 1; left = refl; right = sym (append-nil y) }

pub commute : (x y : List ℕ) → x ++ y ≡ y ++ x → Common x y
commute x y e = strong P step (length x + length y) x y refl e
  where
    P : ℕ → Type 0
    P n = (x y : List ℕ) → length x + length y ≡ n → x ++ y ≡ y ++ x → Common x y

    step : (n : ℕ) → ((m : ℕ) → m < n → P m) → P n
    step n ih [] y l e = nil_common y
    step n ih (a ∷ x) [] l e = flip (nil_common (a ∷ x))
    step n ih (a ∷ x) (b ∷ y) l e = pick (levi (a ∷ x) (b ∷ y) (b ∷ y) (a ∷ x) e)
      where
        pick : Cut (b ∷ y) (a ∷ x) (b ∷ y) (a ∷ x) ⊎ Cut (a ∷ x) (b ∷ y) (a ∷ x) (b ∷ y) → Common (a ∷ x) (b ∷ y)
        pick (inl k) = grown k.left (ih (length (a ∷ x) + length k.r) (omega (arith, simp length-append at (ap length k.left))) (a ∷ x) k.r refl (sym k.left ∙ k.right))
        pick (inr k) = flip (grown k.left (ih (length (b ∷ y) + length k.r) (omega (arith, simp length-append at (ap length k.left))) (b ∷ y) k.r refl (sym k.left ∙ k.right)))
