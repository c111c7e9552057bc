-- Tests put together.
use mathlib.Core.Bool.{Bool, and-eq-true_iff, false, true, ◌&&◌, ◌||◌}
use mathlib.Core.Logic.{inl, inr, ◌⊎◌}
use mathlib.Core.Path.{refl, sym, ◌∙◌, ◌≡◌}
use Prim.Native.Nat.{ℕ}
use native.Mathlib.Omega.{arith}

pub and→ : (a b : Bool) → (a && b) ≡ true → (a ≡ true) × (b ≡ true)
and→ a b e = let r = (and-eq-true_iff a b).0 e in (r.0, r.1)

pub →and : {a b : Bool} → a ≡ true → b ≡ true → (a && b) ≡ true
→and {a} {b} e f = (and-eq-true_iff a b).1 (e, f)

pub or→ : (a b : Bool) → (a || b) ≡ true → (a ≡ true) ⊎ (b ≡ true)
or→ true b e = inl refl
or→ false b e = inr e

-- two tests that imply each other are the same
pub same_test : (a b : Bool) → (a ≡ true → b ≡ true) → (b ≡ true → a ≡ true) → a ≡ b
same_test true b f g = sym (f refl)
same_test false true f g = g refl
same_test false false f g = refl

-- a test that cannot pass
pub never : (t : Bool) → (t ≡ true → ⊥) → t ≡ false
never true f = absurd (f refl)
never false f = refl

-- two constructors that are said to be equal: `cc` makes 0 ≡ 1 of it
pub clash : {A : Type 0} → ◌≡◌ {A = ℕ} 0 1 → A
clash e = absurd (omega arith)

-- what two tests come to, the second made only where the first holds
pub and_yes : {a b f : Bool} → a ≡ true → f ≡ b → f ≡ (a && b)
and_yes e g = rw e g

pub and_no : {a f : Bool} (b : Bool) → a ≡ false → f ≡ a → f ≡ (a && b)
and_no b e g = rw e (g ∙ e)
