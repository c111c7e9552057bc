-- The first difference of two rows: what follows it doesn't matter.
use mathlib.Core.List.{List, [], ◌++◌, ◌∷◌}
use mathlib.Core.Logic.{inl, inr, ◌⊎◌}
use mathlib.Core.Path.{ap, refl, ◌≡◌}
use Prim.Native.Nat.{ℕ, ◌<◌, ◌≤◌}
use native.Mathlib.Omega.{arith}
use lib.ListN.{length}
use Rattle.words.proofs.Below.{here, short, there, ≺-uncons, ◌≺◌}

-- a lies below b, and they differ at a place within both
pub data ◌≪◌ : List ℕ → List ℕ → Type 0 where
  at_head : {x y : ℕ} {xs ys : List ℕ} → x < y → ◌≪◌ (x ∷ xs) (y ∷ ys)
  in_tail : {x : ℕ} {xs ys : List ℕ} → ◌≪◌ xs ys → ◌≪◌ (x ∷ xs) (x ∷ ys)

pub ext : {a b : List ℕ} → ◌≪◌ a b → (u v : List ℕ) → (a ++ u) ≺ (b ++ v)
ext (at_head h) u v = here h
ext (in_tail h) u v = there (ext h u v)

pub ext_left : {a b : List ℕ} → ◌≪◌ a b → (u : List ℕ) → (a ++ u) ≺ b
ext_left (at_head h) u = here h
ext_left (in_tail h) u = there (ext_left h u)

pub ext_right : {a b : List ℕ} → ◌≪◌ a b → (v : List ℕ) → a ≺ (b ++ v)
ext_right (at_head h) v = here h
ext_right (in_tail h) v = there (ext_right h v)

-- b is a with more behind it
pub record More (a b : List ℕ) : Type 0 where
  pub c : ℕ
  pub z : List ℕ
  pub is : b ≡ a ++ (c ∷ z)

more_or : {x : ℕ} {xs ys : List ℕ} → More xs ys ⊎ (◌≪◌ xs ys) → More (x ∷ xs) (x ∷ ys) ⊎ (◌≪◌ (x ∷ xs) (x ∷ ys))
more_or {x} (inl m) = inl (record { c = m.c; z = m.z; is = ap {B = List ℕ} (λ w. x ∷ w) m.is })
more_or (inr h) = inr (in_tail h)

-- a row below another begins it, or differs from it at a place within both
pub ≺_cases : {a b : List ℕ} → a ≺ b → More a b ⊎ (◌≪◌ a b)
≺_cases (short {y = y} {ys = ys}) = inl (record { c = y; z = ys; is = refl })
≺_cases (here h) = inr (at_head h)
≺_cases (there h) = more_or (≺_cases h)

pub not_shorter : {a b : List ℕ} → a ≺ b → length b ≤ length a → ◌≪◌ a b
not_shorter (short {y = y} {ys = ys}) l = absurd (omega arith)
not_shorter (here h) l = at_head h
not_shorter (there h) l = in_tail (not_shorter h (omega arith))

pub same_length : {a b : List ℕ} → a ≺ b → length a ≡ length b → ◌≪◌ a b
same_length h e = not_shorter h (omega arith)

-- p and more is below r c and more, where r is shorter than p: so it is below r b and more, where b is above c
pub raise_symbol : (p q r z : List ℕ) (c : ℕ) → (p ++ q) ≺ (r ++ (c ∷ z)) → length r < length p
    → (b : ℕ) → c < b → (q' z' : List ℕ) → (p ++ q') ≺ (r ++ (b ∷ z'))
raise_symbol [] q r z c h l b k q' z' = absurd (omega arith)
raise_symbol (x ∷ p) q [] z c h l b k q' z' = go (≺-uncons h)
  where
    go : (x < c) ⊎ ((x ≡ c) × ((p ++ q) ≺ z)) → (x ∷ (p ++ q')) ≺ (b ∷ z')
    go (inl m) = here {x = x} {y = b} (omega arith)
    go (inr m) = here {x = x} {y = b} (omega (arith, m.0))
raise_symbol (x ∷ p) q (y ∷ r) z c h l b k q' z' = go (raise_symbol p q r z c) (≺-uncons h)
  where
    go : ((p ++ q) ≺ (r ++ (c ∷ z)) → length r < length p → (b : ℕ) → c < b → (q' z' : List ℕ) → (p ++ q') ≺ (r ++ (b ∷ z')))
        → (x < y) ⊎ ((x ≡ y) × ((p ++ q) ≺ (r ++ (c ∷ z)))) → (x ∷ (p ++ q')) ≺ (y ∷ (r ++ (b ∷ z')))
    go ih (inl m) = here m
    go ih (inr m) = rw m.0 (there (ih m.1 (omega arith) b k q' z'))
