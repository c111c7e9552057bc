-- A chain of `need` gives the first condition that holds.
use mathlib.Core.Bool.{Bool, false, true, true≢false}
use mathlib.Core.Logic.{inl, inr, ◌⊎◌}
use mathlib.Core.Path.{refl, sym, ◌∙◌, ◌≡◌}
use Prim.Native.Nat.{suc, zero, ℕ, ◌<◌, ◌≤◌}
use native.Mathlib.Omega.{arith}
use lib.Dec.{eqb, leb}
use borrow.Author.Tests.{eqb-false, eqb-true, leb-false, leb-true}
use Rattle.refusal.proofs.Stations.{one_to→, →one_to}
use Rattle.refusal.specs.Conditions.{AcceptedExactly, Conditions, FirstOf, NoStations, NotOneTo, OnlyUnder, no_more, when}
use Rattle.refusal.specs.Verdicts.{Verdict, accepted, are_stations, most_stations, need, one_to, refused}
use Rattle.refusal.specs.declared.Refusal.{Refusal}
use Rattle.words.proofs.Booleans.{clash}

-- a test fails exactly where the condition holds
abbrev pub Tells : Bool → Type 0 → Type 0
Tells b C = (b ≡ false → C) × (b ≡ true → C → ⊥)

-- a chain of `need`, each test with its condition; behind it the condition doesn't hold
pub data Chain : Conditions → Verdict → Type 1 where
  passed : Chain no_more accepted
  test : (b : Bool) {C : Type 0} {r : Refusal} {rest : Conditions} {v : Verdict} → Tells b C → ((C → ⊥) → Chain rest v) → Chain (when C r rest) (need b r v)

pub chain_first : {c : Conditions} {v : Verdict} → Chain c v → FirstOf c v
chain_first passed = refl
chain_first (test b {C = C} {r = r} {rest = rest} {v = v} t more) = go b t (λ h. chain_first (more h))
  where
    go : (b : Bool) → Tells b C → ((C → ⊥) → FirstOf rest v) → FirstOf (when C r rest) (need b r v)
    go true t f = inr (t.1 refl, f (t.1 refl))
    go false t f = inl (t.0 refl, refl)

-- ---- the tests

pub false_tells : (b : Bool) → Tells b (b ≡ false)
false_tells b = (λ e. e, λ e f. true≢false (sym e ∙ f))

zero_or : (n : ℕ) → (n ≡ 0) ⊎ (1 ≤ n)
zero_or zero = inl refl
zero_or (suc n) = inr (omega arith)

le_or : (m n : ℕ) → (m ≤ n) ⊎ (n < m)
le_or m n = go (leb m n) refl
  where
    go : (b : Bool) → leb m n ≡ b → (m ≤ n) ⊎ (n < m)
    go true e = inl (leb-true m n e)
    go false e = inr (leb-false m n e)

pub at_most_tells : (m n : ℕ) → Tells (leb m n) (n < m)
at_most_tells m n = (λ e. leb-false m n e, λ e h. omega (arith, leb-true m n e))

pub equal_tells : (m n : ℕ) → Tells (eqb m n) (m ≡ n → ⊥)
equal_tells m n = (λ e. eqb-false m n e, λ e h. h (eqb-true m n e))

pub one_to_tells : (most n : ℕ) → Tells (one_to most n) (NotOneTo most n)
one_to_tells most n = (λ e. outside e (le_or n most), λ e. inside (one_to→ most n e))
  where
    outside : one_to most n ≡ false → (n ≤ most) ⊎ (most < n) → NotOneTo most n
    outside e (inl h) = none (zero_or n)
      where
        none : (n ≡ 0) ⊎ (1 ≤ n) → NotOneTo most n
        none (inl z) = inl z
        none (inr s) = absurd (true≢false (sym (→one_to s h) ∙ e))
    outside e (inr h) = inr h

    inside : (1 ≤ n) × (n ≤ most) → NotOneTo most n → ⊥
    inside s (inl z) = omega (arith, s.0)
    inside s (inr h) = omega (arith, s.1)

pub stations_tell : (n : ℕ) → Tells (are_stations n) (NoStations n)
unfolding are_stations
stations_tell n = one_to_tells most_stations n

-- ---- what follows

refused≢accepted : {r : Refusal} → refused r ≡ accepted → ⊥
refused≢accepted e = clash (cc)

-- the tests of a verdict that accepts have passed
pub need→ : (b : Bool) (r : Refusal) (v : Verdict) → need b r v ≡ accepted → (b ≡ true) × (v ≡ accepted)
need→ true r v e = (refl, e)
need→ false r v e = absurd (refused≢accepted e)

pub only_under : OnlyUnder
only_under no_more v f r e = absurd (refused≢accepted (sym e ∙ f))
only_under (when C q rest) v (inl h) r e = inl (h.0, same (sym h.1 ∙ e))
  where
    same : {a b : Refusal} → refused a ≡ refused b → a ≡ b
    same e = cc
only_under (when C q rest) v (inr h) r e = inr (only_under rest v h.1 r e)

pub accepted_exactly : AcceptedExactly
accepted_exactly no_more v f = (λ e. tt, λ u. f)
accepted_exactly (when C q rest) v (inl h) = (λ e. absurd (refused≢accepted (sym h.1 ∙ e)), λ u. absurd (u.0 h.0))
accepted_exactly (when C q rest) v (inr h) = let i = accepted_exactly rest v h.1 in (λ e. (h.0, i.0 e), λ u. i.1 u.1)
