-- What a verdict means: the conditions of an operation in its order, as plain facts.
use Rattle.std.specs.Prelude.{◌↔◌, ◌⊎◌, ◌≡◌, ℕ, ◌<◌}
use Rattle.refusal.specs.Verdicts.{Verdict, accepted, most_stations, refused}
use Rattle.refusal.specs.declared.Refusal.{Refusal}

-- conditions, each with its refusal
pub data Conditions : Type 1 where
  no_more : Conditions
  when : Type 0 → Refusal → Conditions → Conditions

-- the verdict has the refusal of the first condition that holds, and accepts where none does
abbrev pub FirstOf : Conditions → Verdict → Type 0
FirstOf no_more v = v ≡ accepted
FirstOf (when C r rest) v = (C × (v ≡ refused r)) ⊎ ((C → ⊥) × FirstOf rest v)

-- a condition of this refusal holds
abbrev pub Holds : Conditions → Refusal → Type 0
Holds no_more r = ⊥
Holds (when C q rest) r = (C × (q ≡ r)) ⊎ Holds rest r

-- no condition holds
abbrev pub NoneHolds : Conditions → Type 0
NoneHolds no_more = Unit
NoneHolds (when C r rest) = (C → ⊥) × NoneHolds rest

-- "Each number is returned only under its condition."
abbrev pub OnlyUnder : Type 1
OnlyUnder = (c : Conditions) (v : Verdict) → FirstOf c v → (r : Refusal) → v ≡ refused r → Holds c r

-- what meets no condition is accepted, and nothing else is
abbrev pub AcceptedExactly : Type 1
AcceptedExactly = (c : Conditions) (v : Verdict) → FirstOf c v → (v ≡ accepted) ↔ NoneHolds c

-- n is none of 1 to most
abbrev pub NotOneTo : ℕ → ℕ → Type 0
NotOneTo most n = (n ≡ 0) ⊎ (most < n)

-- "1. stations not 1 to 64"
abbrev pub NoStations : ℕ → Type 0
NoStations n = NotOneTo most_stations n
