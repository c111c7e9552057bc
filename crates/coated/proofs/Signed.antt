-- Small amounts as signed numbers of the code, upwards and downwards.
use mathlib.Core.Path.{ap, subst, sym, ◌∙◌, ◌≡◌}
use Prim.Native.Nat.{suc, zero, ℕ, ◌≤◌}
use native.Mathlib.Omega.{arith}
use lib.IntN.{ℤ, +ℤ_idl, nat_abs, negsuc, neg_ℤ, pos, ◌-ℤ◌}
use mir.Syntax.{w64}
use mir.Val.{SFits, of_z, to_z}
use mir.ValLaws.{to_z-of_z, to_z_pos}
use Rattle.refusal.specs.Verdicts.{most_stations}

fits : (s : ℤ) → nat_abs s ≤ most_stations → SFits w64 s
fits (pos k) h = record { sfits = omega arith }
fits (negsuc k) h = record { sfits = omega arith }

-- a signed number that is passed on
pub kept : (s : ℤ) → nat_abs s ≤ most_stations → to_z w64 (of_z w64 s) ≡ s
kept s h = to_z-of_z w64 s (fits s h)

-- an amount, upwards
pub up_fits : (k : ℕ) → k ≤ most_stations → SFits w64 (pos k)
up_fits k h = fits (pos k) h

pub up_is : (k : ℕ) → k ≤ most_stations → to_z w64 k ≡ pos k
up_is k h = to_z_pos w64 k (up_fits k h).sfits

-- and downwards
opposite_small : (k : ℕ) → k ≤ most_stations → nat_abs (neg_ℤ (pos k)) ≤ most_stations
opposite_small zero h = omega arith
opposite_small (suc k) h = h

negative : (k : ℕ) → k ≤ most_stations → pos 0 -ℤ to_z w64 k ≡ neg_ℤ (pos k)
negative k h = ap (λ (z : ℤ). pos 0 -ℤ z) (up_is k h) ∙ +ℤ_idl (neg_ℤ (pos k))

pub down_fits : (k : ℕ) → k ≤ most_stations → SFits w64 (pos 0 -ℤ to_z w64 k)
down_fits k h = subst (SFits w64) (sym (negative k h)) (fits (neg_ℤ (pos k)) (opposite_small k h))

pub down_is : (k : ℕ) → k ≤ most_stations → to_z w64 (of_z w64 (pos 0 -ℤ to_z w64 k)) ≡ neg_ℤ (pos k)
down_is k h = to_z-of_z w64 (pos 0 -ℤ to_z w64 k) (down_fits k h) ∙ negative k h
