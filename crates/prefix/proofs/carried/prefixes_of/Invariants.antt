-- `prefix::carried::prefixes_of` meets its contract. The invariant: p is the period of the first i symbols, the entries before i are those of their prefixes,
-- and the others are still 0.
use mathlib.Core.List.{List}
use mathlib.Core.Path.{◌≡◌}
use Prim.Native.Nat.{ℕ, ◌-◌, ◌<◌, ◌≤◌}
use lib.ListN.{get_or, length, take}
use Rattle.words.specs.InnerScan.{coded, scan}
use Rattle.refusal.specs.Verdicts.{most_stations}
use Rattle.prefix.proofs.carried.prefixes_of.Given as goal

pub record Inv (a found : List ℕ) (i j p : ℕ) : Type 0 where
  pub behind : j < i
  pub long : length found ≡ most_stations
  pub period : p ≡ i - j
  pub scans : i ≤ length a → coded p ≡ scan (take i a)
  pub each : (m : ℕ) → 0 < m → m < i → m < length a → coded (get_or found m 0) ≡ scan (take m a)
  pub rest : (m : ℕ) → i ≤ m → get_or found m 0 ≡ 0
  pub within : (m : ℕ) → get_or found m 0 ≤ m

abbrev pub invariant-loop-i : goal.invariant-loop-i
invariant-loop-i l = Inv l.a l.found l.i l.j l.p
