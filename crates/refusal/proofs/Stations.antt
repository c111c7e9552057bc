-- A number is one of 1 to a most; a row has 1 to 64 stations.
use mathlib.Core.Bool.{and-eq-true_iff, true}
use mathlib.Core.Path.{◌≡◌}
use Prim.Native.Nat.{ℕ, ◌≤◌}
use lib.Dec.{leb}
use borrow.Author.Tests.{le-leb, leb-true}
use Rattle.refusal.specs.Verdicts.{are_stations, most_stations, one_to}

pub one_to→ : (most n : ℕ) → one_to most n ≡ true → (1 ≤ n) × (n ≤ most)
one_to→ most n e = let h = (and-eq-true_iff (leb 1 n) (leb n most)).0 e in (leb-true 1 n h.0, leb-true n most h.1)

pub →one_to : {most n : ℕ} → 1 ≤ n → n ≤ most → one_to most n ≡ true
→one_to {most} {n} s m = (and-eq-true_iff (leb 1 n) (leb n most)).1 (le-leb 1 n s, le-leb n most m)

pub record Sized (n : ℕ) : Type 0 where
  pub some : 1 ≤ n
  pub most : n ≤ most_stations

pub stations→ : (n : ℕ) → are_stations n ≡ true → Sized n
unfolding are_stations
stations→ n e = let h = one_to→ most_stations n e in record { some = h.0; most = h.1 }

pub →stations : {n : ℕ} → Sized n → are_stations n ≡ true
unfolding are_stations
→stations s = →one_to s.some s.most
