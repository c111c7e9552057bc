-- What each outcome of the tests on (n, d) and the buffer comes to.
use mathlib.Core.Bool.{false, true}
use mathlib.Core.List.{List}
use mathlib.Core.Path.{ap, refl, ◌∙◌, ◌≡◌}
use Prim.Native.Nat.{ℕ, ◌<◌, ◌≤◌}
use lib.ListN.{length, take}
use borrow.Author.Tests.{le-leb, lt-leb}
use Rattle.density.proofs.BalancedRow.{balanced-length}
use Rattle.density.proofs.Largest.{largest_balanced}
use Rattle.density.specs.Necklaces.{largest_necklace}
use Rattle.largest.specs.Top.{top_verdict}
use Rattle.std.specs.Prelude.{Err, Ok, Result}
use Rattle.refusal.proofs.Stations.{stations→}
use Rattle.refusal.specs.Outcomes.{decide, filled}
use Rattle.refusal.specs.Verdicts.{accepted, are_stations, refused}
use Rattle.refusal.specs.declared.Refusal.{Refusal}
use Rattle.refusal.specs.declared.Refusal.TheVariants.{Buffer, Holes, Stations}
use Rattle.words.specs.Buffers.{fronted}

pub no_stations : (n d room : ℕ) → are_stations n ≡ false → top_verdict n d room ≡ refused Stations
no_stations n d room a = rw a

pub too_many_holes : (n d room : ℕ) → are_stations n ≡ true → n < d → top_verdict n d room ≡ refused Holes
too_many_holes n d room a h = rw (a, lt-leb d n h)

pub too_short : (n d room : ℕ) → are_stations n ≡ true → d ≤ n → room < n → top_verdict n d room ≡ refused Buffer
too_short n d room a h b = rw (a, le-leb d n h, lt-leb n room b)

pub accepts : (n d room : ℕ) → are_stations n ≡ true → d ≤ n → n ≤ room → top_verdict n d room ≡ accepted
accepts n d room a h b = rw (a, le-leb d n h, le-leb n room b)

-- what is promised of the answer r and of the buffer, o before and out after
abbrev pub Promise : ℕ → ℕ → List ℕ → Result Unit Refusal → List ℕ → Type 0
Promise n d o r out = (r ≡ decide (top_verdict n d (length o)) tt) × (out ≡ filled (top_verdict n d (length o)) (largest_necklace n d) o)

-- a refusal keeps it
pub kept : (r : Refusal) (n d : ℕ) (o : List ℕ) → top_verdict n d (length o) ≡ refused r → Promise n d o (Err r) o
kept r n d o e = rw e (refl, refl)

module _ (n d : ℕ) (row : List ℕ) (a : are_stations n ≡ true) (h : d ≤ n) (e : take n row ≡ largest_necklace n d) where
  pub row_length : length (take n row) ≡ n
  row_length = let s = (stations→ n a).some in ap length (e ∙ largest_balanced n d s h) ∙ balanced-length n d s n 0

  -- a row that is written keeps it
  pub written : (o out : List ℕ) → n ≤ length o → out ≡ fronted (take n row) o → Promise n d o (Ok tt) out
  written o out b f = rw (accepts n d (length o) a h b) (refl, rw e at f)
