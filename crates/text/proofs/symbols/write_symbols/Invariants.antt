-- `text::symbols::write_symbols` meets its contract: the symbols are written as far as i.
use mathlib.Core.List.{List, map}
use mathlib.Core.Path.{◌≡◌}
use Prim.Native.Nat.{ℕ, ◌≤◌}
use lib.ListN.{length}
use Rattle.text.specs.Symbols.{symbol_of}
use Rattle.words.proofs.Front.{Front}
use Rattle.text.proofs.symbols.write_symbols.Given as goal

pub record Inv (bytes O o : List ℕ) (i : ℕ) : Type 0 where
  pub inside : i ≤ length bytes
  pub long : length o ≡ length O
  pub front : Front (map symbol_of bytes) O i o

abbrev pub invariant-loop-i : goal.invariant-loop-i
invariant-loop-i l = Inv l.bytes l.initial.out l.out l.i
