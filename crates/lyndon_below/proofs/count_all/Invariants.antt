-- `lyndon_below::count_all` meets its contract.
use mathlib.Core.Path.{◌≡◌}
use lib.ListN.{length}
use Rattle.lyndon_below.specs.InnerTables.{Known}
use Rattle.lyndon_below.proofs.count_all.Given as goal

abbrev pub invariant-loop-m : goal.invariant-loop-m
invariant-loop-m l = (length l.t ≡ 65) × Known l.t l.w l.d l.m
