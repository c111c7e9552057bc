-- `extension::goes_on` meets its contract. The invariant: the comparison of g with the largest necklace is that of what is left of the two from place k,
-- and the error is what is left of k e behind its floor.
use mathlib.Core.Path.{◌≡◌}
use Prim.Native.Nat.{◌-◌}
use lib.ListN.{drop}
use Rattle.density.proofs.ErrorTerm.{Error}
use Rattle.density.specs.InnerBalanced.{balanced_from}
use Rattle.extension.specs.InnerSearch.{fits}
use Rattle.words.specs.Order.{le}
use Rattle.extension.proofs.goes_on.Given as goal

abbrev pub invariant-loop-k : goal.invariant-loop-k
invariant-loop-k l = record {
  error : Error l.m l.e l.k l.error;
  same : fits l.d l.m l.g ≡ le (drop l.k l.g) (balanced_from l.m l.e l.k (l.m - l.k));
}
