-- `extension::search_from` meets its contract. The invariant: the search from place t is the search from place i, over the first i symbols of x,
-- whose density is `ones`.
use mathlib.Core.Path.{◌≡◌}
use Prim.Native.Nat.{◌-◌, ◌≤◌}
use lib.ListN.{length, take}
use Rattle.refusal.specs.Verdicts.{most_stations}
use Rattle.extension.specs.InnerSearch.{continues}
use Rattle.words.specs.InnerScan.{Leading}
use Rattle.words.specs.Symbols.{Within, sum}
use Rattle.extension.proofs.search_from.Given as goal

abbrev pub invariant-loop-i : goal.invariant-loop-i
invariant-loop-i l = record {
  long : length l.x ≡ most_stations;
  count : l.ones ≡ sum (take l.i l.x);
  few : l.ones ≤ l.i;
  within : Within 2 l.x;
  same : continues l.d l.p (l.n - l.t) (take l.t l.initial.x) ≡ continues l.d l.p (l.n - l.i) (take l.i l.x);
  lead : Leading (take l.i l.x) l.z;
}
