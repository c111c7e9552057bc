-- A drawer's rings can be numbered by 64 bits, since the ways to choose d of n are fewer than 2 ^ n, and so are all its trials.
use mathlib.Core.Bool.{◌&&◌}
use mathlib.Core.List.{List}
use mathlib.Core.Path.{ap}
use Prim.Native.Nat.{ℕ, ◌^◌, ◌≤◌}
use native.Mathlib.Nat.{pow-le-pow_right}
use native.Mathlib.Omega.{arith}
use lib.ListN.{length}
use Rattle.density.proofs.Binary.{binary_within}
use Rattle.density.proofs.RowCounts.{choose_under, few_rings}
use Rattle.listing.proofs.AllTrials.{all_prices}
use Rattle.listing.proofs.RingsNamed.{rings_listing}
use Rattle.listing.specs.Listing.{listing}
use Rattle.listing.specs.Totals.{all_trials, rings_of}
use Rattle.printing.specs.Left.{highest64}
use Rattle.walk.proofs.Demand.{Admitted}
use Rattle.walk.specs.Moves.{rules}
use Rattle.words.specs.Order.{le}

-- the lines of a book
pub numbered : (n d kind : ℕ) (limit : List ℕ) → Admitted rules n d kind limit → length (rings_of (listing n d (rules.of_kind kind) limit)) ≤ highest64
numbered n d kind limit o =
    let e = ap length (rings_listing n d (rules.of_kind kind) limit o.long o.binary) in
    let h = few_rings n d (λ r. le r limit && rules.of_kind kind r) in
    let p : 2 ^ n ≤ 2 ^ 64 = pow-le-pow_right (omega arith) o.most in
    omega (arith, e, h, choose_under n d o.stations)

-- and its prices
pub priced : (n d kind : ℕ) (limit : List ℕ) → Admitted rules n d kind limit → all_trials (listing n d (rules.of_kind kind) limit) ≤ highest64
priced n d kind limit o =
    let p : 2 ^ n ≤ 2 ^ 64 = pow-le-pow_right (omega arith) o.most in
    omega (arith, all_prices n d kind limit o.stations o.long (binary_within o.binary))
