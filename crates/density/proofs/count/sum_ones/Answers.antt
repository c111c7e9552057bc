-- `density::count::sum_ones` meets its contract.
use mathlib.Core.Path.{sym, ◌∙◌, ◌≡◌}
use Prim.Native.Nat.{◌<◌}
use native.Mathlib.Omega.{arith}
use borrow.Author.Rules.{rules}
use Rattle.std.specs.List.{sum}
use Rattle.density.proofs.Counts.{sum_std}
use Rattle.density.proofs.Binary.{binary_sum, within_binary}
use Rattle.density.proofs.count.sum_ones.Goals as goal

pub sum-ones-requires-clause-fits : goal.sum-ones-requires-clause-fits
sum-ones-requires-clause-fits c =
    let w = c.args.row.now in
    let few : sum w < 256 = omega (arith, sum_std w, binary_sum (within_binary w c.requires.1), c.requires.0) in
    search (rules, few)

pub returns : goal.returns
returns c =
    let w = c.args.row.now in
    let s : c.from.result ≡ sum w = search rules in
    (s ∙ sym (sum_std w), omega (arith, s, sum_std w, binary_sum (within_binary w c.requires.1)))
