-- `prefix::carried::Known::longer` meets its contract.
use Prim.Native.Nat.{◌-◌, ◌≤◌}
use native.Mathlib.Omega.{arith}
use lib.ListN.{length, take}
use Rattle.density.proofs.Binary.{binary_sum, within_binary}
use Rattle.density.proofs.Counts.{front-sum}
use Rattle.words.proofs.AllButLast.{front_length}
use Rattle.words.proofs.Alphabet.{within_take}
use Rattle.words.specs.Symbols.{sum}
use Rattle.prefix.proofs.carried.Known.longer.Goals as goal

pub overflow_add-ones : goal.overflow_add-ones
overflow_add-ones c =
    let a = c.args.a.now in
    let few : sum (take (length a - 1) a) ≤ length (take (length a - 1) a) = binary_sum (within_binary _ (within_take (length a - 1) a c.requires.2)) in
    omega (arith, c.requires.2 (length a - 1) (omega (arith, c.requires.0)), few, front_length a c.requires.0, c.requires.3.sums)

pub returns : goal.returns
returns c =
    let a = c.args.a.now in
    record {
      scans = λ h. c.period_after-period.ensures.0;
      within = c.period_after-period.ensures.1;
      sums = omega (arith, c.requires.3.sums, front-sum a c.requires.0);
      leads = c.zeros_after-zeros.ensures;
    }
