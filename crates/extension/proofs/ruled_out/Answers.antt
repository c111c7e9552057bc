-- `extension::ruled_out` meets its contract.
use Prim.Native.Nat.{suc, ◌*◌, ◌+◌, ◌-◌, ◌<◌}
use native.Mathlib.Numerals.{add-one}
use native.Mathlib.Omega.{arith}
use lib.ListN.{length}
use borrow.Author.Tests.{ltb-true}
use Rattle.density.proofs.RuledOut.{too_few, too_many, too_sparse}
use Rattle.words.specs.Symbols.{sum}
use Rattle.extension.proofs.ruled_out.Goals as goal

pub returns-then-d-h : goal.returns-then-d-h
returns-then-d-h c κ = let args = c.args in too_many args.n args.d args.prefix.now (omega arith) (omega arith)

pub returns-then-more-e : goal.returns-then-more-e
returns-then-more-e c κ = let args = c.args in too_few args.n args.d args.prefix.now (omega arith) (omega arith)

pub returns-then-z-prefix : goal.returns-then-z-prefix
returns-then-z-prefix c κ =
    let args = c.args in
    let a = args.prefix.now in
    let few : (args.z + 1) * (args.d - args.h) < args.n - length a = ltb-true _ _ κ in
    let few' : suc args.z * (args.d - sum a) < args.n - length a = rw (← c.requires.3) (rw add-one at few) in
    too_sparse args.n args.d a (omega arith) args.z (omega arith) c.requires.4.front (omega (arith, c.requires.4.then (omega arith), c.requires.5 args.z (omega arith))) few'
