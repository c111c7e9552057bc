-- `text::write::decimal_length` meets its contract: the digits counted and those of the rest are those of the number.
use mathlib.Core.Path.{ap}
use native.Mathlib.Nat.{div-add-mod'}
use native.Mathlib.Omega.{arith}
use lib.ListN.{length}
use Rattle.text.proofs.Digits.{decimal-length_more, decimal_one, decimal_short}
use Rattle.text.proofs.write.decimal_length.Goals as goal

pub loop-rest-preserved : goal.loop-rest-preserved
loop-rest-preserved c =
    let l = c.loop-rest in
    let d = div-add-mod' l.rest 10 in
    record { small = omega arith; counted = omega (arith, decimal-length_more l.rest c.loop-rest-test.true) }

pub returns : goal.returns
returns c =
    let l = c.loop-rest in
    let n = c.args.n in
    let e = ap length (decimal_one l.rest c.loop-rest-test.false) in
    (omega arith, omega (arith, decimal_short 19 n (omega arith)))
