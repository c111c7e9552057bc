-- `text::write::put_field` meets its contract: the last digits stand behind `from`, and the rest is still to be spelled.
use mathlib.Core.Logic.{⊎_elim}
use mathlib.Core.Path.{ap, refl}
use Prim.Native.Nat.{ℕ, ◌≤◌}
use native.Mathlib.Omega.{arith}
use lib.ListN.{length}
use Rattle.text.proofs.Digits.{decimal-length_more, decimal_one, decimal_short, spelled_more, spelled_part}
use Rattle.text.specs.Decimals.{decimal, field}
use Rattle.words.proofs.Below.{le_or}
use Rattle.text.proofs.write.put_field.Goals as goal

pub loop-rest-init : goal.loop-rest-init
unfolding field
loop-rest-init c = record { long = refl; inside = omega arith; room = decimal_short 19 c.args.n (omega arith); spelled = refl }

-- something is left to spell
left : (n : ℕ) → 1 ≤ length (decimal n)
left n = ⊎_elim (λ h. omega (arith, decimal-length_more n h)) (λ h. omega (arith, ap length (decimal_one n h))) (le_or 10 n)

pub put-requires : goal.put-requires
put-requires c = rw (spelled_part c.loop-rest.invariant c.loop-rest-test.false) c.requires

pub returns : goal.returns
returns c =
    let e = spelled_part c.loop-rest.invariant c.loop-rest-test.false in
    let p = c.put.ensures in (rw e at p.0, rw e at p.1)

pub overflow_sub-from : goal.overflow_sub-from
overflow_sub-from c = omega (arith, left c.loop-rest.rest)

pub loop-rest-preserved : goal.loop-rest-preserved
loop-rest-preserved c = spelled_more c.loop-rest.invariant c.loop-rest-test.true

pub overflow_sub-from-2 : goal.overflow_sub-from-2
overflow_sub-from-2 c = omega (arith, left c.loop-rest.rest)
