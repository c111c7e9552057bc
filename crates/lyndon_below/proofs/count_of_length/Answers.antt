-- `lyndon_below::count_of_length` meets its contract.
use mathlib.Core.Path.{ap₂, ◌∙◌}
use Prim.Native.Nat.{ℕ, ◌-◌, ◌/◌}
use native.Mathlib.Omega.{arith}
use Rattle.lyndon_below.proofs.LyndonTable.{entry_right, no_density, taken_few, taken_fits}
use Rattle.lyndon_below.proofs.count_of_length.Goals as goal

pub returns-then-d-k-ne0 : goal.returns-then-d-k-ne0
returns-then-d-k-ne0 c = λ k q a b. absurd (no_density _ _ _ k q c.requires.0 c.if-d-k-ne0.true a b)

pub shorter_sum-shorter-requires : goal.shorter_sum-shorter-requires
shorter_sum-shorter-requires c = (
  c.requires.0,
  omega (arith, c.requires.1, c.requires.2.few),
  taken_fits _ _ c.requires.2 _ _ c.requires.0 c.requires.1 c.if-n-m-ne0.false c.if-d-k-ne0.false c.requires.3,
)

pub overflow_sub-result : goal.overflow_sub-result
overflow_sub-result c =
    let few = taken_few _ _ c.requires.2 _ _ c.requires.0 c.requires.1 c.if-n-m-ne0.false c.if-d-k-ne0.false c.requires.3 in
    omega (arith, c.count_below-rows.ensures, c.shorter_sum-shorter.ensures, few)

pub returns : goal.returns
returns c = λ k q a b.
    ap₂ (λ (i j : ℕ). (i - j) / c.args.m) c.count_below-rows.ensures c.shorter_sum-shorter.ensures
    ∙ entry_right _ _ c.requires.2 _ _ c.requires.0 c.requires.1 c.if-n-m-ne0.false c.if-d-k-ne0.false c.requires.3 k q a b
