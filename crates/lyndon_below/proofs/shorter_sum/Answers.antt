-- `lyndon_below::shorter_sum` meets its contract.
use mathlib.Core.List.{List}
use mathlib.Core.Path.{◌≡◌}
use Prim.Native.Nat.{pred, suc, zero, ℕ, ◌*◌, ◌+◌, ◌-◌, ◌/◌, ◌<◌, ◌≤◌}
use native.Mathlib.Numerals.{add-one}
use native.Mathlib.Omega.{arith}
use Rattle.counting.specs.InnerSums.{total, upto}
use Rattle.counting.proofs.Sums.{upto_le, upto_next}
use Rattle.lyndon_below.proofs.LyndonTable.{not_last, taken_is}
use Rattle.lyndon_below.specs.InnerTables.{named, taken}
use borrow.Author.Rules.{rules}
use Rattle.lyndon_below.proofs.shorter_sum.Goals as goal

-- one more entry
grown : (t : List ℕ) (m e sum j x : ℕ) → 0 < j → sum ≡ total (taken t m e) (upto (j - 1)) → x ≡ named t m e j
    → sum + m / (j + 1) * x ≡ total (taken t m e) (upto j)
grown t m e sum zero x z p q = absurd (omega arith)
grown t m e sum (suc i) x z p q =
    let before : suc i - 1 ≡ i = omega arith in
    rw (p, q, before) (omega (arith, rw add-one at (upto_next (taken t m e) i), taken_is t m e i))

grown_fits : (t : List ℕ) (m e sum j x : ℕ) → 0 < j → sum ≡ total (taken t m e) (upto (j - 1)) → x ≡ named t m e j → j < m
    → sum + m / (j + 1) * x ≤ total (taken t m e) (upto (pred m))
grown_fits t m e sum j x z p q l = rw (grown t m e sum j x z p q) (upto_le (taken t m e) j (pred m) (not_last m j l))

pub loop-j-init : goal.loop-j-init
unfolding total upto
loop-j-init c = search rules

pub overflow_mul-sum : goal.overflow_mul-sum
overflow_mul-sum c =
    let fits = grown_fits c.args.t.now c.args.m c.args.e _ _ _ c.loop-j.auto.j c.loop-j.invariant c.entry.ensures c.loop-j-test.true in
    record { fits = omega (arith, c.requires.2, fits) }

pub overflow_add-sum-in-loop-j : goal.overflow_add-sum-in-loop-j
overflow_add-sum-in-loop-j c =
    let fits = grown_fits c.args.t.now c.args.m c.args.e _ _ _ c.loop-j.auto.j c.loop-j.invariant c.entry.ensures c.loop-j-test.true in
    record { fits = omega (arith, c.requires.2, fits) }

pub loop-j-preserved : goal.loop-j-preserved
loop-j-preserved c =
    let e : c.loop-j.j + 1 - 1 ≡ c.loop-j.j = omega arith in
    rw e (grown c.args.t.now c.args.m c.args.e _ _ _ c.loop-j.auto.j c.loop-j.invariant c.entry.ensures)
