-- `words::compare` meets its contract: the laws of Comparing, at each place of the code.
use native.Mathlib.Omega.{arith}
use Rattle.words.proofs.Comparing.{both_ended, bytes_differ, bytes_none, bytes_on, chosen, one_ended, words_differ, words_none, words_on}
use Rattle.words.proofs.compare.Goals as goal

pub loop-k-init : goal.loop-k-init
loop-k-init c = words_none (omega arith)

-- the words differ
pub returns-then-x-y : goal.returns-then-x-y
returns-then-x-y c =
    let l = c.loop-k in
    let t = words_differ l.invariant c.loop-k-test.true (λ i. (c.type_inv.a i).fits) (λ i. (c.type_inv.b i).fits)
    _ _ c.word_at-x.ensures c.word_at-y.ensures _ _ c.equal_bytes.ensures.0
    (chosen _ _ _ c.if-x-y.true c.cmp.ensures) in
    record { order = t.0; place = t.1.0; pairs = t.1.1 }

-- they are equal
pub loop-k-preserved : goal.loop-k-preserved
loop-k-preserved c =
    let l = c.loop-k in
    words_on l.invariant c.loop-k-test.true (λ i. (c.type_inv.a i).fits) (λ i. (c.type_inv.b i).fits)
    _ _ c.word_at-x.ensures c.word_at-y.ensures c.if-x-y.false

pub loop-i-init : goal.loop-i-init
loop-i-init c = bytes_none c.loop-k.invariant c.loop-k-test.false

-- the bytes differ
pub returns-then-a-i : goal.returns-then-a-i
returns-then-a-i c =
    let t = bytes_differ c.loop-i.invariant c.loop-i-test.true _ (chosen _ _ _ c.if-a-i.true c.cmp-then-a-i.ensures) in
    record { order = t.0; place = t.1.0; pairs = t.1.1 }

-- they are equal
pub loop-i-preserved : goal.loop-i-preserved
loop-i-preserved c = bytes_on c.loop-i.invariant c.loop-i-test.true c.if-a-i.false

-- both rows have ended
pub returns-then-a-b : goal.returns-then-a-b
returns-then-a-b c =
    let t = both_ended c.loop-i.invariant c.loop-i-test.false c.if-a-b.true in
    record { order = t.0; place = t.1.0; pairs = t.1.1 }

-- one has ended, and the other goes on
pub returns : goal.returns
returns c =
    let t = one_ended c.loop-i.invariant c.loop-i-test.false _ (chosen _ _ _ c.if-a-b.false c.cmp-2.ensures) in
    record { order = t.0; place = t.1.0; pairs = t.1.1 }
