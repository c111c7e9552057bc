-- `prefix::carried::period_after` meets its contract.
use Prim.Native.Nat.{◌<◌}
use native.Mathlib.Nat.{pos_of_ne-zero}
use native.Mathlib.Omega.{arith}
use lib.ListN.{length}
use Rattle.words.proofs.AllButLast.{after_barred, after_higher, after_lower, after_one, after_same}
use Rattle.prefix.proofs.carried.period_after.Goals as goal

pub returns-then-i-eq0 : goal.returns-then-i-eq0
returns-then-i-eq0 c = (after_one c.args.a.now c.requires.0 c.if-i-eq0.true, omega arith)

pub returns-then-p-eq0 : goal.returns-then-p-eq0
returns-then-p-eq0 c =
    let a = c.args.a.now in
    let l : 1 < length a = omega (arith, pos_of_ne-zero c.if-i-eq0.false) in
    (after_barred a c.requires.0 c.args.p l (c.requires.2 l) c.if-p-eq0.true, omega arith)

pub returns-then-a-i : goal.returns-then-a-i
returns-then-a-i c =
    let a = c.args.a.now in
    let l : 1 < length a = omega (arith, pos_of_ne-zero c.if-i-eq0.false) in
    (after_lower a c.requires.0 c.args.p l (c.requires.2 l) (pos_of_ne-zero c.if-p-eq0.false) c.requires.1 c.if-a-i.true, omega arith)

pub returns-then-c-a : goal.returns-then-c-a
returns-then-c-a c =
    let a = c.args.a.now in
    let l : 1 < length a = omega (arith, pos_of_ne-zero c.if-i-eq0.false) in
    (after_higher a c.requires.0 c.args.p l (c.requires.2 l) (pos_of_ne-zero c.if-p-eq0.false) c.requires.1 c.if-c-a.true, omega arith)

pub returns : goal.returns
returns c =
    let a = c.args.a.now in
    let l : 1 < length a = omega (arith, pos_of_ne-zero c.if-i-eq0.false) in
    (after_same a c.requires.0 c.args.p l (c.requires.2 l) (pos_of_ne-zero c.if-p-eq0.false) c.requires.1 (omega arith), omega arith)
