-- `largest::join_many` meets its contract: before block k the row stands as far as p, with ones behind.
use mathlib.Core.List.{List}
use mathlib.Core.Path.{◌≡◌}
use Prim.Native.Nat.{suc, zero-le, ℕ, ◌%◌, ◌*◌, ◌+◌, ◌-◌, ◌/◌, ◌<◌, ◌≤◌}
use native.Mathlib.Numerals.{add-one}
use native.Mathlib.Omega.{arith}
use lib.ListN.{get_or, set, take}
use Rattle.largest.proofs.FilledRow.{filled_none, filled_whole, many_filled}
use Rattle.largest.proofs.ManyBlocks.{least_run, many_ends, many_start, many_turn}
use Rattle.density.specs.InnerBalanced.{balanced}
use Rattle.refusal.specs.Verdicts.{most_stations}
use Rattle.largest.proofs.join_many.Invariants.{Inv}
use Rattle.largest.proofs.join_many.Goals as goal

-- a turn: b is the smaller row's symbol, q the place behind the block
record Turn (n d z b : ℕ) (row : List ℕ) (p q k : ℕ) : Type 0 where
  small : b ≤ 1
  grows : p < q
  room : q ≤ n
  next : Inv n d z (set row p 0) q (k + 1)

on : (n d z : ℕ) (w row : List ℕ) (p k : ℕ) → n ≤ most_stations → 0 < z → d + z ≡ n → 2 * z ≤ n → take z w ≡ balanced z (n % z) → k < z → Inv n d z row p k → Turn n d z (get_or w k 0) row p (p + n / z + get_or w k 0) k
on n d z w row p k l zp whole h e k< i =
    let t = many_turn n d z zp whole h p k w e k< i.place in
    let b = t.1 in
    let g : ℕ = n / z - 1 + get_or w k 0 in
    let s = least_run n d z zp whole h in
    let here : p + n / z + get_or w k 0 ≡ suc (p + g) = omega arith in
    record {
      small = t.0;
      grows = omega arith;
      room = omega (arith, b.room);
      next = rw (here, add-one) record {
        upto = k<;
        place = b.next;
        room = b.room;
        filled = many_filled n d (omega arith) z p k g row zp whole h l b i.filled;
      };
    }

pub loop-k-init : goal.loop-k-init
loop-k-init c = let n = c.args.n in let d = c.args.d in record { upto = zero-le; place = many_start n (n - d); room = zero-le; filled = filled_none n d 1 }

pub returns : goal.returns
returns c =
    let l = c.loop-k in
    let n = c.args.n in
    let d = c.args.d in
    let k≡z : l.k ≡ n - d = omega arith in
    let p≡n = many_ends n d (n - d) (omega arith) (omega arith) (omega arith) l.p (rw k≡z at l.invariant.place) in
    filled_whole n d (omega arith) (rw p≡n at l.invariant.filled)

pub bounds-row-p : goal.bounds-row-p
bounds-row-p c = let s = c.args in let l = c.loop-k in omega (arith, on s.n s.d (s.n - s.d) s.c l.row l.p l.k c.requires.n_le_most_stations (omega arith) (omega arith) (omega arith) c.requires.c_value c.loop-k-test.true l.invariant)

pub overflow_add-p : goal.overflow_add-p
overflow_add-p c = let s = c.args in let l = c.loop-k in omega (arith, on s.n s.d (s.n - s.d) s.c l.row l.p l.k c.requires.n_le_most_stations (omega arith) (omega arith) (omega arith) c.requires.c_value c.loop-k-test.true l.invariant)

pub overflow_add-p-in-loop-k : goal.overflow_add-p-in-loop-k
overflow_add-p-in-loop-k c = let s = c.args in let l = c.loop-k in omega (arith, on s.n s.d (s.n - s.d) s.c l.row l.p l.k c.requires.n_le_most_stations (omega arith) (omega arith) (omega arith) c.requires.c_value c.loop-k-test.true l.invariant)

pub loop-k-preserved : goal.loop-k-preserved
loop-k-preserved c = let s = c.args in let l = c.loop-k in (on s.n s.d (s.n - s.d) s.c l.row l.p l.k c.requires.n_le_most_stations (omega arith) (omega arith) (omega arith) c.requires.c_value c.loop-k-test.true l.invariant).next
