-- `largest::join_few` meets its contract: before block k the row stands as far as p, with zeros behind.
use mathlib.Core.List.{List}
use mathlib.Core.Path.{◌≡◌}
use Prim.Native.Nat.{suc, zero-le, ℕ, ◌%◌, ◌*◌, ◌+◌, ◌-◌, ◌/◌, ◌<◌, ◌≤◌}
use native.Mathlib.Nat.{div-le_self}
use native.Mathlib.Numerals.{add-one}
use native.Mathlib.Omega.{arith}
use lib.ListN.{get_or, set, take}
use Rattle.largest.proofs.FewBlocks.{few_ends, few_start, few_turn, least_quotient}
use Rattle.largest.proofs.FilledRow.{few_filled, filled_none, filled_whole}
use Rattle.density.specs.InnerBalanced.{balanced}
use Rattle.refusal.specs.Verdicts.{most_stations}
use Rattle.largest.proofs.join_few.Invariants.{Inv}
use Rattle.largest.proofs.join_few.Goals as goal

-- a turn: b is the smaller row's symbol, q the place behind the block
record Turn (n d b : ℕ) (row : List ℕ) (q k : ℕ) : Type 0 where
  small : b ≤ 1
  some : 1 ≤ q
  room : q ≤ n
  next : Inv n d (set row (q - 1) 1) q (k + 1)

on : (n d : ℕ) (w row : List ℕ) (p k : ℕ) → n ≤ most_stations → 0 < d → 2 * d ≤ n → take d w ≡ balanced d (d - n % d) → k < d → Inv n d row p k → Turn n d (get_or w k 0) row (p + n / d + 1 - get_or w k 0) k
on n d w row p k l z h e k< i =
    let t = few_turn n d z h p k w e k< i.place in
    let b = t.1 in
    let g : ℕ = n / d - get_or w k 0 in
    let s = least_quotient n d z h in
    let here : p + n / d + 1 - get_or w k 0 ≡ suc (p + g) = omega arith in
    let last : p + n / d + 1 - get_or w k 0 - 1 ≡ p + g = omega arith in
    record {
      small = t.0;
      some = omega arith;
      room = omega (arith, b.room);
      next = rw (last, here, add-one) record {
        upto = k<;
        place = b.next;
        room = b.room;
        filled = few_filled n d (omega arith) p k g row z h l b i.filled;
      };
    }

pub loop-k-init : goal.loop-k-init
loop-k-init c = record { upto = zero-le; place = few_start c.args.n c.args.d; room = zero-le; filled = filled_none c.args.n c.args.d 0 }

pub overflow_add-p : goal.overflow_add-p
overflow_add-p c = omega (arith, div-le_self c.args.n c.args.d)

pub overflow_add-p-in-loop-k : goal.overflow_add-p-in-loop-k
overflow_add-p-in-loop-k c = omega (arith, div-le_self c.args.n c.args.d)

pub returns : goal.returns
returns c =
    let l = c.loop-k in
    let k≡d : l.k ≡ c.args.d = omega arith in
    let p≡n = few_ends c.args.n c.args.d c.requires.d_nonzero c.requires.d_bound l.p (rw k≡d at l.invariant.place) in
    filled_whole c.args.n c.args.d (omega arith) (rw p≡n at l.invariant.filled)

pub overflow_sub-p : goal.overflow_sub-p
overflow_sub-p c = let s = c.args in let l = c.loop-k in omega (arith, on s.n s.d s.b l.row l.p l.k c.requires.n_le_most_stations c.requires.d_nonzero c.requires.d_bound c.requires.b_value c.loop-k-test.true l.invariant)

pub overflow_sub-row : goal.overflow_sub-row
overflow_sub-row c = let s = c.args in let l = c.loop-k in omega (arith, on s.n s.d s.b l.row l.p l.k c.requires.n_le_most_stations c.requires.d_nonzero c.requires.d_bound c.requires.b_value c.loop-k-test.true l.invariant)

pub bounds-row-p : goal.bounds-row-p
bounds-row-p c = let s = c.args in let l = c.loop-k in omega (arith, on s.n s.d s.b l.row l.p l.k c.requires.n_le_most_stations c.requires.d_nonzero c.requires.d_bound c.requires.b_value c.loop-k-test.true l.invariant)

pub loop-k-preserved : goal.loop-k-preserved
loop-k-preserved c = let s = c.args in let l = c.loop-k in (on s.n s.d s.b l.row l.p l.k c.requires.n_le_most_stations c.requires.d_nonzero c.requires.d_bound c.requires.b_value c.loop-k-test.true l.invariant).next
