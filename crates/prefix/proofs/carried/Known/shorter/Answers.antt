-- `prefix::carried::Known::shorter` meets its contract.
use mathlib.Core.List.{List}
use Prim.Native.Nat.{ℕ, ◌-◌, ◌<◌}
use native.Mathlib.Nat.{pos_of_ne-zero}
use native.Mathlib.Omega.{arith}
use lib.ListN.{get_or, length, take}
use Rattle.density.proofs.Counts.{front-sum}
use Rattle.prefix.specs.InnerCarried.{Knows, KnowsPrefixes}
use Rattle.prefix.specs.declared.carried.Known.{Known}
use Rattle.words.proofs.AllButLast.{front_length}
use Rattle.words.proofs.LeadingZeros.{lead_all, lead_some}
use Rattle.words.specs.InnerScan.{Leading}
use Rattle.prefix.proofs.carried.Known.shorter.Goals as goal

module _ (a prefixes : List ℕ) (k : Known) (h : 0 < length a) (q : KnowsPrefixes a prefixes) (e : Knows a k) where
  known_front : (z : ℕ) → Leading (take (length a - 1) a) z → Knows (take (length a - 1) a) (record { period = get_or prefixes (length a - 1) 0; ones = k.ones - get_or a (length a - 1) 0; zeros = z })
  known_front z l = record {
    scans = λ m. q.each (length a - 1) (omega (arith, front_length a h)) (omega arith);
    within = omega (arith, front_length a h, q.within (length a - 1));
    sums = omega (arith, e.sums, front-sum a h);
    leads = l;
  }

pub overflow_sub-ones : goal.overflow_sub-ones
overflow_sub-ones c =
    let some : 0 < length c.args.a.now = pos_of_ne-zero c.if-a-eq0.false in
    omega (arith, c.requires.2.sums, front-sum c.args.a.now some)

pub returns-then-last-zeros : goal.returns-then-last-zeros
returns-then-last-zeros c =
    let some : 0 < length c.args.a.now = pos_of_ne-zero c.if-a-eq0.false in
    let a = c.args.a.now in
    rw (c.from-period.ensures, c.from.ensures) (known_front a c.args.prefixes.now c.args.self some c.requires.3 c.requires.2 _ (lead_all a c.args.self.zeros (length a - 1) c.requires.2.leads (omega (arith, some)) c.if-last-zeros.true))

pub returns : goal.returns
returns c =
    let some : 0 < length c.args.a.now = pos_of_ne-zero c.if-a-eq0.false in
    let a = c.args.a.now in
    rw (c.from-period.ensures, c.from.ensures) (known_front a c.args.prefixes.now c.args.self some c.requires.3 c.requires.2 _ (lead_some a c.args.self.zeros (length a - 1) c.requires.2.leads (omega (arith, some)) c.if-last-zeros.false))
