-- `extension::search_from` meets its contract. The invariant: the search from place t is the search from place i, over the first i symbols of x,
-- whose density is `ones`.
use mathlib.Core.List.{[], ◌∷◌}
use mathlib.Core.Path.{sym, ◌∙◌, ◌≡◌}
use Prim.Native.Nat.{◌+◌, ◌-◌, ◌<◌}
use native.Mathlib.Omega.{arith}
use borrow.Author.Tests.{ne_eqb}
use lib.ListN.{get_or, length, length-append, length-set, set, take}
use lib.Seq.{length-take-le}
use Rattle.density.proofs.Counts.{sum-snoc}
use Rattle.extension.proofs.SearchSteps.{broken_end, leaves_up, put, put_over, stays_high, stays_low, whole_end}
use Rattle.words.proofs.Alphabet.{within_set, within_snoc, within_take}
use Rattle.words.proofs.LeadingZeros.{lead_on, lead_one, lead_past, lead_up}
use Rattle.words.specs.InnerScan.{◌▹◌}
use Rattle.extension.proofs.search_from.Goals as goal
use Rattle.extension.proofs.search_from.Goals.{then-c-eq0+else-goes_on+then-z-i, then-c-eq0+else-goes_on+else-z-i, else-c-eq0}

pub goes_on-requires : goal.goes_on-requires
goes_on-requires c =
    let a = take c.loop-i.i c.loop-i.x in
    let g = put c.loop-i.x c.loop-i.i 1 (omega arith) in
    let size : length a ≡ c.loop-i.i = length-take-le c.loop-i.i c.loop-i.x (omega arith) in
    let lead = c.loop-i.invariant.lead in
    rw g (
      omega arith,
      rw sum-snoc (omega arith),
      omega (arith, length-append a (1 ∷ []), lead.within),
      omega (arith, length-append a (1 ∷ [])),
      lead_up a _ lead,
      within_snoc a 1 (within_take c.loop-i.i c.loop-i.x c.loop-i.invariant.within) (omega arith),
    )

pub returns-then-goes_on : goal.returns-then-goes_on
returns-then-goes_on c =
    let args = c.args in
    let fit = sym c.goes_on.ensures ∙ c.if-goes_on.true in
    let up = leaves_up args.n args.d args.p c.loop-i.x c.loop-i.i (omega arith) (omega arith) (omega arith) (omega arith) c.if-c-eq0.true fit in
    sym (c.loop-i.invariant.same ∙ up)

pub loop-i-preserved : goal.loop-i-preserved
loop-i-preserved c =
    let args = c.args in
    let x = c.loop-i.x in
    let i = c.loop-i.i in
    let b = get_or x (i - args.p) 0 in
    let small : b < 2 = c.loop-i.invariant.within (i - args.p) (omega arith) in
    let same : take (i + 1) (set (set x i 1) i b) ≡ take i x ▹ b = put_over x i 1 b (omega arith) in
    let size : length (take i x) ≡ i = length-take-le i x (omega arith) in
    let lead = c.loop-i.invariant.lead in
    record {
      long = simp length-set c.loop-i.invariant.long;
      count = rw (same, sum-snoc) (omega arith);
      few = omega arith;
      within = within_set (set x i 1) i b (within_set x i 1 c.loop-i.invariant.within (omega arith)) small;
      same =
          c.loop-i.invariant.same ∙
          elim c.if-c-eq0.branch [
            | then-c-eq0+else-goes_on+then-z-i w ↦ stays_low args.n args.d args.p x i
                (omega arith) (omega arith) (omega arith) (omega arith) (sym w.goes_on.ensures ∙ w.if-goes_on.false)
            | then-c-eq0+else-goes_on+else-z-i w ↦ stays_low args.n args.d args.p x i
                (omega arith) (omega arith) (omega arith) (omega arith) (sym w.goes_on.ensures ∙ w.if-goes_on.false)
            | else-c-eq0 w ↦ stays_high args.n args.d args.p x i (omega arith) (omega arith) (omega arith) (omega arith) w.if-c-eq0.false
          ];
      lead =
          rw same
          (elim c.if-c-eq0.branch [
            | then-c-eq0+else-goes_on+then-z-i w ↦ lead_on b i c.if-c-eq0.z lead size w.if-c-eq0.true w.if-z-i.true w.z-is
            | then-c-eq0+else-goes_on+else-z-i w ↦ lead_past b i c.if-c-eq0.z lead size w.if-z-i.false w.z-is
            | else-c-eq0 w ↦ lead_one b c.if-c-eq0.z lead (omega (arith, small)) w.if-c-eq0.false w.z-is
          ]);
    }

pub returns-then-n-p-eq0 : goal.returns-then-n-p-eq0
returns-then-n-p-eq0 c =
    let args = c.args in
    let same = c.loop-i.invariant.same in
    rw c.loop-i.invariant.count (sym (same ∙ whole_end args.n args.d args.p _ _ (omega arith) (omega arith) c.if-n-p-eq0.true))

pub returns-else-n-p-eq0 : goal.returns-else-n-p-eq0
returns-else-n-p-eq0 c =
    let args = c.args in
    let same = c.loop-i.invariant.same in
    ne_eqb _ _ c.if-n-p-eq0.false ∙ sym (same ∙ broken_end args.n args.d args.p _ _ (omega arith) (omega arith) c.if-n-p-eq0.false)
