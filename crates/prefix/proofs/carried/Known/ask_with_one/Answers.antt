-- `prefix::carried::Known::ask_with_one` meets its contract.
use mathlib.Core.Bool.{true}
use mathlib.Core.Path.{ap, subst, sym, ◌∙◌, ◌≡◌}
use Prim.Native.Nat.{◌+◌, ◌-◌, ◌<◌, ◌≤◌}
use native.Mathlib.Nat.{pos_of_ne-zero}
use native.Mathlib.Omega.{arith}
use lib.ListN.{get_or, length, take}
use lib.Seq.{get_or-take}
use Rattle.density.proofs.Binary.{Binary, binary_sum, within_binary}
use Rattle.density.proofs.Counts.{front-sum}
use Rattle.density.specs.Necklaces.{begins}
use Rattle.extension.proofs.OneMoreOne.{some_period, up_asked, up_forced}
use Rattle.extension.specs.InnerSearch.{fits}
use Rattle.words.proofs.AllButLast.{by_last, front_length}
use Rattle.words.proofs.Alphabet.{within_take}
use Rattle.words.proofs.LeadingZeros.{lead_up}
use Rattle.words.specs.InnerScan.{Leading, coded, next, scan, ◌▹◌}
use Rattle.words.specs.Symbols.{Within, sum}
use Rattle.prefix.proofs.carried.Known.ask_with_one.Goals as goal

pub returns-then-a-i-ne0 : goal.returns-then-a-i-ne0
unfolding next
returns-then-a-i-ne0 c =
    let front = take (length c.args.a.now - 1) c.args.a.now in
    let some : 0 < length c.args.a.now = omega (arith, c.requires.2) in
    let size : length front ≡ length c.args.a.now - 1 = front_length c.args.a.now some in
    let front_symbols : Within 2 front = within_take (length c.args.a.now - 1) c.args.a.now c.requires.4 in
    let front_binary : Binary front = within_binary front front_symbols in
    let is : front ▹ 1 ≡ c.args.a.now = ap (λ b. front ▹ b) (sym c.requires.5) ∙ by_last c.args.a.now some in
    let scans : coded c.args.self.period ≡ scan front = c.requires.6.scans (omega (arith, size, c.requires.2)) in
    let period : 0 < c.args.self.period = some_period c.args.n c.args.d front c.args.self.period (omega (arith, size, c.requires.2)) c.requires.1 (omega (arith, size, c.requires.3, some)) front_binary scans c.requires.7 in
    let short : c.args.self.period ≤ length c.args.a.now - 1 = omega (arith, size, c.requires.6.within) in
    let next_is : next c.args.self.period front ≡ get_or c.args.a.now (length c.args.a.now - 1 - c.args.self.period) 0 = rw size (get_or-take (length c.args.a.now - 1) c.args.a.now (length c.args.a.now - 1 - c.args.self.period) 0 (omega (arith, period, short, c.requires.2))) in
    let forced : (get_or c.args.a.now (length c.args.a.now - 1 - c.args.self.period) 0 ≡ 0 → ⊥) → begins c.args.n c.args.d c.args.a.now ≡ true = λ h. ap (begins c.args.n c.args.d) (sym is)
    ∙ up_forced c.args.n c.args.d front c.args.self.period (omega (arith, size, c.requires.2)) c.requires.1 (omega (arith, size, c.requires.3, some)) front_binary scans c.requires.7 (rw next_is (pos_of_ne-zero h)) in
    sym (forced c.if-a-i-ne0.true)

pub overflow_add-h : goal.overflow_add-h
overflow_add-h c =
    let front = take (length c.args.a.now - 1) c.args.a.now in
    let some : 0 < length c.args.a.now = omega (arith, c.requires.2) in
    let size : length front ≡ length c.args.a.now - 1 = front_length c.args.a.now some in
    let front_symbols : Within 2 front = within_take (length c.args.a.now - 1) c.args.a.now c.requires.4 in
    let front_binary : Binary front = within_binary front front_symbols in
    let few : sum front ≤ length front = binary_sum front_binary in
    omega (arith, c.requires.6.sums, few, size, c.requires.3, c.requires.0)

pub goes_on-requires : goal.goes_on-requires
goes_on-requires c =
    let front = take (length c.args.a.now - 1) c.args.a.now in
    let some : 0 < length c.args.a.now = omega (arith, c.requires.2) in
    let size : length front ≡ length c.args.a.now - 1 = front_length c.args.a.now some in
    let is : front ▹ 1 ≡ c.args.a.now = ap (λ b. front ▹ b) (sym c.requires.5) ∙ by_last c.args.a.now some in
    let lead = c.requires.6.leads in (
      omega (arith, c.requires.0),
      omega (arith, c.requires.6.sums, c.requires.5, front-sum c.args.a.now some),
      omega (arith, lead.within, size, some),
      omega (arith, c.requires.3, c.requires.0),
      subst (λ w. Leading w c.args.self.zeros) is (lead_up front c.args.self.zeros lead),
      c.requires.4,
    )

pub returns : goal.returns
unfolding next
returns c =
    let front = take (length c.args.a.now - 1) c.args.a.now in
    let some : 0 < length c.args.a.now = omega (arith, c.requires.2) in
    let size : length front ≡ length c.args.a.now - 1 = front_length c.args.a.now some in
    let front_symbols : Within 2 front = within_take (length c.args.a.now - 1) c.args.a.now c.requires.4 in
    let front_binary : Binary front = within_binary front front_symbols in
    let is : front ▹ 1 ≡ c.args.a.now = ap (λ b. front ▹ b) (sym c.requires.5) ∙ by_last c.args.a.now some in
    let scans : coded c.args.self.period ≡ scan front = c.requires.6.scans (omega (arith, size, c.requires.2)) in
    let period : 0 < c.args.self.period = some_period c.args.n c.args.d front c.args.self.period (omega (arith, size, c.requires.2)) c.requires.1 (omega (arith, size, c.requires.3, some)) front_binary scans c.requires.7 in
    let short : c.args.self.period ≤ length c.args.a.now - 1 = omega (arith, size, c.requires.6.within) in
    let next_is : next c.args.self.period front ≡ get_or c.args.a.now (length c.args.a.now - 1 - c.args.self.period) 0 = rw size (get_or-take (length c.args.a.now - 1) c.args.a.now (length c.args.a.now - 1 - c.args.self.period) 0 (omega (arith, period, short, c.requires.2))) in
    let decided : get_or c.args.a.now (length c.args.a.now - 1 - c.args.self.period) 0 ≡ 0 → fits c.args.d (c.args.n - (length c.args.a.now - 1 + 1)) c.args.a.now ≡ begins c.args.n c.args.d c.args.a.now = λ h. subst (λ w. fits c.args.d (c.args.n - (length c.args.a.now - 1 + 1)) w ≡ begins c.args.n c.args.d w) is
    (up_asked c.args.n c.args.d front c.args.self.period (omega (arith, size, c.requires.2)) c.requires.1 (omega (arith, size, c.requires.3, some)) front_binary scans c.requires.7 (next_is ∙ h) _ (omega (arith, size, c.requires.3, some))) in
    c.goes_on.ensures ∙ decided c.if-a-i-ne0.false
