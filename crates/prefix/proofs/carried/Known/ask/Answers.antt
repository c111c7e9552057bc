-- `prefix::carried::Known::ask` meets its contract.
use mathlib.Core.Path.{ap, sym, ◌∙◌, ◌≡◌}
use Prim.Native.Nat.{◌-◌, ◌<◌, ◌≤◌}
use native.Mathlib.Nat.{pos_of_ne-zero}
use native.Mathlib.Omega.{arith}
use lib.ListN.{length, take}
use lib.Seq.{length-take-le}
use borrow.Author.Rules.{rules}
use Rattle.density.proofs.Begun.{begins_empty}
use Rattle.density.proofs.Binary.{binary_sum, within_binary}
use Rattle.density.specs.Necklaces.{begins}
use Rattle.extension.proofs.SearchSteps.{extends-none, extends-period}
use Rattle.extension.proofs.Search.{extends-begins}
use Rattle.refusal.specs.Verdicts.{most_stations}
use Rattle.extension.specs.InnerSearch.{extends, continues}
use Rattle.words.proofs.Alphabet.{within_take}
use Rattle.words.specs.Symbols.{Within, sum}
use Rattle.prefix.proofs.carried.Known.ask.Goals as goal
use Rattle.prefix.proofs.carried.Known.ask.Goals.{then-p-eq0-via-then-p-eq0, then-p-eq0-via-else-p-eq0+then-ruled_out}

pub returns-then-t-eq0 : goal.returns-then-t-eq0
returns-then-t-eq0 c =
    let a = c.args in
    sym (ap (λ t. begins a.n a.d (take t a.row)) c.if-t-eq0.true ∙ begins_empty a.n a.d c.requires.0 c.requires.2)

pub ruled_out-requires : goal.ruled_out-requires
ruled_out-requires c =
    let begun = take c.args.t c.args.row in
    let begun_length : length begun ≡ c.args.t = let l : length c.args.row ≡ most_stations = search rules in length-take-le c.args.t c.args.row (omega arith) in
    let begun_symbols : Within 2 begun = within_take c.args.t c.args.row c.requires.4 in
    (c.requires.1, c.requires.2, omega (arith, begun_length, c.requires.3), c.requires.5.sums, c.requires.5.leads, begun_symbols)

pub returns-then-p-eq0 : goal.returns-then-p-eq0
returns-then-p-eq0 c =
    let begun = take c.args.t c.args.row in
    let begun_length : length begun ≡ c.args.t = let l : length c.args.row ≡ most_stations = search rules in length-take-le c.args.t c.args.row (omega arith) in
    let begun_symbols : Within 2 begun = within_take c.args.t c.args.row c.requires.4 in
    let asked : begins c.args.n c.args.d begun ≡ extends c.args.n c.args.d begun = sym (extends-begins c.args.n c.args.d begun c.requires.0 c.requires.2 (omega (arith, begun_length, c.requires.3)) (within_binary begun begun_symbols)) in
    let some : 0 < length begun = omega (arith, begun_length, pos_of_ne-zero c.if-t-eq0.false) in
    elim c.then-p-eq0.branch [
      | then-p-eq0-via-then-p-eq0 w ↦ sym (asked ∙ extends-none c.args.n c.args.d begun some (rw w.if-p-eq0.true at (c.requires.5.scans some)))
      | then-p-eq0-via-else-p-eq0+then-ruled_out w ↦ sym (w.ruled_out.ensures w.if-ruled_out.true)
    ]

pub search_from-requires : goal.search_from-requires
search_from-requires c =
    let begun = take c.args.t c.args.row in
    let begun_length : length begun ≡ c.args.t = let l : length c.args.row ≡ most_stations = search rules in length-take-le c.args.t c.args.row (omega arith) in
    let begun_symbols : Within 2 begun = within_take c.args.t c.args.row c.requires.4 in
    let v = c.requires.5 in
    let size = begun_length in
    let few : sum begun ≤ length begun = binary_sum (within_binary begun begun_symbols) in
    (pos_of_ne-zero c.if-p-eq0.false, omega (arith, v.within, size), c.requires.3, c.requires.1, v.sums, omega (arith, v.sums, few, size), c.requires.4, v.leads)

pub returns : goal.returns
returns c =
    let begun = take c.args.t c.args.row in
    let begun_length : length begun ≡ c.args.t = let l : length c.args.row ≡ most_stations = search rules in length-take-le c.args.t c.args.row (omega arith) in
    let begun_symbols : Within 2 begun = within_take c.args.t c.args.row c.requires.4 in
    let asked : begins c.args.n c.args.d begun ≡ extends c.args.n c.args.d begun = sym (extends-begins c.args.n c.args.d begun c.requires.0 c.requires.2 (omega (arith, begun_length, c.requires.3)) (within_binary begun begun_symbols)) in
    let a = c.args in
    let some : 0 < length begun = omega (arith, begun_length, pos_of_ne-zero c.if-t-eq0.false) in
    c.search_from.ensures
    ∙ sym
    (asked ∙ extends-period a.n a.d a.self.period begun some (pos_of_ne-zero c.if-p-eq0.false) (c.requires.5.scans some)
    ∙ ap (λ k. continues a.d a.self.period (a.n - k) begun) begun_length)
