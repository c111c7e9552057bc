-- `text::symbols::write_symbols` meets its contract: the symbols are written as far as i.
use mathlib.Core.List.{map}
use mathlib.Core.Path.{sym, ◌∙◌}
use native.Mathlib.Omega.{arith}
use lib.ListN.{length-map, length-set}
use Rattle.std.proofs.lemmas.List.{get_or-map}
use Rattle.text.specs.Symbols.{symbol_of}
use Rattle.words.proofs.Front.{front_turn}
use Rattle.text.proofs.symbols.write_symbols.Goals as goal

pub loop-i-preserved : goal.loop-i-preserved
loop-i-preserved c =
    let l = c.loop-i in
    let a = c.args in
    let n = length-map a.bytes.now symbol_of in
    record {
      inside = omega arith;
      long = length-set l.out l.i c.symbol.result ∙ l.invariant.long;
      front =
          front_turn (map symbol_of a.bytes.now) a.out.now l.out l.i c.symbol.result (omega arith) (omega arith) l.invariant.front
          (c.symbol.ensures ∙ sym (get_or-map symbol_of a.bytes.now l.i 0 0 (omega arith)));
    }
