-- `words::first_wrong` meets its contract: the place of the first symbol that is not below k.
use Rattle.std.proofs.Common.{ap, rules, sym, tests, ◌+◌, ◌∙◌}
use Rattle.std.proofs.Math.Dec.{leb}
use Rattle.std.proofs.lemmas.Iterator.{YieldsList-from_slice}
use Rattle.std.proofs.lemmas.Iterator.Search.{position_from_yields_List}
use Rattle.std.specs.Option.{option_map}
use Rattle.words.proofs.FirstPlaces.{first_found}
use Rattle.words.specs.Symbols.{first_wrong}
use Rattle.words.proofs.first_wrong.Goals as goal

pub returns-in_err-i : goal.returns-in_err-i
unfolding first_wrong
returns-in_err-i c =
    let at = position_from_yields_List (λ x. leb c.args.k x) _ _ _ c.position.ensures.ran (YieldsList-from_slice c.args.row.now cc) (λ x b q k. search (rules, tests)) in
    c.from_residual.ensures ∙ ap (option_map (λ i. i + 1)) (sym c.in_err-i.was ∙ at) ∙ first_found _ _

pub returns : goal.returns
unfolding first_wrong
returns c =
    let at = position_from_yields_List (λ x. leb c.args.k x) _ _ _ c.position.ensures.ran (YieldsList-from_slice c.args.row.now cc) (λ x b q k. search (rules, tests)) in
    ap (option_map (λ i. i + 1)) (sym c.in_ok-i.was ∙ at) ∙ first_found _ _
