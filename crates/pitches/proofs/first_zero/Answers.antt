-- `pitches::first_zero` meets its contract: the place of the first pitch of 0.
use Rattle.std.proofs.Common.{ap, rules, tests, ◌+◌, ◌∙◌, ◌≡◌}
use Rattle.std.proofs.Math.Dec.{eqb}
use Rattle.std.proofs.lemmas.Iterator.{YieldsList-from_slice}
use Rattle.std.proofs.lemmas.Iterator.Search.{position_from_yields_List}
use Rattle.std.specs.Option.{option_map}
use Rattle.words.proofs.FirstPlaces.{first_found}
use Rattle.pitches.specs.Pitches.{first_zero}
use Rattle.pitches.proofs.first_zero.Goals as goal

pub returns : goal.returns
unfolding first_zero
returns c =
    let at = position_from_yields_List (λ p. eqb p 0) _ _ _ c.position.ensures.ran (YieldsList-from_slice c.args.pitches.now cc) (λ x b q k. search (rules, tests)) in
    let next : c.map.result ≡ option_map (λ k. k + 1) c.position.result = search rules in
    next ∙ ap (option_map (λ k. k + 1)) at ∙ first_found _ _
