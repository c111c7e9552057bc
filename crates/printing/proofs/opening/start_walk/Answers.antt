-- `printing::opening::start_walk` meets its contract.
use mathlib.Core.Path.{ap, ◌∙◌, ◌≡◌}
use lib.ListN.{take}
use Rattle.printing.proofs.Starting.{byte_text, opened_left, refused_left}
use Rattle.printing.specs.Text.{asked_text}
use Rattle.printing.proofs.opening.start_walk.Goals.{After-open-opened}
use Rattle.printing.proofs.opening.start_walk.Goals as goal

-- the kind that was asked, as the byte that holds it
same_text : (c : After-open-opened) → let a = c.args.asked in let limit = take a.size c.args.symbols.now in
    asked_text a.stations a.holes c.kind_byte.result limit ≡ asked_text a.stations a.holes a.kind limit
same_text c =
    let a = c.args.asked in
    let limit = take a.size c.args.symbols.now in
    ap (λ k. asked_text a.stations a.holes k limit) c.kind_byte.ensures ∙ byte_text a.stations a.holes a.kind limit

pub returns-in-Ok : goal.returns-in-Ok
returns-in-Ok c =
    let o = c.open-opened in
    opened_left _ _ _ _ o.result o.ensures.answer o.ensures.walk c.in-Ok.is ∙ same_text (goal.at.returns-in-Ok c).After-open-opened

pub returns-in-Err : goal.returns-in-Err
returns-in-Err c =
    let o = c.open-opened in
    c.start_refusal.ensures ∙ refused_left _ _ _ _ o.result o.ensures.answer o.ensures.walk _ c.in-Err.is ∙ same_text (goal.at.returns-in-Err c).After-open-opened
