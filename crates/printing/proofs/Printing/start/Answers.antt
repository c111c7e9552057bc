-- `printing::Printing::start` meets its contract.
use mathlib.Core.Path.{refl, sym, ◌∙◌}
use Rattle.printing.proofs.Reading.{drawer_asked, refused_asked}
use Rattle.printing.proofs.Printing.start.Goals as goal

pub returns-in-Ok : goal.returns-in-Ok
returns-in-Ok c =
    let r = c.read_drawer in
    drawer_asked _ c.in-Ok.request _ _ _ c.start_walk.ensures r.ensures.buffer refl (sym c.in-Ok.is ∙ r.ensures.answer)

pub returns-in-Err : goal.returns-in-Err
returns-in-Err c =
    let r = c.read_drawer in
    c.start_refusal.ensures ∙ refused_asked _ _ (sym c.in-Err.is ∙ r.ensures.answer)
