-- `drawer_program::start_read` meets its contract.
use mathlib.Core.Path.{ap, ◌∙◌}
use lib.ListN.{length}
use Rattle.printing.proofs.Reading.{read_enough}
use Rattle.printing.specs.Text.{printed}
use Rattle.drawer_program.proofs.start_read.Goals as goal

pub returns : goal.returns
returns c =
    λ input e. c.start.ensures ∙ ap printed e ∙ read_enough (length c.args.room.now) input c.requires.0
