-- `binder::Binder::fresh` meets its contract.
use mathlib.Core.Path.{refl}
use Rattle.binder.specs.Names.{fresh_binder}
use Rattle.binder.proofs.Binder.fresh.Goals as goal

pub returns : goal.returns
unfolding fresh_binder
returns c = refl
