-- The claims on lines hold.
use mathlib.Core.Path.{refl}
use lib.ListN.{length}
use borrow.Author.Tests.{le-leb, lt-leb}
use Rattle.drawer_lines.specs.Claims.{WholeOrNothing}
use Rattle.refusal.proofs.Claims.{buffer_filled}
use Rattle.refusal.specs.declared.Refusal.TheVariants.{Buffer}

pub whole_or_nothing : WholeOrNothing
whole_or_nothing text out = (
  λ h. let b = buffer_filled text out Buffer h in rw (le-leb (length text) (length out) h) (refl, b.0, b.1),
  λ h. rw (lt-leb (length text) (length out) h) (refl, refl),
)
