-- "Open a walk (n, d, kind, limit)": the fresh walk, or a refusal.
use Rattle.std.specs.Prelude.{List, ◌++◌, ℕ, ◌-◌}
use Rattle.words.specs.Symbols.{zeros}
use Rattle.refusal.specs.Verdicts.{Verdict, accepted, refused}
use Rattle.walk.specs.declared.Standing.TheVariants.{Limit, Ended}
use Rattle.walk.specs.declared.Walk.{Walk}
use Rattle.walk.specs.Moves.{Rules}
-- what is refused: 1, 2, 5, 4, 3
unfoldable pub use Rattle.density.specs.Drawers.{open_verdict}
pub use Rattle.density.specs.Drawers.{NoCondition, NoKind, open_conditions}

-- the walk that an accepted opening hands out: it stands at the limit, and zeros follow it. "Opening sets [the kept row] to the limit."
abbrev pub fresh : Rules → ℕ → ℕ → ℕ → List ℕ → Walk
fresh R n d kind limit = record { n = n; d = d; kind = kind; row = limit ++ zeros (R.most - n); at = Limit; kept = limit ++ zeros (R.most - n) }

-- "A refused opening hands back the Ended walk of (1, 0), kind 1."
abbrev pub refused_walk : Rules → Walk
refused_walk R = record { n = 1; d = 0; kind = 1; row = zeros R.most; at = Ended; kept = zeros R.most }

-- the walk that is handed back
abbrev pub open_walk : Verdict → Rules → ℕ → ℕ → ℕ → List ℕ → Walk
open_walk accepted R n d kind limit = fresh R n d kind limit
open_walk (refused r) R n d kind limit = refused_walk R
