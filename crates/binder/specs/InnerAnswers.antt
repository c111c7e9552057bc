-- What a refused put and a refused fetch hand back. Not of document 01.
use Rattle.std.specs.Prelude.{Err}
use Rattle.refusal.specs.declared.Refusal.{Refusal}
use Rattle.walk.specs.Moves.{rules}
use Rattle.walk.specs.Opening.{refused_walk}
use Rattle.binder.specs.declared.Binder.{Binder}
use Rattle.binder.specs.declared.Fetched.{Fetched}
use Rattle.binder.specs.declared.Filed.{Filed}

abbrev pub refused_put : Binder → Refusal → Filed
refused_put b r = record { binder = b; answer = Err r }

abbrev pub refused_fetch : Refusal → Fetched
refused_fetch r = record { walk = refused_walk rules; answer = Err r }
