-- Lists of puts, and the walk that was put last under a name.
use Rattle.std.specs.Prelude.{Bool, cond, false, true, ◌&&◌, List, [], ◌∷◌, ℕ, eqb, leb, Result, Ok, Err}
use Rattle.refusal.specs.Outcomes.{decide}
use Rattle.refusal.specs.Verdicts.{Verdict, accepted}
use Rattle.refusal.specs.declared.Refusal.{Refusal}
use Rattle.refusal.specs.declared.Refusal.TheVariants.{Name, NothingPut}
use Rattle.walk.specs.declared.Walk.{Walk}
use Rattle.binder.specs.Names.{fetch_of, fetch_verdict, highest_name, put_of, put_verdict}
use Rattle.binder.specs.declared.Binder.{Binder}

-- a walk record, to be put under a name
pub record Put : Type 0 where
  pub name : ℕ
  pub walk : Walk

-- the binder after these puts, each on the binder that the last handed back, refused or not
unfoldable pub after_puts : Binder → List Put → Binder
after_puts b [] = b
after_puts b (p ∷ later) = after_puts (put_of b p.name p.walk) later

abbrev pub is_accepted : Verdict → Bool
is_accepted accepted = true
is_accepted (Verdict.refused r) = false

-- the walks put under a name, in order, without those that were refused
unfoldable pub put_under : ℕ → List Put → List Walk
put_under name [] = []
put_under name (p ∷ later) =
    cond (eqb p.name name && is_accepted (put_verdict p.name p.walk)) (p.walk ∷ put_under name later) (put_under name later)

-- the last of some walks, or what there is without any
abbrev pub last_of : Result Walk Refusal → List Walk → Result Walk Refusal
last_of without [] = without
last_of without (w ∷ later) = last_of (Ok w) later

-- what a fetch is to give after these puts on a fresh binder: "the walk of the last put under that name", or its refusal
abbrev pub fetch_due : ℕ → List Put → Result Walk Refusal
fetch_due name puts = cond (leb name highest_name) (last_of (Err NothingPut) (put_under name puts)) (Err Name)

-- what it gives
abbrev pub fetched : Binder → ℕ → Result Walk Refusal
fetched b name = decide (fetch_verdict b name) (fetch_of b name)
