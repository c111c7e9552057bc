-- "Prefix question on (n, d, prefix): does some kind 1 ring of the drawer begin so?"
use Rattle.std.specs.Prelude.{List, ℕ, length, eqb, leb}
use Rattle.words.specs.Symbols.{first_wrong}
use Rattle.refusal.specs.declared.Refusal.TheVariants.{Stations, Holes, Symbol, Prefix}
use Rattle.refusal.specs.Verdicts.{Verdict, accepted, need, are_stations}

-- "Orders. .. Prefix: 1, 2, 6, 3."
unfoldable pub question_verdict : ℕ → ℕ → List ℕ → Verdict
question_verdict n d p =
    need (are_stations n) Stations (need (leb d n) Holes (need (leb (length p) n) Prefix (need (eqb (first_wrong 2 p) 0) (Symbol (first_wrong 2 p)) accepted)))
