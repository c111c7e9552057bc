-- What the look-up refuses, on all numbers.
use Rattle.std.specs.Prelude.{ℕ, leb}
use Rattle.refusal.specs.Verdicts.{Verdict, accepted, need}
use Rattle.refusal.specs.declared.Refusal.TheVariants.{Holes, Stations}
use Rattle.pascal.specs.Pascal.{last_row}

-- 1 for a top above 64, then 2 for a bottom above the top; a top of 0 is allowed
unfoldable pub ways_verdict : ℕ → ℕ → Verdict
ways_verdict top bottom =
    need (leb top last_row) Stations
    (need (leb bottom top) Holes accepted)
