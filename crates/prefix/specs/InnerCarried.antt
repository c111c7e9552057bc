-- What is known of symbols, and carried from question to question. Not of document 01: what the inner functions rely on.
use Rattle.std.specs.Prelude.{List, ◌≡◌, ℕ, ◌≤◌, ◌<◌, length, get_or, take}
use Rattle.words.specs.InnerScan.{Leading, coded, scan}
use Rattle.words.specs.Symbols.{sum}
use Rattle.prefix.specs.declared.carried.Known.{Known}

-- k is what is known of the symbols a: their period (0: they begin no necklace; nothing is said of no symbols), their ones, and the zeros
-- that they begin with
pub record Knows (a : List ℕ) (k : Known) : Type 0 where
  pub scans : 0 < length a → coded k.period ≡ scan a
  pub within : k.period ≤ length a
  pub sums : k.ones ≡ sum a
  pub leads : Leading a k.zeros

-- these are known of the prefixes of a: entry i is the period of the first i symbols, for each i before the end
pub record KnowsPrefixes (a prefixes : List ℕ) : Type 0 where
  pub each : (i : ℕ) → 0 < i → i < length a → coded (get_or prefixes i 0) ≡ scan (take i a)
  pub within : (i : ℕ) → get_or prefixes i 0 ≤ i
