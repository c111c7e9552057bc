-- What is known of the prefixes of some symbols is known of those of fewer.
use mathlib.Core.List.{List}
use mathlib.Core.Path.{ap, sym, ◌∙◌}
use Prim.Native.Nat.{ℕ, ◌≤◌}
use native.Mathlib.Omega.{arith}
use lib.ListN.{length, take}
use lib.Seq.{length-take-le, take-take}
use Rattle.prefix.specs.InnerCarried.{KnowsPrefixes}
use Rattle.words.specs.InnerScan.{scan}

pub knows_fewer : (a prefixes : List ℕ) (q : ℕ) → q ≤ length a → KnowsPrefixes a prefixes → KnowsPrefixes (take q a) prefixes
knows_fewer a prefixes q h k =
    let size = length-take-le q a h in
    record { each = λ i l m. k.each i l (omega (arith, size)) ∙ ap scan (sym (take-take i q a (omega (arith, size)))); within = k.within }
