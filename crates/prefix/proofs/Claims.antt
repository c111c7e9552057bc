-- The claims on the prefix question hold.
use mathlib.Core.List.{List, ◌++◌}
use mathlib.Core.Path.{◌≡◌}
use Prim.Native.Nat.{ℕ, ◌+◌, ◌≤◌}
use native.Mathlib.Omega.{arith}
use lib.ListN.{length, length-append}
use Rattle.density.proofs.Begun.{begins_empty}
use Rattle.density.proofs.Binary.{binary_behind, binary_sum, density-sum}
use Rattle.density.proofs.Counts.{density-append}
use Rattle.density.proofs.Members.{Begun, begins→, member→, →begins, →member}
use Rattle.density.specs.Density.{density}
use Rattle.prefix.specs.Claims.{Begins, EmptyPrefix, QuestionRefusals, TooFewHoles, TooManyHoles}
use Rattle.prefix.specs.Question.{question_verdict}
use Rattle.refusal.proofs.Conditions.{at_most_tells, chain_first, passed, stations_tell, test}
use Rattle.words.proofs.Booleans.{never}
use Rattle.words.proofs.Claims.{other_tells}

pub question_refusals : QuestionRefusals
unfolding question_verdict
question_refusals n d p =
    chain_first
    (test _ (stations_tell n) (λ a. test _ (at_most_tells d n) (λ b. test _ (at_most_tells (length p) n) (λ c. test _ (other_tells 2 p) (λ e. passed)))))

pub begins_so : Begins
begins_so n d p = (
  λ e. let b = begins→ n d p e in (b.rest, →member b.member),
  λ s. →begins (record { rest = s.0; member = member→ n d (p ++ s.0) s.1 }),
)

pub empty_prefix : EmptyPrefix
empty_prefix n d s h = begins_empty n d s h

-- what follows the prefix has no more holes than symbols
holes_behind : (n d : ℕ) (p : List ℕ) (b : Begun n d p) → (density p + density b.rest ≡ d) × (density b.rest ≤ length b.rest) × (length p + length b.rest ≡ n)
holes_behind n d p b =
    let m = b.member in
    let r = binary_behind p m.binary in
    (omega (arith, density-append p b.rest, m.count), omega (arith, density-sum r, binary_sum r), omega (arith, length-append p b.rest, m.long))

pub too_many_holes : TooManyHoles
too_many_holes n d p h = never _ (λ e. omega (arith, holes_behind n d p (begins→ n d p e)))

pub too_few_holes : TooFewHoles
too_few_holes n d p h = never _ (λ e. omega (arith, holes_behind n d p (begins→ n d p e)))
