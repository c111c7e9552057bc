-- `lyndon_below::rows::count_below` meets its contract.
use mathlib.Core.Path.{ap₂, ◌∙◌, ◌≡◌}
use Prim.Native.Nat.{ℕ, ◌-◌}
use native.Mathlib.Omega.{arith}
use lib.ListN.{length, take}
use mathlib.Core.Bool.{Bool}
use mathlib.Core.List.{List}
use Rattle.lyndon_below.specs.InnerParts.{Part}
use Rattle.counting.specs.InnerBound.{at, highest_up_to}
use Rattle.density.specs.Choose.{choose}
use Rattle.rows_above.specs.InnerTables.{Opening}
use borrow.Author.Rules.{rules}
use Rattle.lyndon_below.proofs.BoundFound.{above_below, counted, counted_none, first_binary, first_size, m_fits, opening, some, ways_found}
use Rattle.lyndon_below.proofs.rows.count_below.Goals as goal

-- ---- the first m symbols, and the bound that is found for them

module _ (w : List ℕ) (m e : ℕ) (s : Part w m e) where
  module _ (allowed : Bool) (row : List ℕ) (q : at (take (length (take m w)) row) ≡ highest_up_to allowed (take m w)) where
    bound : at (take m row) ≡ highest_up_to allowed (take m w)
    bound = rw (first_size w m e s) at q

    begun : (length (take m row) ≡ m) × Opening (take m row)
    begun = opening w m e s allowed (take m row) bound

pub highest_to-requires : goal.highest_to-requires
highest_to-requires c =
    let first = first_size _ _ _ c.requires in
    let most = m_fits _ _ _ c.requires in
    (omega (arith, first, some _ _ _ c.requires), omega (arith, first, most, c.requires.few), first_binary _ _ _ c.requires)

-- ---- no bound

pub returns-in_default : goal.returns-in_default
returns-in_default c =
    counted_none _ _ _ c.requires _ c.in_default.ensures c.power_at_most-allowed.ensures

-- ---- the bound that was found

pub count_above-above-requires : goal.count_above-above-requires
count_above-above-requires c =
    let b = begun _ _ _ c.requires _ _ c.in-Some.ensures in
    (b.1, omega (arith, b.0, c.requires.dense), c.args.tables.now.sized)

-- ---- the rows above it, taken from all

pub unwrap-requires : goal.unwrap-requires
unwrap-requires c =
    let ways = ways_found _ _ _ c.requires _ c.args.tables.now.chosen c.ways_in.ensures in
    rw ways (search rules)

pub overflow_sub-result : goal.overflow_sub-result
overflow_sub-result c =
    let ways = ways_found _ _ _ c.requires _ c.args.tables.now.chosen c.ways_in.ensures in
    let all : c.unwrap.result ≡ choose c.args.m c.args.e = cc in
    let is_at = bound _ _ _ c.requires _ _ c.in-Some.ensures in
    omega (arith, c.count_above-above.ensures.0, above_below _ _ _ c.requires _ _ is_at)

pub returns : goal.returns
returns c =
    let ways = ways_found _ _ _ c.requires _ c.args.tables.now.chosen c.ways_in.ensures in
    let all : c.unwrap.result ≡ choose c.args.m c.args.e = cc in
    let is_at = bound _ _ _ c.requires _ _ c.in-Some.ensures in
    ap₂ (λ (a b : ℕ). a - b) all c.count_above-above.ensures.0
    ∙ counted _ _ _ c.requires _ _ is_at c.power_at_most-allowed.ensures
