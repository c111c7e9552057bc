-- The length of a drawer, from a limit: how many rings a walk that is opened there has to give.
use Rattle.std.specs.Prelude.{cond, List, ℕ, eqb}
use Rattle.density.specs.Choose.{choose}
use Rattle.density.specs.Ranks.{rank}

-- exactly so many, or no more than that
pub data HowMany : Type 0 where
  exactly : ℕ → HowMany
  at_most : ℕ → HowMany

-- "For kinds 1 and 2 and a given limit, the length must .. be exactly the number of rings that the walk opened there yields": those of the
-- drawer and kind at or below the limit. "Kind 3 keeps the ceiling": the ways to choose d stations of n.
unfoldable pub drawer_length : ℕ → ℕ → ℕ → List ℕ → HowMany
drawer_length n d kind limit = cond (eqb kind 3) (at_most (choose n d)) (exactly (rank n d kind limit))
