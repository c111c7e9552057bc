-- What inner functions are given. Not of document 01.
use Rattle.std.specs.Prelude.{true, ◌≡◌, ℕ, ◌<◌, ◌≤◌}
use Rattle.density.specs.Ranks.{ring_count}
use Rattle.pascal.specs.Pascal.{last_row}
use Rattle.ranking.specs.Answers.{is_counted}

-- a drawer and a kind that are counted
pub record Counted (n d kind : ℕ) : Type 0 where
  pub some : 0 < n
  pub few : n ≤ last_row
  pub dense : d ≤ n
  pub counted : is_counted kind ≡ true

-- a drawer and a kind that are counted, and a seat of one of its rings
pub record Seats (n d kind seat : ℕ) : Type 0 where
  pub some : 0 < n
  pub few : n ≤ last_row
  pub dense : d ≤ n
  pub counted : is_counted kind ≡ true
  pub low : 0 < seat
  pub high : seat ≤ ring_count n d kind
