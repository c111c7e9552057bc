-- What the parts of a step rely on, and what they promise: that the step goes on from where they have come. Not of document 01.
use Rattle.std.specs.Prelude.{true, List, ◌⊎◌, ◌≡◌, ℕ, suc, zero, ◌*◌, ◌+◌, ◌-◌, ◌<◌, ◌≤◌, drop, length, take, Option, Some, None, Result}
use Rattle.density.proofs.Binary.{Binary}
use Rattle.density.specs.Necklaces.{begins, is_necklace_of}
use Rattle.density.specs.Rows.{is_padded}
use Rattle.prefix.specs.InnerCarried.{Knows, KnowsPrefixes}
use Rattle.prefix.specs.declared.carried.Known.{Known}
use Rattle.words.specs.Symbols.{Within, all_up_to}
use Rattle.refusal.specs.Verdicts.{most_stations}
use Rattle.refusal.specs.declared.Refusal.{Refusal}
use Rattle.walk.specs.Moves.{Rules, moved, row_of, rules}
use Rattle.walk.specs.Step.{enough, run, stepped}
use Rattle.walk.specs.ToCome.{rows_at}
use Rattle.walk.specs.declared.Answer.{Answer}
use Rattle.walk.specs.declared.Reached.{Reached}
use Rattle.walk.specs.declared.Standing.{Standing}
use Rattle.walk.specs.declared.Standing.TheVariants.{Limit, Down, Up, Given, Ended}
use Rattle.walk.specs.declared.Stepped.{Stepped}
use Rattle.walk.specs.declared.Walk.{Walk}

-- ---- records on the way

-- sizes in range, a whole row of zeros and ones, and zeros behind it; the row kept is one too
pub record Sound (R : Rules) (w : Walk) : Type 0 where
  pub some : 1 ≤ w.n
  pub most : w.n ≤ R.most
  pub dense : w.d ≤ w.n
  pub kinds : R.known w.kind ≡ true
  pub long : length w.row ≡ R.most
  pub binary : Binary (row_of w)
  pub clean : all_up_to 0 (drop w.n w.row) ≡ true
  pub keeps : is_padded w.n w.kept ≡ true

-- Down 0 and Up (n + 1) too, and Given with a ring of another kind
abbrev pub GoodAt : Standing → Walk → Type 0
GoodAt Limit w = Unit {0}
GoodAt (Down p) w = p ≤ w.n
GoodAt (Up zero) w = ⊥
GoodAt (Up (suc i)) w = (1 ≤ i) × (i ≤ w.n) × (begins w.n w.d (take i w.row) ≡ true)
GoodAt Given w = is_necklace_of w.d (row_of w) ≡ true
GoodAt Ended w = ⊥

pub record Good (R : Rules) (w : Walk) : Type 0 where
  pub sound : Sound R w
  pub placed : GoodAt w.at w

-- what the record's own tests show, before it is looked at where the walk stands
pub record Fitting (w : Walk) : Type 0 where
  pub some : 1 ≤ w.n
  pub most : w.n ≤ most_stations
  pub dense : w.d ≤ w.n
  pub long : length w.row ≡ most_stations
  pub symbols : Within 2 w.row

-- how many symbols lie before the place where a walk stands, n at most: the lower of n and p - 1 is n - (n - (p - 1))
abbrev pub before : Standing → ℕ → ℕ
before Limit n = n
before (Down p) n = n - (n - (p - 1))
before (Up p) n = n - (n - (p - 1))
before Given n = n
before Ended n = 0

-- a walk that a step takes up, from its record or after a ring of another kind
pub record Ready (w : Walk) : Type 0 where
  pub sound : Sound rules w
  pub placed : (w.at ≡ Ended) ⊎ GoodAt w.at w

-- and what is known of it: of the prefixes of its row, and of the symbols before the place where it stands
pub record Informed (w : Walk) (prefixes : List ℕ) (known : Known) : Type 0 where
  pub ready : Ready w
  pub table : KnowsPrefixes (row_of w) prefixes
  pub knows : Knows (take (before w.at w.n) w.row) known

-- ---- how many moves a walk may still make, at most

-- moves left in the round, at most
abbrev pub moves_at : ℕ → Standing → ℕ
moves_at n Limit = 4 * n + 7
moves_at n (Down p) = p + n + 2
moves_at n (Up zero) = 0
moves_at n (Up (suc i)) = suc n - i
moves_at n Given = 2 * n + 3
moves_at n Ended = 0

unfoldable pub size_at : Standing → ℕ → ℕ → List ℕ → ℕ
size_at s n d row = length (rows_at s n d row) * (2 * n + 4) + moves_at n s

unfoldable pub size : Walk → ℕ
size w = size_at w.at w.n w.d w.row

-- ---- the rest of a step

-- from w, of a step that was allowed a trials and has k of them left
abbrev pub rest : ℕ → ℕ → Walk → Stepped
rest a k w = run rules (enough w.n) k (a - k) w

-- where a part of it has brought w
abbrev pub landed : Walk → Reached → Walk
landed w r = moved w r.row r.at

-- the step goes on from there, or has its answer
abbrev pub resumed : Option (Result Answer Refusal) → ℕ → ℕ → Walk → Stepped
resumed None a k w = rest a k w
resumed (Some x) a k w = stepped w x (a - k)

-- r is on the way of w's step, with that many trials left; where nothing is said, at a ring of another kind, with fewer moves to come
pub record Resumes (w : Walk) (left : ℕ) (r : Reached) : Type 0 where
  pub same : (a : ℕ) → left ≤ a → rest a left w ≡ resumed r.said a r.left (landed w r)
  pub fewer : r.left ≤ left
  pub good : r.said ≡ None → Good rules (landed w r)
  pub given : r.said ≡ None → r.at ≡ Given
  pub smaller : r.said ≡ None → size (landed w r) < size w
