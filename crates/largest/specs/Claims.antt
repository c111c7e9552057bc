-- What document 01 claims of the top ring.
use Rattle.std.specs.Prelude.{true, ◌≡◌, ℕ, ◌%◌, ◌*◌, ◌-◌, ◌/◌, ◌<◌, ◌≤◌}
use Rattle.density.specs.Necklaces.{largest_necklace, necklaces}
use Rattle.largest.specs.Top.{few_row, many_row, top_verdict}
use Rattle.refusal.specs.Conditions.{FirstOf, NoStations, no_more, when}
use Rattle.refusal.specs.declared.Refusal.TheVariants.{Buffer, Holes, Stations}
use Rattle.words.specs.Symbols.{ones, zeros}
use Rattle.words.specs.Falling.{Highest}

-- "Orders. .. Top: 1, 2, 9. .. Each number is returned only under its condition."
abbrev pub TopRefusals : Type 0
TopRefusals = (n d room : ℕ) → FirstOf (when (NoStations n) Stations (when (n < d) Holes (when (room < n) Buffer no_more))) (top_verdict n d room)

-- "top(n, d) the highest ring"
abbrev pub TopHighest : Type 0
TopHighest = (n d : ℕ) → 1 ≤ n → d ≤ n → Highest (λ w. true) (necklaces n d) (largest_necklace n d)

-- "top(n, 0) is n zeros and top(n, n) is n ones."
abbrev pub TopPlain : Type 0
TopPlain = (n : ℕ) → 1 ≤ n → (largest_necklace n 0 ≡ zeros n) × (largest_necklace n n ≡ ones n)

-- "For 0 < d ≤ n/2, t = floor(n/d) and b = top(d, d - (n mod d)), it is the row of gaps t - b1, t - b2 and so on."
abbrev pub TopFew : Type 0
TopFew = (n d : ℕ) → 0 < d → 2 * d ≤ n → largest_necklace n d ≡ few_row (n / d) (largest_necklace d (d - n % d))

-- "For n/2 < d < n, s = floor(n/(n-d)) and c = top(n-d, n mod (n-d)), it is a 0 and then s - 1 + ci ones, for each ci."
abbrev pub TopMany : Type 0
TopMany = (n d : ℕ) → n < 2 * d → d < n → largest_necklace n d ≡ many_row (n / (n - d)) (largest_necklace (n - d) (n % (n - d)))
