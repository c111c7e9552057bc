-- What is claimed of the table and of its look-up.
use Rattle.std.specs.Prelude.{List, ◌++◌, ◌≡◌, suc, ℕ, ◌*◌, ◌+◌, ◌<◌, ◌^◌, ◌≤◌, get_or, length}
use Rattle.density.specs.Choose.{choose}
use Rattle.pascal.specs.Answers.{ways_verdict}
use Rattle.pascal.specs.Pascal.{entry_of, last_row, triangle}
use Rattle.refusal.specs.Conditions.{FirstOf, no_more, when}
use Rattle.refusal.specs.declared.Refusal.TheVariants.{Holes, Stations}

-- "2,145 numbers"
abbrev pub Entries : Type 0
Entries = length (triangle (suc last_row)) ≡ 2145

-- "Its rule (ends are 1, inner entries the sum of the two above) is shown over the whole table", of any number of rows.
abbrev pub TableRule : Type 0
TableRule =
    (m n d : ℕ) → n < m → let entry = entry_of (triangle m) in
    (entry n 0 ≡ 1) × (entry n n ≡ 1) × (suc n < m → d < n → entry (suc n) (suc d) ≡ entry n d + entry n (suc d))

-- Whatever table is looked up, the rows stand one behind the other, row n of n + 1 numbers: before the row of a top
-- stand top * (top + 1) / 2 numbers.
abbrev pub RowsInOrder : Type 0
RowsInOrder =
    (before row behind : List ℕ) (top bottom : ℕ) → length before * 2 ≡ top * (top + 1) → bottom < length row
    → entry_of (before ++ (row ++ behind)) top bottom ≡ get_or row bottom 0

-- So the entry for (n, d) is the ways to choose d of n.
abbrev pub EntryChosen : Type 0
EntryChosen = (m n d : ℕ) → n < m → d ≤ n → entry_of (triangle m) n d ≡ choose n d

-- the ways for up to 64 stations fit 64 bits
abbrev pub Fits : Type 0
Fits = (n d : ℕ) → n ≤ last_row → d ≤ n → choose n d < 2 ^ 64

-- a top above 64 gets refusal 1, a bottom above the top refusal 2
abbrev pub WaysRefusals : Type 0
WaysRefusals = (top bottom : ℕ) → FirstOf (when (last_row < top) Stations (when (top < bottom) Holes no_more)) (ways_verdict top bottom)
