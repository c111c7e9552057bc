-- "Top ring of (n, d)": what the operation refuses and gives, and the two rules of document 01.
use Rattle.std.specs.Prelude.{List, [], map, ◌++◌, ◌∷◌, suc, ℕ, ◌+◌, ◌-◌, leb, replicate}
use Rattle.density.specs.Blocks.{blocks}
use Rattle.refusal.specs.Verdicts.{Verdict, accepted, are_stations, need}
use Rattle.refusal.specs.declared.Refusal.TheVariants.{Buffer, Holes, Stations}

-- "Orders. .. Top: 1, 2, 9.", for a buffer of that many bytes
abbrev pub top_verdict : ℕ → ℕ → ℕ → Verdict
top_verdict n d room = need (are_stations n) Stations (need (leb d n) Holes (need (leb n room) Buffer accepted))

-- "the row of gaps t - b1, t - b2 and so on". A gap is the plain stations before a hole, and a pitch counts the hole
-- too: gap c is pitch c + 1.
abbrev pub few_row : ℕ → List ℕ → List ℕ
few_row t w = blocks (map (λ b. suc (t - b)) w)

-- "a 0 and then s - 1 + ci ones, for each ci"
unfoldable pub many_row : ℕ → List ℕ → List ℕ
many_row s [] = []
many_row s (c ∷ w) = 0 ∷ (replicate (s - 1 + c) 1 ++ many_row s w)
