-- "Seat numbers": what the rank of a row and the ring of a rank refuse.
use Rattle.std.specs.Prelude.{Bool, List, ℕ, leb}
use Rattle.density.specs.Drawers.{drawer_needs, row_needs}
use Rattle.density.specs.Ranks.{ring_count}
use Rattle.refusal.specs.Verdicts.{Verdict, accepted, need, one_to}
use Rattle.refusal.specs.declared.Refusal.TheVariants as refusals

-- "Kinds 1 and 2 only, kind 3 gets 5."
unfoldable pub is_counted : ℕ → Bool
is_counted kind = one_to 2 kind

-- "It takes n, d, kind and row, checked as at opening": 1, 2, 5, 4, 3
unfoldable pub rank_verdict : ℕ → ℕ → ℕ → List ℕ → Verdict
rank_verdict n d kind row = drawer_needs n d (is_counted kind) (row_needs n row)

-- "Giving a ring from its seat checks 1, 2, 5, 9"; "13, seat 0 or above the total, after all others". For a buffer of
-- that many bytes.
unfoldable pub unrank_verdict : ℕ → ℕ → ℕ → ℕ → ℕ → Verdict
unrank_verdict n d kind seat room =
    drawer_needs n d (is_counted kind)
    (need (leb n room) refusals.Buffer
    (need (one_to (ring_count n d kind) seat) refusals.Seat accepted))
