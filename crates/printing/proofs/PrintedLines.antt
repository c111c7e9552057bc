-- A printed drawer has a line for each ring of its book, and two more.
use mathlib.Core.Bool.{Bool, cond, false, true}
use mathlib.Core.List.{List, ◌++◌}
use mathlib.Core.Path.{ap, ◌≡◌}
use Prim.Native.Nat.{ℕ, ◌+◌}
use native.Mathlib.Omega.{arith}
use lib.Dec.{eqb}
use lib.ListN.{length}
use Rattle.density.proofs.RankedRings.{rank_few}
use Rattle.density.specs.Choose.{choose}
use Rattle.density.specs.Lengths.{at_most, drawer_length, exactly}
use Rattle.density.specs.Necklaces.{of_kind}
use Rattle.density.specs.Ranks.{rank}
use Rattle.drawer_lines.proofs.LineFeeds.{end_feeds, header_feeds, ring_feeds}
use Rattle.drawer_lines.specs.Lines.{header, ring_line}
use Rattle.listing.proofs.RingsNamed.{rings_listing}
use Rattle.listing.proofs.Strikes.{Closed, last, line, listing_closed}
use Rattle.listing.specs.Listing.{Listing, listing}
use Rattle.listing.specs.Totals.{rings_of}
use Rattle.printing.specs.Claims.{LinesFor, PrintedLines}
use Rattle.printing.specs.Text.{lines_text, printed}
use Rattle.refusal.specs.Verdicts.{accepted}
use Rattle.text.proofs.LineFeeds.{feeds_append}
use Rattle.text.specs.Parts.{line_feeds}
use Rattle.walk.proofs.Demand.{accepted_opening}
use Rattle.walk.specs.Opening.{open_verdict}
use Rattle.words.specs.Rotation.{period}

-- the lines of a book behind line k
lines_feeds : (k : ℕ) {l : Listing} → Closed l → line_feeds (lines_text k l) ≡ length (rings_of l) + 1
unfolding lines_text rings_of
lines_feeds k (last {p = p}) = end_feeds p
lines_feeds k (line {r = r} {p = p} {l = l} c) =
    omega (arith, feeds_append (ring_line (k + 1) r (period r) p) (lines_text (k + 1) l), ring_feeds (k + 1) r (period r) p, lines_feeds (k + 1) c)

module _ (n d kind : ℕ) (limit : List ℕ) (e : open_verdict n d kind limit ≡ accepted) where
  abbrev opened : List ℕ
  opened = header ++ lines_text 0 (listing n d (of_kind kind) limit)

  opened_feeds : line_feeds opened ≡ rank n d kind limit + 2
  unfolding rank
  opened_feeds =
      let o = accepted_opening n d kind limit e in
      let rings = ap length (rings_listing n d (of_kind kind) limit o.long o.binary) in
      omega (arith, feeds_append header (lines_text 0 (listing n d (of_kind kind) limit)), header_feeds, lines_feeds 0 (listing_closed n d (of_kind kind) limit), rings)

  opened_lines : LinesFor (drawer_length n d kind limit) (line_feeds opened)
  unfolding drawer_length
  opened_lines = go (eqb kind 3)
    where
      go : (t : Bool) → LinesFor (cond t (at_most (choose n d)) (exactly (rank n d kind limit))) (line_feeds opened)
      go true = omega (arith, opened_feeds, rank_few n d kind limit)
      go false = opened_feeds

pub printed_lines : PrintedLines
unfolding printed
printed_lines input a e f = rw (e, f) (opened_lines a.stations a.holes a.kind a.limit f)
