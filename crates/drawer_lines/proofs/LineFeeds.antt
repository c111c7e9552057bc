-- Each line has one line feed.
use mathlib.Core.List.{List}
use mathlib.Core.Path.{refl, ◌≡◌}
use Prim.Native.Nat.{ℕ}
use Rattle.drawer_lines.specs.Lines.{end_line, header, ring_line}
use Rattle.text.proofs.LineFeeds.{feeds_append, field_feeds, row_feeds}
use Rattle.text.specs.Parts.{line_feeds}

pub header_feeds : line_feeds header ≡ 1
unfolding line_feeds
header_feeds = refl

pub ring_feeds : (number : ℕ) (row : List ℕ) (period trials : ℕ) → line_feeds (ring_line number row period trials) ≡ 1
unfolding ring_line line_feeds
ring_feeds number row period trials = simp (feeds_append, field_feeds, row_feeds)

pub end_feeds : (trials : ℕ) → line_feeds (end_line trials) ≡ 1
unfolding end_line line_feeds
end_feeds trials = simp (feeds_append, field_feeds)
