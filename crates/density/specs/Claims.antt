-- What document 01 claims of the drawers.
use Rattle.std.specs.Prelude.{true, ◌↔◌, ◌≡◌, suc, ℕ, ◌+◌, ◌<◌, ◌≤◌, length}
use mathlib.Core.List.{List, Memᴰ, [], ◌++◌, ◌∷◌}
use Rattle.density.specs.Choose.{choose, rows_of}
use Rattle.density.specs.Density.{density}
use Rattle.density.specs.Lengths.{at_most, drawer_length, exactly}
use Rattle.density.specs.Necklaces.{necklaces, necklaces_of_kind}
use Rattle.density.specs.Ranks.{necklace_at, rank, ring_count}
use Rattle.words.specs.Symbols.{Within}
use Rattle.words.specs.Falling.{Falling}
use Rattle.words.specs.Order.{lt}
use Rattle.words.specs.Reversal.{SameRing, turned_key}
use Rattle.words.specs.Rotation.{is_lyndon, is_necklace}

-- ---- holes

-- The holes of a row are those of its parts together; the symbol 1 is a hole, and no other is.
abbrev pub HolesCounted : Type 0
HolesCounted =
    (u v : List ℕ) (x : ℕ)
    → (density (u ++ v) ≡ density u + density v) × (density (1 ∷ []) ≡ 1) × ((x ≡ 1 → ⊥) → density (x ∷ []) ≡ 0)

-- ---- the ways to choose stations

-- "Ends are 1, inner entries the sum of the two above"; past the end there is no way.
abbrev pub Rule : Type 0
Rule = (n d : ℕ) → (choose n 0 ≡ 1) × (choose n n ≡ 1) × (choose (suc n) (suc d) ≡ choose n d + choose n (suc d)) × (n < d → choose n d ≡ 0)

-- a row of n symbols with d holes
pub record OfDensity (n d : ℕ) (w : List ℕ) : Type 0 where
  pub long : length w ≡ n
  pub symbols : Within 2 w
  pub holes : density w ≡ d

-- The rows of n symbols with d holes, each once, are as many as there are ways to choose d stations of n.
abbrev pub Chosen : Type 0
Chosen = (n d : ℕ) → Falling (rows_of n d) × ((w : List ℕ) → Memᴰ w (rows_of n d) ↔ OfDensity n d w) × (length (rows_of n d) ≡ choose n d)

-- ---- drawers

-- a shelved row of n symbols with d holes
pub record InDrawer (n d : ℕ) (w : List ℕ) : Type 0 where
  pub row : OfDensity n d w
  pub shelved : is_necklace w ≡ true

-- "Drawer (n, d): the shelved rows of n symbols with d holes"; each stands there once, falling
abbrev pub Drawer : Type 0
Drawer = (n d : ℕ) → Falling (necklaces n d) × ((w : List ℕ) → Memᴰ w (necklaces n d) ↔ InDrawer n d w)

-- "Kind 1 is all of them, kind 2 those without symmetry", kind 3 "the shelved rows that are their own turned-over key".
abbrev pub Kinds : Type 0
Kinds =
    (n d : ℕ) (w : List ℕ)
    → (Memᴰ w (necklaces_of_kind 1 n d) ↔ InDrawer n d w)
    × (Memᴰ w (necklaces_of_kind 2 n d) ↔ (InDrawer n d w × (is_lyndon w ≡ true)))
    × (Memᴰ w (necklaces_of_kind 3 n d) ↔ (InDrawer n d w × (turned_key w ≡ w)))

-- every row has its turned-over key among the rings of kind 3 of its drawer, and no other of them is a turn of it or of its reverse
abbrev pub TurnedInDrawer : Type 0
TurnedInDrawer =
    (n d : ℕ) (w : List ℕ) → 0 < n → OfDensity n d w
    → Memᴰ (turned_key w) (necklaces_of_kind 3 n d) × ((v : List ℕ) → Memᴰ v (necklaces_of_kind 3 n d) → SameRing w v → v ≡ turned_key w)

-- ---- seat numbers

-- "The total": n ones have as many rings at or below them as there are.
abbrev pub AllRanked : Type 0
AllRanked = (n d kind : ℕ) → ring_count n d kind ≡ length (necklaces_of_kind kind n d)

-- "A ring fetched by its seat has that seat", for every seat from 1 to the total; it is a ring of the drawer and kind.
abbrev pub SeatOfRing : Type 0
SeatOfRing =
    (n d kind seat : ℕ) → 1 ≤ seat → seat ≤ ring_count n d kind
    → Memᴰ (necklace_at n d kind seat) (necklaces_of_kind kind n d) × (rank n d kind (necklace_at n d kind seat) ≡ seat)

-- The ring at the seat of a ring is that ring, and its seat is one of those.
abbrev pub RingAtSeat : Type 0
RingAtSeat =
    (n d kind : ℕ) (w : List ℕ) → Memᴰ w (necklaces_of_kind kind n d) → let seat = rank n d kind w in
    (1 ≤ seat) × (seat ≤ ring_count n d kind) × (necklace_at n d kind seat ≡ w)

-- "1 being the lowest": the higher a row, the higher its seat or the same, and of two rings the higher has the higher seat
abbrev pub SeatsRise : Type 0
SeatsRise =
    (n d kind : ℕ) (v w : List ℕ) → lt v w ≡ true
    → (rank n d kind v ≤ rank n d kind w) × (Memᴰ w (necklaces_of_kind kind n d) → rank n d kind v < rank n d kind w)

-- ---- lengths

-- "For kinds 1 and 2 .. exactly": the seat of the limit. "Kind 3 keeps the ceiling": the ways to choose d stations of n.
abbrev pub LengthByKind : Type 0
LengthByKind =
    (n d : ℕ) (limit : List ℕ)
    → (drawer_length n d 1 limit ≡ exactly (rank n d 1 limit))
    × (drawer_length n d 2 limit ≡ exactly (rank n d 2 limit))
    × (drawer_length n d 3 limit ≡ at_most (choose n d))
