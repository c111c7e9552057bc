-- The starred specimens of document 01, with the places of M-100, the pitches of M-110, the pairs of M-130, a row of
-- M-140 that is turned over, a bookmark of M-150, seats of M-160, lengths of M-170, fits of M-180 and offers of M-190,
-- and walks trial by trial; what each says of the definitions.
use Rattle.std.specs.Prelude.{◌≡◌, Bool, true, false, List, [], ◌∷◌, ◌++◌, map, ℕ, ◌-◌, ℤ, neg_ℤ, pos}
use Prim.Native.String.{String}
use Rattle.words.specs.Difference.{first_difference}
use Rattle.words.specs.Order.{cmp, order_of}
use Rattle.words.specs.Pairs.{pairs}
use Rattle.words.specs.Reversal.{turned_key}
use Rattle.words.specs.Rotation.{least_rotation, least_index, period}
use Rattle.words.specs.Symbols.{ones, zeros}
use Rattle.std.specs.declared.cmp.Ordering.{Ordering}
use Rattle.std.specs.declared.cmp.Ordering.TheVariants.{Greater, Less}
use Rattle.density.specs.Lengths.{HowMany, at_most, drawer_length, exactly}
use Rattle.density.specs.Necklaces.{begins, largest_necklace}
use Rattle.density.specs.Ranks.{necklace_at, rank}
use Rattle.coated.specs.Fitting.{Way, both, different, fit_of, over, turning}
use Rattle.listing.specs.Listing.{Line, ring, none, refused, says, told}
use Rattle.listing.specs.Places.{Placed, placed}
use Rattle.mixed_calls.specs.Calls.{Call, at_first, call_answers, fetches, looks, opens, puts, steps, takes}
use Rattle.offers.specs.declared.Offer.{Offer}
use Rattle.walk.specs.declared.Answer.{Answer}
use Rattle.walk.specs.declared.Answer.TheVariants.{None, Ring}
use Rattle.pitches.specs.Pitches.{pitches_of_row}
use Rattle.walk.specs.Moves.{rules}
use Rattle.walk.specs.Opening.{open_verdict, open_walk}
use Rattle.walk.specs.Step.{step_of, walk_placed}
use Rattle.walk.specs.declared.Standing.{Standing}
use Rattle.walk.specs.declared.Standing.TheVariants.{Down, Ended, Given, Up}
use Rattle.walk.specs.declared.Walk.{Walk}
use Rattle.refusal.specs.Verdicts.{most_stations}
use Rattle.text.specs.Ascii.{ascii}
use Rattle.text.specs.Symbols.{symbol_of}

-- a row as it is written
abbrev pub row : String → List ℕ
row s = map symbol_of (ascii s)

-- where a walk stands: its row, the standing and the row kept
pub record Stand : Type 0 where
  pub row : List ℕ
  pub at : Standing
  pub kept : List ℕ

abbrev pub stand : List ℕ → Standing → List ℕ → Stand
stand r s k = record { row = r; at = s; kept = k }

pub data Specimen : Type 0 where
  -- key of a row: the key, its turn and the period
  key : List ℕ → List ℕ → ℕ → ℕ → Specimen
  -- drawer (n, d): a prefix, yes or no
  prefix : ℕ → ℕ → List ℕ → Bool → Specimen
  -- top(n, d) is a row
  top : ℕ → ℕ → List ℕ → Specimen
  -- pitches of a row
  pitches : List ℕ → List ℕ → Specimen
  -- two rows: their order, the place where they first differ, and the pairs compared
  compared : List ℕ → List ℕ → Ordering → ℕ → ℕ → Specimen
  -- turned-over key of a row
  turned : List ℕ → List ℕ → Specimen
  -- two rows: how the first fits the second, and the signed turn
  fits : List ℕ → List ℕ → Way → ℤ → Specimen
  -- drawer (n, d), kind: the seat of a row
  seat : ℕ → ℕ → ℕ → List ℕ → ℕ → Specimen
  -- drawer (n, d), kind: the ring at a seat
  ring_at : ℕ → ℕ → ℕ → ℕ → List ℕ → Specimen
  -- drawer (n, d), kind, limit: the length
  rings : ℕ → ℕ → ℕ → List ℕ → HowMany → Specimen
  -- drawer (n, d), kind, limit: the first answer of the walk that opening hands out, its place and its trials
  step : ℕ → ℕ → ℕ → List ℕ → Line → ℕ → ℕ → Specimen
  -- drawer (n, d), kind, limit: where the walk stands after each of some steps
  course : ℕ → ℕ → ℕ → List ℕ → List ℕ → List Stand → Specimen
  -- openings, steps, puts, fetches, looks and takes: the answers of the steps and of the takes that are accepted
  calls : List Call → List Placed → Specimen

-- the record of (n, d) and a kind that stands so: behind both rows are zeros
abbrev pub standing : ℕ → ℕ → ℕ → Stand → Walk
standing n d kind s =
    let behind = zeros (most_stations - n) in
    record { n = n; d = d; kind = kind; row = s.row ++ behind; at = s.at; kept = s.kept ++ behind }

-- an offer of (n, d) and a kind: a ring or none, the allowance, and where the walk would stand
abbrev pub offer : ℕ → ℕ → ℕ → Answer → ℕ → Stand → Offer
offer n d kind x a s = record { offered = x; allowance = a; walk = standing n d kind s }

-- the records that some steps hand back
unfoldable pub records : Walk → List ℕ → List Walk
records w [] = []
records w (a ∷ more) = let next = (step_of rules w a).walk in next ∷ records next more

-- what a specimen says
abbrev pub Says : Specimen → Type 0
Says (key w least turn p) = (least_rotation w ≡ least) × (least_index w ≡ turn) × (period w ≡ p)
Says (prefix n d p answer) = begins n d p ≡ answer
Says (top n d w) = largest_necklace n d ≡ w
Says (pitches w list) = pitches_of_row w ≡ list
Says (compared a b order place number) = (order_of (cmp a b) ≡ order) × (first_difference a b ≡ place) × (pairs a b ≡ number)
Says (turned w k) = turned_key w ≡ k
Says (fits a b way turn) = fit_of a b ≡ record { way = way; turn = turn }
Says (seat n d kind w number) = rank n d kind w ≡ number
Says (ring_at n d kind number w) = necklace_at n d kind number ≡ w
Says (rings n d kind limit number) = drawer_length n d kind limit ≡ number
Says (step n d kind limit line place trials) =
    walk_placed rules (open_walk (open_verdict n d kind limit) rules n d kind limit) (100 ∷ []) ≡ placed (told (says line) trials) place ∷ []
Says (course n d kind limit allowances stands) =
    records (open_walk (open_verdict n d kind limit) rules n d kind limit) allowances ≡ map (standing n d kind) stands
Says (calls cs answers) = call_answers at_first cs ≡ answers

-- what all of a list say
abbrev pub Say : List Specimen → Type 0
Say [] = Unit
Say (s ∷ rest) = Says s × Say rest

unfoldable pub starred : List Specimen
starred =
    key (row "011000") (row "000011") 3 6
    ∷ key (row "101010") (row "010101") 1 2
    ∷ prefix 8 3 (row "0010") true
    ∷ prefix 8 3 (row "010") false
    ∷ prefix 4 3 (row "0") true
    ∷ top 8 3 (row "00100101")
    ∷ top 8 5 (row "01011011")
    ∷ compared (row "01") (row "010") Less 3 2
    ∷ compared (zeros 19) (zeros 9 ++ ones 10) Less 10 2
    ∷ compared (zeros 19) (zeros 18) Greater 19 4
    ∷ turned (row "001101") (row "001011")
    ∷ fits (row "001011") (row "101100") turning (pos 2)
    ∷ fits (row "101100") (row "001011") turning (neg_ℤ (pos 2))
    ∷ fits (row "001011") (row "011001") turning (pos 3)
    ∷ fits (row "001011") (row "001101") over (neg_ℤ (pos 2))
    ∷ fits (row "010101") (row "101010") both (pos 1)
    ∷ fits (row "00101") (row "01001") both (neg_ℤ (pos 2))
    ∷ fits (row "001011") (row "000111") different (pos 0)
    ∷ seat 6 3 1 (row "001110") 3
    ∷ seat 6 3 1 (ones 6) 4
    ∷ seat 6 3 2 (ones 6) 3
    ∷ ring_at 6 3 1 3 (row "001101")
    ∷ rings 6 3 1 (ones 6) (exactly 4)
    ∷ rings 6 3 1 (row "001101") (exactly 3)
    ∷ rings 6 3 2 (ones 6) (exactly 3)
    ∷ rings 6 3 3 (ones 6) (at_most 20)
    ∷ step 8 3 1 (row "00011000") (ring (row "00010101")) 5 4
    ∷ step 8 3 1 (row "00100100") (ring (row "00011001")) 3 7
    ∷ step 8 3 1 (row "00000110") none 0 2
    ∷ step 4 2 2 (row "0101") (ring (row "0011")) 2 3
    ∷ step 2 0 2 (row "11") none 0 3
    ∷ step 1 0 2 (row "0") (ring (row "0")) 0 0
    ∷ step 6 3 3 (row "001101") (ring (row "001011")) 4 3
    ∷ course 8 3 1 (row "00100100") (0 ∷ 1 ∷ 1 ∷ 1 ∷ 1 ∷ 1 ∷ 1 ∷ 1 ∷ 0 ∷ [])
    (stand (row "00100100") (Down 6) (row "00100100")
    ∷ stand (row "00100100") (Down 3) (row "00100100")
    ∷ stand (row "00000100") (Up 4) (row "00100100")
    ∷ stand (row "00010100") (Up 5) (row "00100100")
    ∷ stand (row "00011100") (Up 6) (row "00100100")
    ∷ stand (row "00011000") (Up 7) (row "00100100")
    ∷ stand (row "00011000") (Up 8) (row "00100100")
    ∷ stand (row "00011001") Given (row "00011001")
    ∷ stand (row "00011000") (Down 5) (row "00011001")
    ∷ [])
    ∷ course 4 2 2 (row "0101") (0 ∷ 1 ∷ 1 ∷ 1 ∷ 0 ∷ 1 ∷ 1 ∷ [])
    (stand (row "0100") (Down 2) (row "0101")
    ∷ stand (row "0000") (Up 3) (row "0101")
    ∷ stand (row "0010") (Up 4) (row "0101")
    ∷ stand (row "0011") Given (row "0011")
    ∷ stand (row "0010") (Down 3) (row "0011")
    ∷ stand (row "0000") Ended (row "0000")
    ∷ stand (row "0000") Ended (row "0000")
    ∷ [])
    ∷ course 2 0 2 (row "11") (0 ∷ 1 ∷ 1 ∷ 1 ∷ [])
    (stand (row "11") (Down 2) (row "11")
    ∷ stand (row "11") (Down 1) (row "11")
    ∷ stand (row "01") (Up 2) (row "11")
    ∷ stand (row "00") Ended (row "00")
    ∷ [])
    ∷ course 1 0 1 (row "0") (0 ∷ 0 ∷ [])
    (stand (row "0") Given (row "0") ∷ stand (row "0") Ended (row "0") ∷ [])
    ∷ calls
    (opens 6 3 1 (ones 6) ∷ steps 100 ∷ steps 4 ∷ puts 7 ∷ steps 100 ∷ fetches 7 ∷ steps 100 ∷ [])
    (placed (told (says (ring (row "010101"))) 11) 1
    ∷ placed (told (refused 21) 4) 0
    ∷ placed (told (says (ring (row "001101"))) 2) 2
    ∷ placed (told (says (ring (row "001101"))) 2) 2
    ∷ [])
    ∷ calls
    (opens 6 3 1 (ones 6)
    ∷ looks 100
    ∷ steps 4
    ∷ takes (offer 6 3 1 Ring 6 (stand (row "010101") Given (row "010101")))
    ∷ takes (offer 6 3 1 Ring 100 (stand (row "010101") Given (row "010101")))
    ∷ takes (offer 6 3 1 Ring 100 (stand (row "010101") Given (row "010101")))
    ∷ takes (offer 6 3 1 None 100 (stand (row "001101") Given (row "001101")))
    ∷ takes (offer 6 3 1 Ring 6 (stand (row "001101") Given (row "001101")))
    ∷ [])
    (placed (told (refused 21) 4) 0
    ∷ placed (told (says (ring (row "010101"))) 7) 1
    ∷ placed (told (says (ring (row "001101"))) 6) 2
    ∷ [])
    ∷ pitches (row "00100101") (3 ∷ 3 ∷ 2 ∷ [])
    ∷ []
