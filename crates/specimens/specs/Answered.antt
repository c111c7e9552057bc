-- What the operations answer in specimens of documents 01 and 02: each is an instance of the operation's promise, so that
-- the verdict, the values and the telling of each case of an answer are held to the documents' numbers.
use Rattle.std.specs.Prelude.{Bool, false, true, List, [], ◌∷◌, ◌≡◌, Option, None, Some, Result, Err, Ok, ℕ, neg_ℤ, pos, length}
use Prim.Native.String.{String}
use Rattle.binder.specs.Names.{fetch_verdict, fresh_binder, put_verdict}
use Rattle.coated.specs.Answers.{fit_outcome, fit_verdict}
use Rattle.coated.specs.Fitting.{fit_of}
use Rattle.coated.specs.declared.FitAnswer.{FitAnswer}
use Rattle.density.specs.Choose.{choose}
use Rattle.density.specs.Drawers.{open_verdict}
use Rattle.density.specs.Lengths.{drawer_length}
use Rattle.density.specs.Necklaces.{begins}
use Rattle.density.specs.Ranks.{rank}
use Rattle.drawer_input.specs.Input.{read_drawer, request_for}
use Rattle.drawer_input.specs.declared.Request.{Request}
use Rattle.largest.specs.Top.{top_verdict}
use Rattle.lengths.specs.Answers.{length_outcome}
use Rattle.lengths.specs.declared.Length.{Length}
use Rattle.necklace.specs.Class.{class_given, class_verdict}
use Rattle.necklace.specs.Key.{key_given, key_verdict}
use Rattle.offers.specs.Offers.{look_of, take_of}
use Rattle.offers.specs.declared.Looked.{Looked}
use Rattle.offers.specs.declared.Offer.{Offer}
use Rattle.pascal.specs.Answers.{ways_verdict}
use Rattle.pitches.specs.Answers.{list_verdict, row_verdict}
use Rattle.pitches.specs.Pitches.{pitches_of_row}
use Rattle.prefix.specs.Question.{question_verdict}
use Rattle.ranking.specs.Answers.{rank_verdict, unrank_verdict}
use Rattle.refusal.specs.Outcomes.{decide}
use Rattle.necklace.specs.declared.RowClass.{RowClass}
use Rattle.necklace.specs.declared.RowKey.{RowKey}
use Rattle.refusal.specs.declared.Refusal.{Refusal}
use Rattle.refusal.specs.declared.Refusal.TheVariants as refusals
use Rattle.specimens.specs.Starred.{offer, row, stand, standing}
use Rattle.text.specs.Ascii.{ascii}
use Rattle.walk.specs.Moves.{rules}
use Rattle.walk.specs.Opening.{refused_walk}
use Rattle.walk.specs.declared.Answer.TheVariants as step
use Rattle.walk.specs.declared.Answer as told
use Rattle.walk.specs.declared.Standing.TheVariants.{Down, Ended, Given, Limit}
use Rattle.walk.specs.declared.Stepped.{Stepped}
use Rattle.walk.specs.declared.Walk.{Walk}
use Rattle.words.specs.Symbols.{first_wrong, ones, place_found, zeros}

pub data Answered : Type 0 where
  -- key of a row, and turned-over key, in a buffer of so many bytes
  key : List ℕ → ℕ → Result RowKey Refusal → Answered
  turned : List ℕ → ℕ → Result Unit Refusal → Answered
  -- the first wrong symbol of a row
  wrong : List ℕ → Option ℕ → Answered
  -- class of a row
  class : List ℕ → Result RowClass Refusal → Answered
  -- two rows: how the first fits the second
  fits : List ℕ → List ℕ → Result FitAnswer Refusal → Answered
  -- drawer (n, d): a prefix
  prefix : ℕ → ℕ → List ℕ → Result Bool Refusal → Answered
  -- top ring of (n, d), in a buffer of so many bytes
  top : ℕ → ℕ → ℕ → Result Unit Refusal → Answered
  -- a pitch list to its row of n symbols, and a row to its list
  pitches : ℕ → List ℕ → ℕ → Result Unit Refusal → Answered
  list : List ℕ → ℕ → Result ℕ Refusal → Answered
  -- the ways to choose bottom of top
  ways : ℕ → ℕ → Result ℕ Refusal → Answered
  -- drawer (n, d), kind: the seat of a row, the ring at a seat, the length from a limit, and an opening
  seat : ℕ → ℕ → ℕ → List ℕ → Result ℕ Refusal → Answered
  ring_at : ℕ → ℕ → ℕ → ℕ → ℕ → Result Unit Refusal → Answered
  rings : ℕ → ℕ → ℕ → List ℕ → Result Length Refusal → Answered
  opens : ℕ → ℕ → ℕ → List ℕ → Result Unit Refusal → Answered
  -- a walk put under a name, and a fetch from a fresh binder
  put : ℕ → Walk → Result Unit Refusal → Answered
  fetch : ℕ → Result Unit Refusal → Answered
  -- a look at a walk with an allowance, and a take of an offer on it
  look : Walk → ℕ → Looked → Answered
  take : Walk → Offer → Stepped → Answered
  -- a text read, with a buffer of so many bytes for the limit
  read : String → ℕ → Result Request Refusal → Answered

-- the promise of the answer
abbrev pub Keeps : Answered → Type 0
Keeps (key w room a) = a ≡ decide (key_verdict w room) (key_given w)
Keeps (turned w room a) = a ≡ decide (key_verdict w room) tt
Keeps (wrong w a) = a ≡ place_found (first_wrong 2 w)
Keeps (class w a) = a ≡ decide (class_verdict w) (class_given w)
Keeps (fits v w a) = fit_outcome a ≡ decide (fit_verdict v w) (fit_of v w)
Keeps (prefix n d p a) = a ≡ decide (question_verdict n d p) (begins n d p)
Keeps (top n d room a) = a ≡ decide (top_verdict n d room) tt
Keeps (pitches n l room a) = a ≡ decide (row_verdict n l room) tt
Keeps (list w room a) = a ≡ decide (list_verdict w room) (length (pitches_of_row w))
Keeps (ways t b a) = a ≡ decide (ways_verdict t b) (choose t b)
Keeps (seat n d kind w a) = a ≡ decide (rank_verdict n d kind w) (rank n d kind w)
Keeps (ring_at n d kind s room a) = a ≡ decide (unrank_verdict n d kind s room) tt
Keeps (rings n d kind limit a) = length_outcome a ≡ decide (open_verdict n d kind limit) (drawer_length n d kind limit)
Keeps (opens n d kind limit a) = a ≡ decide (open_verdict n d kind limit) tt
Keeps (put name w a) = a ≡ decide (put_verdict name w) tt
Keeps (fetch name a) = a ≡ decide (fetch_verdict fresh_binder name) tt
Keeps (look w a l) = l ≡ look_of w a
Keeps (take w o t) = t ≡ take_of w o
Keeps (read text room a) = a ≡ request_for (read_drawer (ascii text)) room

-- ---- walks and offers

-- (2, 1) from the limit 01, after its ring and after none
abbrev fresh : Walk
fresh = standing 2 1 1 (stand (row "01") Limit (row "01"))

abbrev given : Walk
given = standing 2 1 1 (stand (row "01") Given (row "01"))

abbrev ended : Walk
ended = standing 2 1 1 (stand (row "00") Ended (row "00"))

-- from the limit 11, and an unfit record
abbrev above : Walk
above = standing 2 1 1 (stand (row "11") Limit (row "11"))

abbrev unfit : Walk
unfit = standing 2 1 1 (stand (row "01") (Down 0) (row "01"))

-- (1, 0) after its ring
abbrev last : Walk
last = standing 1 0 1 (stand (row "0") Given (row "0"))

-- the ring of (2, 1), and none after it, with an allowance
abbrev ring : ℕ → Offer
ring a = offer 2 1 1 step.Ring a (stand (row "01") Given (row "01"))

abbrev none : ℕ → Offer
none a = offer 2 1 1 step.None a (stand (row "00") Ended (row "00"))

-- the offer of a refused look
abbrev nothing : Offer
nothing = record { offered = step.None; allowance = 0; walk = refused_walk rules }

-- what a look hands back, with its trials, and what a take does, each with place 0
abbrev looked : Walk → Result told.Answer Refusal → ℕ → Offer → Looked
looked w x t o = record { walk = w; answer = x; place = 0; trials = t; offer = o }

abbrev taken : Walk → Result told.Answer Refusal → Stepped
taken w x = record { walk = w; answer = x; place = 0; trials = 0 }

-- that of each in a list
abbrev pub Keep : List Answered → Type 0
Keep [] = Unit
Keep (a ∷ rest) = Keeps a × Keep rest

unfoldable pub answers : List Answered
answers =
    key (row "011000") 6 (Ok (record { rotation = 3; period = 6 }))
    ∷ key (row "101010") 9 (Ok (record { rotation = 1; period = 2 }))
    ∷ key (row "0110") 3 (Err refusals.Buffer)
    ∷ turned (row "001101") 6 (Ok tt)
    ∷ turned (2 ∷ []) 0 (Err (refusals.Symbol 1))
    ∷ wrong (0 ∷ 2 ∷ 1 ∷ 3 ∷ []) (Some 2)
    ∷ wrong (row "0110") None
    ∷ class (row "0101") (Ok (record { necklace = true; lyndon = false }))
    ∷ class (row "0011") (Ok (record { necklace = true; lyndon = true }))
    ∷ class (row "0110") (Ok (record { necklace = false; lyndon = false }))
    ∷ class [] (Err refusals.Stations)
    ∷ fits (row "101100") (row "001011") (Ok (FitAnswer.Turning (neg_ℤ (pos 2))))
    ∷ fits (row "001011") (row "001101") (Ok (FitAnswer.Over (neg_ℤ (pos 2))))
    ∷ fits (row "010101") (row "101010") (Ok (FitAnswer.Both (pos 1)))
    ∷ fits (row "001011") (row "000111") (Ok FitAnswer.Different)
    ∷ fits (row "01") (row "010") (Err refusals.Limit)
    ∷ prefix 8 3 (row "0010") (Ok true)
    ∷ prefix 8 3 (row "010") (Ok false)
    ∷ prefix 2 1 (row "000") (Err refusals.Prefix)
    ∷ top 64 3 64 (Ok tt)
    ∷ top 0 0 64 (Err refusals.Stations)
    ∷ top 65 3 65 (Err refusals.Stations)
    ∷ top 4 5 4 (Err refusals.Holes)
    ∷ pitches 8 (3 ∷ 3 ∷ 2 ∷ []) 8 (Ok tt)
    ∷ pitches 8 (2 ∷ 2 ∷ 2 ∷ []) 8 (Err refusals.PitchSum)
    ∷ pitches 8 (3 ∷ 0 ∷ 0 ∷ []) 8 (Err (refusals.ZeroPitch 2))
    ∷ list (row "00100101") 3 (Ok 3)
    ∷ list (row "10") 2 (Err refusals.LastPlain)
    ∷ ways 6 3 (Ok 20)
    ∷ ways 65 3 (Err refusals.Stations)
    ∷ seat 6 3 1 (row "001101") (Ok 3)
    ∷ seat 6 3 3 (row "001101") (Err refusals.Kind)
    ∷ ring_at 6 3 1 4 6 (Ok tt)
    ∷ ring_at 6 3 1 5 6 (Err refusals.Seat)
    ∷ rings 6 3 1 (ones 6) (Ok (Length.Exactly 4))
    ∷ rings 6 3 3 (ones 6) (Ok (Length.AtMost 20))
    ∷ rings 1 0 3 (zeros 1) (Ok (Length.AtMost 1))
    ∷ rings 6 3 4 (ones 6) (Err refusals.Kind)
    ∷ opens 6 3 1 (ones 6) (Ok tt)
    ∷ opens 6 3 1 (ones 7) (Err refusals.Limit)
    ∷ put 7 (refused_walk rules) (Ok tt)
    ∷ put 8 (refused_walk rules) (Err refusals.Name)
    ∷ fetch 7 (Err refusals.NothingPut)
    ∷ fetch 8 (Err refusals.Name)
    ∷ look fresh 0 (looked fresh (Ok step.Ring) 0 (ring 0))
    ∷ look given 0 (looked given (Ok step.None) 0 (none 0))
    ∷ look ended 9 (looked ended (Err refusals.Ended) 0 nothing)
    ∷ look above 1 (looked above (Err refusals.Spent) 1 nothing)
    ∷ take fresh (ring 0) (taken given (Ok step.Ring))
    ∷ take given (none 7) (taken ended (Ok step.None))
    ∷ take last nothing (taken (refused_walk rules) (Ok step.None))
    ∷ take fresh nothing (taken fresh (Err refusals.NotOffered))
    ∷ take above (ring 1) (taken above (Err refusals.NotOffered))
    ∷ take ended nothing (taken ended (Err refusals.Ended))
    ∷ take unfit nothing (taken unfit (Err refusals.Unfit))
    ∷ read "stations holes kind limit\n6 3 1 111111\n" 6 (Ok (record { stations = 6; holes = 3; kind = 1; size = 6 }))
    ∷ read "stations holes kind limit\n6 3 1 111111\n" 5 (Err refusals.Buffer)
    ∷ read "stations holes kind limit\n" 6 (Err (refusals.Text 2))
    ∷ []
