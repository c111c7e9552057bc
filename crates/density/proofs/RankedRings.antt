-- The rank of a row counts the rings of a kind from their end: a ring stands at its rank, and which rows are at or above the ring of a rank.
use mathlib.Core.Bool.{and_comm, ◌&&◌}
use mathlib.Core.List.Memᴰ
use mathlib.Core.List.{List, Memᴰ, append_assoc, ◌++◌, ◌∷◌}
use mathlib.Core.Path.{ap, refl, subst, sym, ◌∙◌, ◌≡◌}
use Prim.Native.Nat.{suc, ℕ, ◌+◌, ◌-◌, ◌<◌, ◌≤◌}
use native.Mathlib.Omega.{arith}
use lib.ListN.{length, length-append}
use Rattle.density.proofs.Binary.{ones_most}
use Rattle.density.proofs.Members.{Member, member→, necklaces_falling}
use Rattle.density.proofs.RowCounts.{few_rings}
use Rattle.density.specs.Choose.{choose}
use Rattle.density.specs.Claims.{AllRanked, RingAtSeat, SeatOfRing, SeatsRise}
use Rattle.density.specs.Necklaces.{necklaces, necklaces_of_kind, of_kind, wanted}
use Rattle.density.specs.Ranks.{necklace_at, rank, ring_count}
use Rattle.words.proofs.AtMost.{lower, ◌≼◌}
use Rattle.words.proofs.Below.{◌≺◌}
use Rattle.words.proofs.Falling.{ends_below, keep_falling}
use Rattle.words.proofs.Lists.{keep_all, keep-keep, keep_same, keep→}
use Rattle.words.proofs.OrderTests.{lt→, →le}
use Rattle.words.proofs.UpTo.{Place, at_place, before_place, entry_there, place, place_of, up_to, up_to_less}
use Rattle.words.specs.Falling.{Falling}
use Rattle.words.specs.Order.{le}
use Rattle.words.specs.Symbols.{ones}

module _ (n d kind : ℕ) where
  abbrev rings : List (List ℕ)
  rings = necklaces_of_kind kind n d

  rings_falling : Falling rings
  unfolding necklaces_of_kind
  rings_falling = keep_falling (of_kind kind) (necklaces_falling n d)

  pub of_drawer : (r : List ℕ) → Memᴰ r rings → Member n d r
  unfolding necklaces_of_kind
  of_drawer r m = member→ n d r (keep→ (of_kind kind) r (necklaces n d) m).0

  -- those wanted, from the list of the rings of the kind
  wanted-listed : (w : List ℕ) → wanted n d (of_kind kind) w ≡ up_to w rings
  unfolding necklaces_of_kind
  wanted-listed w =
      keep_same (λ r. le r w && of_kind kind r) (λ r. of_kind kind r && le r w) (necklaces n d) (λ r m. and_comm (le r w) (of_kind kind r))
      ∙ sym (keep-keep (of_kind kind) (λ r. le r w) (necklaces n d))

  rank-listed : (w : List ℕ) → rank n d kind w ≡ length (up_to w rings)
  unfolding rank
  rank-listed w = ap length (wanted-listed w)

  -- all of them are at or below n ones
  pub ring-count : ring_count n d kind ≡ length rings
  ring-count =
      rank-listed (ones n)
      ∙ ap length (keep_all (λ r. le r (ones n)) rings (λ r m. let k = of_drawer r m in →le r (ones n) (ones_most k.binary n k.long)))

  pub rank_few : (w : List ℕ) → rank n d kind w ≤ choose n d
  unfolding rank
  rank_few w = few_rings n d (λ r. le r w && of_kind kind r)

  -- ---- at a place

  module _ (a : List (List ℕ)) (r : List ℕ) (b : List (List ℕ)) (e : rings ≡ a ++ (r ∷ b)) where
    falls : Falling (a ++ (r ∷ b))
    falls = subst Falling e rings_falling

    rank_there : rank n d kind r ≡ suc (length b)
    rank_there = rank-listed r ∙ ap (λ l. length (up_to r l)) e ∙ ap length (at_place a r b falls)

    necklace_there : necklace_at n d kind (suc (length b)) ≡ r
    unfolding necklace_at
    necklace_there = let p : suc (length b) - 1 ≡ length b = omega arith in rw (e, p) (entry_there a r b)

    from_there : (w : List ℕ) → r ≼ w → suc (length b) ≤ rank n d kind w
    from_there w h = omega (arith, rank_there, rank-listed r, rank-listed w, up_to_less r w rings h)

    before_there : (w : List ℕ) → w ≺ r → rank n d kind w ≤ length b
    before_there w h = omega (arith, rank-listed w, ap (λ l. length (up_to w l)) e, before_place a r b falls w h)

  -- ---- at a rank

  module _ (s : ℕ) (some : 0 < s) (most : s ≤ ring_count n d kind) where
    abbrev at : Place rings s
    at = place rings s some (omega (arith, most, ring-count))

    found : necklace_at n d kind s ≡ at.row
    found = ap (necklace_at n d kind) (sym at.count) ∙ necklace_there at.before at.row at.behind at.whole

    pub necklace_member : Memᴰ (necklace_at n d kind s) rings
    necklace_member = rw found (subst (Memᴰ at.row) (sym at.whole) (Memᴰ.append_right at.before (Memᴰ.head refl)))

    pub rank_necklace : rank n d kind (necklace_at n d kind s) ≡ s
    rank_necklace = ap (rank n d kind) found ∙ rank_there at.before at.row at.behind at.whole ∙ at.count

    -- a row at or above the ring has no lower rank, and a row below it a lower one
    pub from_necklace : (w : List ℕ) → necklace_at n d kind s ≼ w → s ≤ rank n d kind w
    from_necklace w h = omega (arith, at.count, from_there at.before at.row at.behind at.whole w (rw found at h))

    pub before_necklace : (w : List ℕ) → w ≺ necklace_at n d kind s → rank n d kind w < s
    before_necklace w h = omega (arith, at.count, before_there at.before at.row at.behind at.whole w (rw found at h))

  -- ---- those wanted from a limit on: the rank of the one behind k others is k less than that of the limit

  pub rank-wanted : (limit : List ℕ) (before : List (List ℕ)) (r : List ℕ) (more : List (List ℕ)) → wanted n d (of_kind kind) limit ≡ before ++ (r ∷ more) → rank n d kind r + length before ≡ rank n d kind limit
  unfolding rank
  rank-wanted limit before r more e =
      let cut = ends_below limit rings_falling in
      let whole : rings ≡ (cut.0 ++ before) ++ (r ∷ more) = cut.1 ∙ ap (λ l. cut.0 ++ l) (sym (wanted-listed limit) ∙ e) ∙ sym (append_assoc cut.0 before (r ∷ more)) in
      omega (arith, rank_there (cut.0 ++ before) r more whole, ap length e, length-append before (r ∷ more))

-- ---- what is claimed in specs/

pub all_ranked : AllRanked
all_ranked = ring-count

pub seat_of_ring : SeatOfRing
seat_of_ring n d kind s a b = (necklace_member n d kind s a b, rank_necklace n d kind s a b)

pub ring_at_seat : RingAtSeat
ring_at_seat n d kind w m =
    let k = place_of m in
    let r = rank_there n d kind k.0 w k.1 k.2 in
    (omega arith, omega (arith, ring-count n d kind, ap length k.2, length-append k.0 (w ∷ k.1)), ap (necklace_at n d kind) r ∙ necklace_there n d kind k.0 w k.1 k.2)

pub seats_rise : SeatsRise
seats_rise n d kind v w e =
    let low = lt→ v w e in (
      omega (arith, rank-listed n d kind v, rank-listed n d kind w, up_to_less v w (rings n d kind) (lower low)),
      λ m.
          let k = place_of m in
          omega (arith, rank_there n d kind k.0 w k.1 k.2, before_there n d kind k.0 w k.1 k.2 v low),
    )
