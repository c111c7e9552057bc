-- The ring at a seat, one symbol at a time: a row with a 0 there and ones behind it is at or above the ring exactly if the ring has a 0 there.
use mathlib.Core.List.{List, [], append_assoc, append-nil, ◌++◌, ◌∷◌}
use mathlib.Core.Path.{ap, refl, subst, sym, ◌∙◌, ◌≡◌}
use Prim.Native.Nat.{suc, zero, ℕ, ◌+◌, ◌-◌, ◌<◌, ◌≤◌}
use native.Mathlib.Numerals.{add-one}
use native.Mathlib.Omega.{arith}
use lib.Dec.{lit<}
use lib.ListN.{length, length-append, length-replicate, length-set, replicate, set, take}
use lib.Seq.{length-take-le, set_at, set-set, take-set-lt, take-suc-set}
use Rattle.density.proofs.Binary.{Binary, binary_append, binary_behind, binary_cons, binary_front, binary_replicate, binary_uncons, ones_most}
use Rattle.density.proofs.Members.{Member}
use Rattle.density.proofs.RankedRings.{before_necklace, from_necklace, necklace_member, of_drawer}
use Rattle.density.specs.Ranks.{necklace_at, rank}
use Rattle.lyndon_below.specs.InnerTables.{Given}
use Rattle.pascal.specs.Pascal.{last_row}
use Rattle.ranking.specs.InnerRanks.{Seats}
use Rattle.refusal.specs.Verdicts.{most_stations}
use Rattle.std.proofs.lemmas.List.{take-replicate}
use Rattle.words.proofs.AtMost.{≼_there, ≼_under, ◌≼◌}
use Rattle.words.proofs.Below.{here, ≺_under, ◌≺◌}
use Rattle.words.specs.InnerScan.{◌▹◌}
use Rattle.words.specs.Symbols.{ones}

-- ---- a symbol n times

pub filled_given : (x n d : ℕ) → x ≤ 1 → 0 < n → n ≤ last_row → d ≤ n → Given (take n (replicate most_stations x)) d
filled_given x n d b p h k =
    let e = take-replicate {X = ℕ} n most_stations x (omega arith) in
    rw e (record { some = omega (arith, length-replicate {A = ℕ} n x); few = omega (arith, length-replicate {A = ℕ} n x); binary = binary_replicate n x b; dense = omega (arith, length-replicate {A = ℕ} n x) })

pub ones_given : (n d : ℕ) → 0 < n → n ≤ last_row → d ≤ n → Given (take n (replicate most_stations 1)) d
ones_given n d = filled_given 1 n d (omega arith)

pub ones-rank : (n d kind r : ℕ) → n ≤ last_row → let w = take {A = ℕ} n (replicate most_stations 1) in r ≡ rank (length w) d kind w → r ≡ rank n d kind (ones n)
ones-rank n d kind r h e =
    let o = take-replicate {X = ℕ} n most_stations 1 (omega arith) in
    rw (o, length-replicate {A = ℕ} n 1) at e

-- ---- the first i symbols are those of the ring, and ones stand behind them

pub record Fixed (n d kind s : ℕ) (row : List ℕ) (i : ℕ) : Type 0 where
  pub inside : i ≤ n
  pub long : length row ≡ most_stations
  pub front : take n row ≡ take i row ++ ones (n - i)
  pub rest : List ℕ
  pub ring : necklace_at n d kind s ≡ take i row ++ rest

module _ (n d kind s : ℕ) (k : Seats n d kind s) where
  member : Member n d (necklace_at n d kind s)
  member = of_drawer n d kind (necklace_at n d kind s) (necklace_member n d kind s k.low k.high)

  -- a row that is the ring has n symbols
  pub ring_long : (row : List ℕ) → row ≡ necklace_at n d kind s → length row ≡ n
  ring_long row e = ap length e ∙ member.long

  pub fixed_start : Fixed n d kind s (replicate most_stations 1) 0
  fixed_start =
      let e : n - 0 ≡ n = omega arith in
      record { inside = omega arith; long = length-replicate {A = ℕ} most_stations 1; front = rw (take-replicate {X = ℕ} n most_stations 1 (omega (arith, k.few)), e); rest = necklace_at n d kind s; ring = refl }

  rest_long : (row : List ℕ) (i : ℕ) (f : Fixed n d kind s row i) → i + length f.rest ≡ n
  rest_long row i f =
      omega (arith, ap length f.ring, member.long, length-append (take i row) f.rest, length-take-le i row (omega (arith, f.long, f.inside, k.few)))

  pub fixed_end : (row : List ℕ) (i : ℕ) → Fixed n d kind s row i → n ≤ i → take n row ≡ necklace_at n d kind s
  fixed_end row i f h =
      let all : i ≡ n = omega (arith, f.inside) in
      let over : f.rest ≡ [] = nothing f.rest (omega (arith, rest_long row i f)) in
      ap (λ j. take j row) (sym all) ∙ sym (append-nil (take i row)) ∙ ap (λ z. take i row ++ z) (sym over) ∙ sym f.ring
    where
      nothing : (z : List ℕ) → length z ≡ 0 → z ≡ []
      nothing [] e = refl
      nothing (x ∷ z) e = absurd (omega arith)

  module _ (row : List ℕ) (i : ℕ) (f : Fixed n d kind s row i) (more : i < n) where
    abbrev a : List ℕ
    a = take i row

    abbrev j : ℕ
    j = n - suc i

    size : length a ≡ i
    size = length-take-le i row (omega (arith, f.long, k.few))

    stored : (b : ℕ) → take n (set row i b) ≡ a ++ (b ∷ ones j)
    stored b =
        let one_more : n - i ≡ suc j = omega arith in
        take-set-lt n row i b more ∙ ap (λ t. set t i b) (f.front ∙ ap (λ m. a ++ ones m) one_more) ∙ set_at a 1 (ones j) b i size

    ring_binary : Binary (a ++ f.rest)
    ring_binary = subst Binary f.ring member.binary

    -- the row that is tried
    pub tried_long : length (take n (set row i 0)) ≡ n
    tried_long = length-take-le n (set row i 0) (simp length-set (omega (arith, f.long, k.few)))

    pub tried_given : Given (take n (set row i 0)) d
    tried_given = record {
      some = omega (arith, tried_long);
      few = omega (arith, tried_long, k.few);
      binary = subst Binary (sym (stored 0)) (binary_append (binary_front a f.rest ring_binary) (binary_cons 0 (omega arith) (binary_replicate j 1 (omega arith))));
      dense = omega (arith, tried_long, k.dense);
    }

    module _ (r : ℕ) (e : r ≡ rank (length (take n (set row i 0))) d kind (take n (set row i 0))) where
      tried : r ≡ rank n d kind (a ++ (0 ∷ ones j))
      tried = e ∙ ap (λ m. rank m d kind (take n (set row i 0))) tried_long ∙ ap (rank n d kind) (stored 0)

      fixed_next : (b : ℕ) (z : List ℕ) → f.rest ≡ b ∷ z → Fixed n d kind s (set row i b) (i + 1)
      fixed_next b z q =
          let first : take (suc i) (set row i b) ≡ a ▹ b = take-suc-set row i b (omega (arith, f.long, k.few)) in
          rw (add-one i) (record {
            inside = omega arith;
            long = simp length-set f.long;
            front = rw first (stored b ∙ sym (append_assoc a (b ∷ []) (ones j)));
            rest = z;
            ring = rw first (f.ring ∙ ap (λ t. a ++ t) q ∙ sym (append_assoc a (b ∷ []) z));
          })

      -- the ring's next symbol is 0: then it is at or below the row tried; or 1: then it is above it
      at_most : (z : List ℕ) → f.rest ≡ 0 ∷ z → s ≤ r
      at_most z q =
          let long : length z ≡ j = omega (arith, rest_long row i f, ap length q) in
          let binary = (binary_uncons (subst Binary q (binary_behind a ring_binary))).1 in
          let low : necklace_at n d kind s ≼ (a ++ (0 ∷ ones j)) = subst (λ t. t ≼ (a ++ (0 ∷ ones j))) (sym (f.ring ∙ ap (λ t. a ++ t) q)) (≼_under a (≼_there 0 (ones_most binary j long))) in
          omega (arith, tried, from_necklace n d kind s k.low k.high (a ++ (0 ∷ ones j)) low)

      above : (z : List ℕ) → f.rest ≡ 1 ∷ z → r < s
      above z q =
          let high : (a ++ (0 ∷ ones j)) ≺ necklace_at n d kind s = subst (λ t. (a ++ (0 ∷ ones j)) ≺ t) (sym (f.ring ∙ ap (λ t. a ++ t) q)) (≺_under a (here (lit< tt))) in
          omega (arith, tried, before_necklace n d kind s k.low k.high (a ++ (0 ∷ ones j)) high)

      pub fixed_low : s ≤ r → Fixed n d kind s (set row i 0) (i + 1)
      fixed_low h = go f.rest refl (binary_behind a ring_binary)
        where
          go : (z : List ℕ) → f.rest ≡ z → Binary z → Fixed n d kind s (set row i 0) (i + 1)
          go [] q b = absurd (omega (arith, rest_long row i f, ap length q))
          go (zero ∷ z) q b = fixed_next 0 z q
          go (suc zero ∷ z) q b = absurd (omega (arith, above z q))
          go (suc (suc x) ∷ z) q b = absurd (omega (arith, (binary_uncons b).0))

      pub fixed_high : r < s → Fixed n d kind s (set (set row i 0) i 1) (i + 1)
      fixed_high h = rw (set-set row i 0 1) (go f.rest refl (binary_behind a ring_binary))
        where
          go : (z : List ℕ) → f.rest ≡ z → Binary z → Fixed n d kind s (set row i 1) (i + 1)
          go [] q b = absurd (omega (arith, rest_long row i f, ap length q))
          go (zero ∷ z) q b = absurd (omega (arith, at_most z q))
          go (suc zero ∷ z) q b = fixed_next 1 z q
          go (suc (suc x) ∷ z) q b = absurd (omega (arith, (binary_uncons b).0))
