-- The steps of the search for the least rotation: rotation by rotation, each part by part.
use mathlib.Core.List.{List}
use mathlib.Core.Logic.{inl, inr, ◌⊎◌}
use mathlib.Core.Path.{ap, ap₂, refl, sym, ◌∙◌, ◌≡◌}
use Prim.Native.Nat.{Ordering, ℕ, ◌+◌, ◌-◌, ◌<◌, ◌≤◌}
use native.Mathlib.Omega.{arith}
use lib.ListN.{drop, length, length-drop, take}
use lib.Seq.{drop-drop}
use Rattle.necklace.proofs.Parts.{head_part, tail_part}
use Rattle.necklace.proofs.Seen.{Seen, seen_all, seen_keep, seen_repeat, seen_start, seen_take}
use Rattle.words.proofs.Agreeing.{cmp_parts}
use Rattle.words.proofs.Below.{cmp_eq, cmp_gt, cmp-lt}
use Rattle.words.proofs.OrderTests.{cmp_ended, order_equal, order_higher, order_lower}
use Rattle.words.proofs.Rotations.{rotation-length}
use Rattle.words.specs.Order.{cmp, head_first, order_of}
use Rattle.words.specs.Rotation.{least_index, period, rotation}
use Rattle.std.specs.declared.cmp.Ordering.{Ordering as Answer}
use Rattle.std.specs.declared.cmp.Ordering.TheVariants.{Equal, Greater, Less}

-- the least rotation in front of j lies at b
pub record Rotations (w : List ℕ) (b j : ℕ) : Type 0 where
  pub inside : j ≤ length w
  pub seen : Seen w j b

-- the m symbols of the rotation by r behind i others lie in the row, without a break, behind `at` symbols
pub record Lies (w : List ℕ) (r i m at : ℕ) : Type 0 where
  pub inside : at + m ≤ length w
  pub is : take m (drop i (rotation r w)) ≡ take m (drop at w)

-- the first i symbols of the rotations by j and by b are equal, and the next part of each lies in the row behind `from` and `beside` symbols
pub record NextPart (w : List ℕ) (b j i from beside part : ℕ) : Type 0 where
  pub rotations : Rotations w b j
  pub further : j < length w
  pub rest : cmp (drop i (rotation j w)) (drop i (rotation b w)) ≡ cmp (rotation j w) (rotation b w)
  pub room : i + part ≤ length w
  pub on : i < length w → 0 < part
  pub past : length w - j ≤ i + part
  pub one : Lies w j i part from
  pub other : Lies w b i part beside

pub start : (w : List ℕ) → 0 < length w → Rotations w 0 1
start w h = record { inside = h; seen = seen_start w }

-- the tail
pub tails : {w : List ℕ} {b j : ℕ} → Rotations w b j → j < length w → NextPart w b j 0 j b (length w - j)
tails {w} {b} {j} s h = record {
  rotations = s;
  further = h;
  rest = refl;
  room = omega arith;
  on = λ l. omega arith;
  past = omega arith;
  one = lies j (omega arith);
  other = lies b (omega (arith, s.seen.least.inside));
}
  where
    lies : (r : ℕ) → r ≤ j → Lies w r 0 (length w - j) r
    lies r l =
        let e : r + 0 ≡ r = omega arith in
        record { inside = omega arith; is = tail_part w r 0 (length w - j) (omega arith) ∙ ap (λ k. take (length w - j) (drop k w)) e }

module _ {w : List ℕ} {b j i from beside part : ℕ} (v : NextPart w b j i from beside part) where
  low : b < j
  low = v.rotations.seen.least.inside

  -- r is what the comparison of `row[from..from + part]` with `row[beside..beside + part]` answers
  module _ (r : Answer) (e : r ≡ order_of (cmp (take (from + part - from) (drop from w)) (take (beside + part - beside) (drop beside w)))) where
    answer : order_of (cmp (take part (drop i (rotation j w))) (take part (drop i (rotation b w)))) ≡ r
    answer =
        let one : from + part - from ≡ part = omega arith in
        let other : beside + part - beside ≡ part = omega arith in
        ap order_of (ap₂ cmp v.one.is v.other.is) ∙ sym (e ∙ rw (one, other))

    long : (x : ℕ) → part ≤ length (drop i (rotation x w))
    long x = omega (arith, v.room, length-drop i (rotation x w), rotation-length x w)

    parts : cmp (rotation j w) (rotation b w)
        ≡ head_first (cmp (take part (drop i (rotation j w))) (take part (drop i (rotation b w)))) (cmp (drop part (drop i (rotation j w))) (drop part (drop i (rotation b w))))
    parts = sym v.rest ∙ cmp_parts part (drop i (rotation j w)) (drop i (rotation b w)) (long j) (long b)

    decided : (o : Ordering) → cmp (take part (drop i (rotation j w))) (take part (drop i (rotation b w))) ≡ o
        → cmp (rotation j w) (rotation b w) ≡ head_first o (cmp (drop (i + part) (rotation j w)) (drop (i + part) (rotation b w)))
    decided o q = parts ∙ ap₂ head_first q (ap₂ cmp (drop-drop part i (rotation j w)) (drop-drop part i (rotation b w)))

    pub by_higher : r ≡ Greater → Rotations w b (j + 1)
    by_higher q =
        let h = cmp_gt (rotation j w) (rotation b w) (decided Ordering.gt (order_higher _ (answer ∙ q))) in
        record { inside = omega (arith, v.further); seen = seen_keep v.rotations.seen h }

    pub by_lower : r ≡ Less → Rotations w j (j + 1)
    by_lower q =
        let h = cmp-lt (rotation j w) (rotation b w) (decided Ordering.lt (order_lower _ (answer ∙ q))) in
        record { inside = omega (arith, v.further); seen = seen_take v.rotations.seen h }

    -- the head, beside the rotation by b before the row ends, or after it
    module _ (q : r ≡ Equal) (beside' part' : ℕ) where
      abbrev at : ℕ
      at = i + part

      more : Lies w b at part' beside' → (at + part' ≤ length w) × (at - (length w - j) + part' ≤ j) → (at < length w → 0 < part') → NextPart w b j at (at - (length w - j)) beside' part'
      more l h p = record {
        rotations = v.rotations;
        further = v.further;
        rest = sym (decided Ordering.eq (order_equal _ (answer ∙ q)));
        room = h.0;
        on = p;
        past = omega (arith, v.past);
        one = record { inside = omega (arith, h.1, v.further); is = head_part w j at part' v.rotations.inside v.past h.1 };
        other = l;
      }

      pub by_equal : ((at < length w - b) × (beside' ≡ b + at)) ⊎ ((length w - b ≤ at) × (beside' ≡ at - (length w - b)))
          → ((at < length w - b) × (part' ≡ length w - b - at)) ⊎ ((length w - b ≤ at) × (part' ≡ length w - at)) → NextPart w b j at (at - (length w - j)) beside' part'
      by_equal (inl x) (inl y) =
          more (record { inside = omega (arith, x, y); is = tail_part w b at part' (omega (arith, x, y)) ∙ ap (λ k. take part' (drop k w)) (sym x.1) })
          (omega (arith, x, y), omega (arith, x, y, v.past, low)) (λ h. omega (arith, y))
      by_equal (inr x) (inr y) =
          let inside : b ≤ length w = omega (arith, v.rotations.inside, low) in
          more (record { inside = omega (arith, x, y, v.room, inside); is = head_part w b at part' inside x.0 (omega (arith, y, v.room)) ∙ ap (λ k. take part' (drop k w)) (sym x.1) })
          (omega (arith, y, v.room), omega (arith, y, v.room, v.past, v.further)) (λ h. omega (arith, y))
      by_equal (inl x) (inr y) = absurd (omega (arith, x.0, y.0))
      by_equal (inr x) (inl y) = absurd (omega (arith, x.0, y.0))

  -- equal throughout: the least rotation comes again
  pub by_all : length w ≤ i → (least_index w ≡ b) × (period w ≡ j - b)
  by_all h =
      let same : cmp (rotation j w) (rotation b w) ≡ Ordering.eq =
      sym v.rest ∙ cmp_ended (rotation j w) (rotation b w) i i (omega (arith, rotation-length j w)) (omega (arith, rotation-length b w)) in
      seen_repeat w j b v.rotations.seen v.further (cmp_eq (rotation j w) (rotation b w) same)

-- no rotation is left
pub no_more : {w : List ℕ} {b j : ℕ} → Rotations w b j → length w ≤ j → (least_index w ≡ b) × (period w ≡ length w)
no_more {w} {b} {j} s h = let e : j ≡ length w = omega (arith, s.inside) in seen_all w b (rw e at s.seen)
