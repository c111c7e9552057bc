-- The steps of the comparison: words while they are equal, then bytes while they are equal.
use mathlib.Core.List.{List}
use mathlib.Core.Logic.{inl, inr, ◌⊎◌}
use mathlib.Core.Path.{ap, ap₂, refl, sym, ◌∙◌, ◌≡◌}
use Prim.Native.Nat.{ℕ, ◌%◌, ◌*◌, ◌+◌, ◌/◌, ◌<◌, ◌≤◌}
use native.Mathlib.Omega.{arith}
use lib.Bits.{bit_xor}
use lib.Count.{count_leading_zeros}
use lib.ListN.{get_or, length, take}
use Rattle.byte_words.proofs.FirstUnequal.{FirstByte, equal_bytes, first_byte}
use Rattle.byte_words.specs.Number.{high_first}
use Rattle.words.proofs.Agreeing.{agree_cmp, agree_ended, agree_more, agree_place}
use Rattle.words.proofs.Difference.{no_difference}
use Rattle.words.proofs.OrderTests.{cmp_ended, cmp_higher, cmp_long, cmp_lower, cmp_short}
use Rattle.words.proofs.PairsCompared.{all_pairs, byte_pairs, word_pairs}
use Rattle.words.specs.Difference.{first_difference}
use Rattle.words.specs.Order.{cmp, order_of}
use Rattle.words.specs.Pairs.{pairs, shorter_length}
use Rattle.std.proofs.lemmas.Cmp.{ranked}
use Rattle.std.specs.Ordering.{MatchOrdering, nat_cmp}
use Rattle.std.specs.declared.cmp.Ordering.{Ordering}
use Rattle.std.specs.declared.cmp.Ordering.TheVariants.{Equal, Greater, Less}

-- what the comparison promises of an order, a place and a number of pairs
abbrev pub Told : List ℕ → List ℕ → Ordering → ℕ → ℕ → Type 0
Told a b o p q = (o ≡ order_of (cmp a b)) × ((p ≡ first_difference a b) × (q ≡ pairs a b))

-- an order that was chosen by two numbers, which differ
abbrev pub Chosen : ℕ → ℕ → Ordering → Type 0
Chosen x y o = ((x < y) × (o ≡ Less)) ⊎ ((y < x) × (o ≡ Greater))

pub chosen : (x y : ℕ) (o : Ordering) → (x ≡ y → ⊥) → o ≡ nat_cmp x y → Chosen x y o
chosen x y o d e = go o (ranked x y o e)
  where
    go : (o : Ordering) → MatchOrdering o (x < y) (x ≡ y) (y < x) → Chosen x y o
    go Less h = inl (h, refl)
    go Equal h = absurd (d h)
    go Greater h = inr (h, refl)

module _ (a b : List ℕ) (i : ℕ) (e : take i a ≡ take i b) (ha : i < length a) (hb : i < length b) (o : Ordering) where
  chosen_order : Chosen (get_or a i 0) (get_or b i 0) o → o ≡ order_of (cmp a b)
  chosen_order (inl h) = h.1 ∙ ap order_of (sym (cmp_lower a b i i ha hb h.0) ∙ agree_cmp a b i e)
  chosen_order (inr h) = h.1 ∙ ap order_of (sym (cmp_higher a b i i ha hb h.0) ∙ agree_cmp a b i e)

  chosen_place : Chosen (get_or a i 0) (get_or b i 0) o → i + 1 ≡ first_difference a b
  chosen_place (inl h) = agree_place a b i e (inl (ha, hb, λ q. omega (arith, h.0)))
  chosen_place (inr h) = agree_place a b i e (inl (ha, hb, λ q. omega (arith, h.0)))

-- ---- words

-- k words are equal
pub record Words (a b : List ℕ) (shorter words k : ℕ) : Type 0 where
  pub short : shorter ≡ shorter_length a b
  pub all : words ≡ shorter / 8
  pub inside : k ≤ words
  pub agree : take (k * 8) a ≡ take (k * 8) b

pub words_none : {a b : List ℕ} {shorter : ℕ} → shorter ≡ shorter_length a b → Words a b shorter (shorter / 8) 0
words_none e = record { short = e; all = refl; inside = omega arith; agree = refl }

module _ {a b : List ℕ} {shorter words k : ℕ} (v : Words a b shorter words k) (h : k < words) where
  long : (k * 8 + 8 ≤ length a) × (k * 8 + 8 ≤ length b)
  long = (omega (arith, v.short, v.all), omega (arith, v.short, v.all))

  -- the next words, of bytes
  module _ (ha : (i : ℕ) → get_or a i 0 < 256) (hb : (i : ℕ) → get_or b i 0 < 256) (x y : ℕ) (ex : x ≡ high_first 8 (λ j. get_or a (k * 8 + j) 0)) (ey : y ≡ high_first 8 (λ j. get_or b (k * 8 + j) 0)) where
    abbrev f : ℕ → ℕ
    f j = get_or a (k * 8 + j) 0

    abbrev g : ℕ → ℕ
    g j = get_or b (k * 8 + j) 0

    pub words_on : x ≡ y → Words a b shorter words (k + 1)
    words_on e =
        let more = agree_more a b (k * 8) 8 long.0 long.1 v.agree (equal_bytes f g (λ j. ha (k * 8 + j)) (λ j. hb (k * 8 + j)) 8 (sym ex ∙ e ∙ ey)) in
        let s : (k + 1) * 8 ≡ k * 8 + 8 = omega arith in
        record { short = v.short; all = v.all; inside = omega arith; agree = rw s more }

    pub words_differ : (o : Ordering) (z : ℕ) → z ≡ count_leading_zeros 64 (bit_xor x y) / 8 → Chosen x y o → Told a b o (k * 8 + z + 1) (k + 1)
    words_differ o z ez ch = go (first_byte f g (λ j. ha (k * 8 + j)) (λ j. hb (k * 8 + j)) 8 (apart ch))
      where
        apart : Chosen x y o → high_first 8 f ≡ high_first 8 g → ⊥
        apart (inl c) e = omega (arith, c.0, ex ∙ e ∙ sym ey)
        apart (inr c) e = omega (arith, c.0, ex ∙ e ∙ sym ey)

        go : FirstByte 8 f g → Told a b o (k * 8 + z + 1) (k + 1)
        go r = (chosen_order a b i agree in_a in_b o byte, (rw at place, omega (arith, word_pairs a b i (omega (arith, place)) (omega (arith, v.short, v.all, r.inside)))))
          where
            i : ℕ
            i = k * 8 + r.before

            at : k * 8 + z ≡ i
            at = ap (λ m. k * 8 + m) (ez ∙ ap₂ (λ m n. count_leading_zeros 64 (bit_xor m n) / 8) ex ey ∙ r.counted)

            in_a : i < length a
            in_a = omega (arith, long.0, r.inside)

            in_b : i < length b
            in_b = omega (arith, long.1, r.inside)

            agree : take i a ≡ take i b
            agree = agree_more a b (k * 8) r.before (omega arith) (omega arith) v.agree r.equal

            byte : Chosen (get_or a i 0) (get_or b i 0) o
            byte = choose ch
              where
                choose : Chosen x y o → Chosen (get_or a i 0) (get_or b i 0) o
                choose (inl c) = inl (r.lower (omega (arith, c.0, ex, ey)), c.1)
                choose (inr c) = inr (r.higher (omega (arith, c.0, ex, ey)), c.1)

            place : i + 1 ≡ first_difference a b
            place = chosen_place a b i agree in_a in_b o byte

-- ---- bytes

-- all words are equal, and so are the bytes in front of i
pub record Bytes (a b : List ℕ) (shorter words i : ℕ) : Type 0 where
  pub short : shorter ≡ shorter_length a b
  pub all : words ≡ shorter / 8
  pub behind : words * 8 ≤ i
  pub inside : i ≤ shorter
  pub agree : take i a ≡ take i b

pub bytes_none : {a b : List ℕ} {shorter words k : ℕ} → Words a b shorter words k → words ≤ k → Bytes a b shorter words (words * 8)
bytes_none {a} {b} {shorter} {words} {k} v h =
    let e : k ≡ words = omega (arith, v.inside) in
    record { short = v.short; all = v.all; behind = omega arith; inside = omega (arith, v.all); agree = rw e at v.agree }

module _ {a b : List ℕ} {shorter words i : ℕ} (v : Bytes a b shorter words i) where
  module _ (h : i < shorter) where
    pub bytes_on : get_or a i 0 ≡ get_or b i 0 → Bytes a b shorter words (i + 1)
    bytes_on e = record {
      short = v.short;
      all = v.all;
      behind = omega (arith, v.behind);
      inside = omega arith;
      agree = agree_more a b i 1 (omega (arith, v.short)) (omega (arith, v.short)) v.agree (λ k l. next k (omega arith));
    }
      where
        next : (k : ℕ) → k ≡ 0 → get_or a (i + k) 0 ≡ get_or b (i + k) 0
        next k z = let s : i + k ≡ i = omega arith in rw s e

    pub bytes_differ : (o : Ordering) → Chosen (get_or a i 0) (get_or b i 0) o → Told a b o (i + 1) (words + i % 8 + 1)
    bytes_differ o ch =
        let in_a : i < length a = omega (arith, v.short) in
        let in_b : i < length b = omega (arith, v.short) in
        let place = chosen_place a b i v.agree in_a in_b o ch in
        (chosen_order a b i v.agree in_a in_b o ch, (place, omega (arith, byte_pairs a b i (omega (arith, place)) (omega (arith, v.short, v.all, v.behind)) (omega (arith, v.short)), v.short, v.all)))

  -- over the shorter length they are equal
  module _ (h : shorter ≤ i) where
    whole : words + shorter % 8 ≡ pairs a b
    whole =
        let e : i ≡ shorter_length a b = omega (arith, v.short, v.inside) in
        omega (arith, all_pairs a b (rw e at v.agree), v.short, v.all)

    pub both_ended : length a ≡ length b → Told a b Equal 0 (words + shorter % 8)
    both_ended l =
        let in_a : length a ≤ i = omega (arith, v.short) in
        let in_b : length b ≤ i = omega (arith, v.short) in (
          ap order_of (sym (cmp_ended a b i i in_a in_b) ∙ agree_cmp a b i v.agree),
          (sym ((no_difference a b).1 (agree_ended a b i v.agree in_a in_b)), whole),
        )

    pub one_ended : (o : Ordering) → Chosen (length a) (length b) o → Told a b o (shorter + 1) (words + shorter % 8)
    one_ended o (inl c) =
        let in_a : length a ≡ i = omega (arith, v.short, v.inside, c.0) in
        let in_b : i < length b = omega (arith, c.0) in (
          c.1 ∙ ap order_of (sym (cmp_short a b i i (omega arith) in_b) ∙ agree_cmp a b i v.agree),
          (omega (arith, v.inside, agree_place a b i v.agree (inr (inl (in_a, in_b)))), whole),
        )
    one_ended o (inr c) =
        let in_b : length b ≡ i = omega (arith, v.short, v.inside, c.0) in
        let in_a : i < length a = omega (arith, c.0) in (
          c.1 ∙ ap order_of (sym (cmp_long a b i i in_a (omega arith)) ∙ agree_cmp a b i v.agree),
          (omega (arith, v.inside, agree_place a b i v.agree (inr (inr (in_b, in_a)))), whole),
        )
