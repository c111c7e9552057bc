-- How many pairs are compared of two rows, by the place where they first differ.
use mathlib.Core.Bool.{false}
use mathlib.Core.List.{List}
use mathlib.Core.Path.{ap, refl, sym, ◌∙◌, ◌≡◌}
use Prim.Native.Nat.{suc, zero, ℕ, ◌%◌, ◌*◌, ◌+◌, ◌/◌, ◌<◌}
use native.Mathlib.Nat.{zero-add, zero-mul}
use native.Mathlib.Omega.{arith}
use lib.ListN.{drop, get_or, take}
use lib.Seq.{drop-drop, get_or-drop}
use Rattle.words.proofs.Agreeing.{agree_behind, agree_fewer, part_apart, parting_at}
use Rattle.words.proofs.Booleans.{never}
use Rattle.words.proofs.OrderTests.{same→, →same}
use Rattle.words.specs.Claims.{AllPairs, BytePairs, WordPairs}
use Rattle.words.specs.Order.{same}
use Rattle.words.specs.Pairs.{cut, pairs, shorter_length, up_to_unequal}

apart : (a b : List ℕ) → (a ≡ b → ⊥) → same a b ≡ false
apart a b n = never (same a b) (λ e. n (same→ a b e))

-- ---- pieces of any size

module _ (size : ℕ) where
  -- k pairs are equal, and the next is not
  cut_unequal : (count k : ℕ) (a b : List ℕ) → k < count → take (k * size) a ≡ take (k * size) b
      → (take size (drop (k * size) a) ≡ take size (drop (k * size) b) → ⊥) → up_to_unequal (cut count size a) (cut count size b) ≡ suc k
  unfolding up_to_unequal cut
  cut_unequal zero k a b h e n = absurd (omega arith)
  cut_unequal (suc count) zero a b h e n = rw (apart (take size a) (take size b) (rw zero-mul at n))
  cut_unequal (suc count) (suc k) a b h e n =
      let s : suc k * size ≡ size + k * size = omega arith in
      let f : take (size + k * size) a ≡ take (size + k * size) b = rw s at e in
      let behind : (w : List ℕ) → drop (suc k * size) w ≡ drop (k * size) (drop size w) = λ w. ap (λ m. drop m w) s ∙ sym (drop-drop (k * size) size w) in
      rw (→same (take size a) (take size b) (agree_fewer a b size (size + k * size) (omega arith) f))
      (ap suc (cut_unequal count k (drop size a) (drop size b) (omega arith) (agree_behind a b size (k * size) f)
      (λ q. n (ap (λ w. take size w) (behind a) ∙ q ∙ sym (ap (λ w. take size w) (behind b))))))

  -- all pairs are equal
  cut_equal : (count : ℕ) (a b : List ℕ) → take (count * size) a ≡ take (count * size) b → up_to_unequal (cut count size a) (cut count size b) ≡ count
  unfolding up_to_unequal cut
  cut_equal zero a b e = refl
  cut_equal (suc count) a b e =
      let s : suc count * size ≡ size + count * size = omega arith in
      let f : take (size + count * size) a ≡ take (size + count * size) b = rw s at e in
      rw (→same (take size a) (take size b) (agree_fewer a b size (size + count * size) (omega arith) f))
      (ap suc (cut_equal count (drop size a) (drop size b) (agree_behind a b size (count * size) f)))

-- ---- words, then bytes

pub word_pairs : WordPairs
unfolding pairs
word_pairs a b i e h =
    let p = parting_at a b i e (omega arith) (omega arith) in
    let n = shorter_length a b in
    let k = i / 8 in
    let r : k * 8 + i % 8 ≡ i = omega arith in
    let here : get_or a (k * 8 + i % 8) 0 ≡ get_or b (k * 8 + i % 8) 0 → ⊥ = rw r p.here in
    rw (apart (take (n / 8 * 8) a) (take (n / 8 * 8) b) (part_apart a b 0 (n / 8 * 8) i h (rw zero-add p.here)))
    (cut_unequal 8 (n / 8) k a b (omega arith) (agree_fewer a b (k * 8) i (omega arith) p.agree) (part_apart a b (k * 8) 8 (i % 8) (omega arith) here))

pub byte_pairs : BytePairs
unfolding pairs
byte_pairs a b i e h l =
    let p = parting_at a b i e (omega arith) (omega arith) in
    let n = shorter_length a b in
    let m = n / 8 * 8 in
    let r : m + i % 8 * 1 ≡ i = omega arith in
    let behind : (w : List ℕ) → get_or (drop m w) (i % 8 * 1 + 0) 0 ≡ get_or w i 0 = λ w. get_or-drop m w (i % 8 * 1 + 0) 0 ∙ ap (λ k. get_or w k 0) (omega arith) in
    let here = part_apart (drop m a) (drop m b) (i % 8 * 1) 1 0 (omega arith) (λ q. p.here (sym (behind a) ∙ q ∙ behind b)) in
    rw (→same (take m a) (take m b) (agree_fewer a b m i h p.agree))
    (ap (λ k. n / 8 + k) (cut_unequal 1 (n % 8) (i % 8) (drop m a) (drop m b) (omega arith) (agree_behind a b m (i % 8 * 1) (rw r p.agree)) here))

pub all_pairs : AllPairs
unfolding pairs
all_pairs a b e =
    let n = shorter_length a b in
    let m = n / 8 * 8 in
    let r : m + n % 8 * 1 ≡ n = omega arith in
    rw (→same (take m a) (take m b) (agree_fewer a b m n (omega arith) e)) (ap (λ k. n / 8 + k) (cut_equal 1 (n % 8) (drop m a) (drop m b) (agree_behind a b m (n % 8 * 1) (rw r e))))
