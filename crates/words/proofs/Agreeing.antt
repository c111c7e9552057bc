-- Rows whose first symbols agree: what follows them decides.
use mathlib.Core.List.{List, [], ◌++◌, ◌∷◌}
use mathlib.Core.Logic.{inl, inr}
use mathlib.Core.Path.{ap, ap₂, refl, sym, ◌∙◌, ◌≡◌}
use Prim.Native.Nat.{Ordering, compare, suc, zero, ℕ, ◌+◌, ◌<◌, ◌≤◌}
use native.Mathlib.Nat.{suc-add, zero-add}
use native.Mathlib.Omega.{arith}
use lib.ListN.{drop, get_or, length, length-drop, take, take-append-drop}
use lib.Seq.{ext_get_or, get_or-drop, get_or-take, length-take-le, take-add, take_all, take-nil, take-take}
use Rattle.words.proofs.Below.{cmp_under}
use Rattle.words.proofs.Difference.{difference_place, no_difference, one_place}
use Rattle.words.specs.Claims.{Apart, FirstApart}
use Rattle.words.specs.Difference.{first_difference}
use Rattle.words.specs.Order.{cmp, head_first}

pub drop-take : (m n : ℕ) (w : List ℕ) → drop m (take (m + n) w) ≡ take n (drop m w)
drop-take zero n w = rw zero-add
drop-take (suc m) n [] = rw suc-add (sym (take-nil n))
drop-take (suc m) n (x ∷ w) = rw suc-add (drop-take m n w)

-- ---- fewer symbols, and the parts of those that agree

module _ (a b : List ℕ) where
  pub agree_fewer : (m n : ℕ) → m ≤ n → take n a ≡ take n b → take m a ≡ take m b
  agree_fewer m n h e = sym (take-take m n a h) ∙ ap (λ w. take m w) e ∙ take-take m n b h

  pub agree_behind : (m n : ℕ) → take (m + n) a ≡ take (m + n) b → take n (drop m a) ≡ take n (drop m b)
  agree_behind m n e = sym (drop-take m n a) ∙ ap (λ w. drop m w) e ∙ drop-take m n b

  -- a part that holds a difference
  pub part_apart : (m n k : ℕ) → k < n → (get_or a (m + k) 0 ≡ get_or b (m + k) 0 → ⊥) → take n (drop m a) ≡ take n (drop m b) → ⊥
  part_apart m n k h f e = f (sym (symbol a) ∙ ap (λ w. get_or w k 0) e ∙ symbol b)
    where
      symbol : (w : List ℕ) → get_or (take n (drop m w)) k 0 ≡ get_or w (m + k) 0
      symbol w = get_or-take n (drop m w) k 0 h ∙ get_or-drop m w k 0

  -- the first i agree, and so do the n behind them
  pub agree_more : (i n : ℕ) → i + n ≤ length a → i + n ≤ length b → take i a ≡ take i b → ((k : ℕ) → k < n → get_or a (i + k) 0 ≡ get_or b (i + k) 0)
      → take (i + n) a ≡ take (i + n) b
  agree_more i n ha hb e f = take-add i n a ∙ ap₂ (λ u v. u ++ v) e (ext_get_or 0 _ _ (long a ha ∙ sym (long b hb)) (λ k l. symbol k (omega (arith, long a ha)))) ∙ sym (take-add i n b)
    where
      long : (w : List ℕ) → i + n ≤ length w → length (take n (drop i w)) ≡ n
      long w h = length-take-le n (drop i w) (omega (arith, length-drop i w))

      symbol : (k : ℕ) → k < n → get_or (take n (drop i a)) k 0 ≡ get_or (take n (drop i b)) k 0
      symbol k l = get_or-take n (drop i a) k 0 l ∙ get_or-drop i a k 0 ∙ f k l ∙ sym (get_or-drop i b k 0) ∙ sym (get_or-take n (drop i b) k 0 l)

-- ---- what the comparison tells

-- by the first m symbols, then by what follows them
pub cmp_parts : (m : ℕ) (a b : List ℕ) → m ≤ length a → m ≤ length b → cmp a b ≡ head_first (cmp (take m a) (take m b)) (cmp (drop m a) (drop m b))
unfolding cmp
cmp_parts zero a b h l = refl
cmp_parts (suc m) [] b h l = absurd (omega arith)
cmp_parts (suc m) (x ∷ a) [] h l = absurd (omega arith)
cmp_parts (suc m) (x ∷ a) (y ∷ b) h l = go (compare x y) (cmp_parts m a b (omega arith) (omega arith))
  where
    go : (o : Ordering) → cmp a b ≡ head_first (cmp (take m a) (take m b)) (cmp (drop m a) (drop m b))
        → head_first o (cmp a b) ≡ head_first (head_first o (cmp (take m a) (take m b))) (cmp (drop m a) (drop m b))
    go Ordering.lt e = refl
    go Ordering.eq e = e
    go Ordering.gt e = refl

module _ (a b : List ℕ) (i : ℕ) (e : take i a ≡ take i b) where
  pub agree_cmp : cmp (drop i a) (drop i b) ≡ cmp a b
  agree_cmp =
      sym (cmp_under (take i a) (drop i a) (drop i b)) ∙ ap₂ cmp (take-append-drop i a) (ap (λ w. w ++ drop i b) e ∙ take-append-drop i b)

  pub agree_place : Apart a b i → i + 1 ≡ first_difference a b
  agree_place h = omega (arith, one_place a b (suc i) (record { before = i; place = refl; agree = e; apart = h }))

  pub agree_ended : length a ≤ i → length b ≤ i → a ≡ b
  agree_ended ha hb = sym (take_all i a ha) ∙ e ∙ take_all i b hb

-- the first i symbols agree, and the next, of both rows, do not
pub record Parting (a b : List ℕ) (i : ℕ) : Type 0 where
  pub agree : take i a ≡ take i b
  pub here : get_or a i 0 ≡ get_or b i 0 → ⊥

-- the place tells
pub parting_at : (a b : List ℕ) (i : ℕ) → first_difference a b ≡ suc i → i < length a → i < length b → Parting a b i
parting_at a b i e ha hb = go (difference_place a b (λ q. omega (arith, (no_difference a b).1 q)))
  where
    go : FirstApart a b (first_difference a b) → Parting a b i
    go f = record { agree = rw same f.agree; here = here f.apart }
      where
        same : i ≡ f.before
        same = omega (arith, f.place)

        here : Apart a b f.before → get_or a i 0 ≡ get_or b i 0 → ⊥
        here (inl h) = rw same h.2
        here (inr (inl h)) = absurd (omega (arith, h.0))
        here (inr (inr h)) = absurd (omega (arith, h.0))
