-- A row against a power of its first symbols: the row against itself, some places on.
use mathlib.Core.List.{List, [], ◌++◌, ◌∷◌}
use mathlib.Core.Path.{ap, ap₂, refl, subst, sym, ◌∙◌, ◌≡◌}
use Prim.Native.Nat.{Ordering, compare, suc, zero, ℕ, ◌*◌, ◌+◌, ◌-◌, ◌/◌, ◌<◌, ◌≤◌}
use native.Mathlib.Nat.{mul-le-mul_left}
use native.Mathlib.Omega.{arith}
use lib.Dec.{is_le}
use lib.ListN.{drop, length, length-drop, take, take-append-drop}
use lib.Seq.{length-take-le, take_all, take-append-add}
use Rattle.counting.proofs.Recursion.{factor_pos}
use Rattle.words.proofs.Below.{Means, cmp_means, cmp_under, is_eq, is_gt, is_less, ◌≺◌}
use Rattle.words.proofs.Power.{power}
use Rattle.words.specs.Order.{cmp, head_first, le, order_of}
use Rattle.std.specs.declared.cmp.Ordering.{Ordering as Answer}
use Rattle.std.proofs.Common.{is_le as at_most}

cmp_parts : (u a x b : List ℕ) → length u ≡ length a → cmp (u ++ x) (a ++ b) ≡ head_first (cmp u a) (cmp x b)
unfolding cmp
cmp_parts [] [] x b l = refl
cmp_parts [] (q ∷ a) x b l = absurd (omega arith)
cmp_parts (p ∷ u) [] x b l = absurd (omega arith)
cmp_parts (p ∷ u) (q ∷ a) x b l = go (compare p q) (cmp_parts u a x b (omega arith))
  where
    go : (o : Ordering) → cmp (u ++ x) (a ++ b) ≡ head_first (cmp u a) (cmp x b) → head_first o (cmp (u ++ x) (a ++ b)) ≡ head_first (head_first o (cmp u a)) (cmp x b)
    go Ordering.lt e = refl
    go Ordering.eq e = e
    go Ordering.gt e = refl

pub power_cmp : (k : ℕ) (u r : List ℕ) → length r ≡ k * length u → cmp (power k u) r ≡ cmp (take (length r) (u ++ r)) r
unfolding power
power_cmp zero u [] l = refl
power_cmp zero u (x ∷ r) l = absurd (omega arith)
power_cmp (suc k) u r l =
    let a = take (length u) r in
    let b = drop (length u) r in
    let fits : length u ≤ length r = omega arith in
    let whole : a ++ b ≡ r = take-append-drop (length u) r in
    let size-a : length u ≡ length a = sym (length-take-le (length u) r fits) in
    let size-b : length b ≡ k * length u = length-drop (length u) r ∙ omega arith in
    let size-r : length r ≡ length u + length b = omega arith in
    let left : cmp (u ++ power k u) r ≡ head_first (cmp u a) (cmp (power k u) b) = ap (cmp (u ++ power k u)) (sym whole) ∙ cmp_parts u a (power k u) b size-a in
    let front : take (length r) (u ++ r) ≡ u ++ take (length b) r = ap (λ n. take n (u ++ r)) size-r ∙ take-append-add u r (length b) in
    let right : cmp (take (length r) (u ++ r)) r ≡ head_first (cmp u a) (cmp (take (length b) (a ++ b)) b) =
    ap₂ cmp (front ∙ ap (λ s. u ++ take (length b) s) (sym whole)) (sym whole) ∙ cmp_parts u a (take (length b) (a ++ b)) b size-a in
    left ∙ go a b (power_cmp k u b size-b) (cmp_means u a) ∙ sym right
  where
    go : (a b : List ℕ) → cmp (power k u) b ≡ cmp (take (length b) (u ++ b)) b → {o : Ordering} → Means ◌≺◌ u a o → head_first o (cmp (power k u) b) ≡ head_first o (cmp (take (length b) (a ++ b)) b)
    go a b ih (is_less h) = refl
    go a b ih (is_eq e) = subst (λ t. cmp (power k u) b ≡ cmp (take (length b) (t ++ b)) b) e ih
    go a b ih (is_gt h) = refl

pub power_test : (w : List ℕ) (m : ℕ) → 0 < length w → m * (length w / m) ≡ length w → le (power (length w / m) (take m w)) w ≡ is_le (cmp (take (length w - m) w) (take (length w - m) (drop m w)))
unfolding le power
power_test w m p h = go (length w / m) (factor_pos m (length w / m) (length w) p h) h
  where
    go : (q : ℕ) → 0 < q → m * q ≡ length w → is_le (cmp (power q (take m w)) w) ≡ is_le (cmp (take (length w - m) w) (take (length w - m) (drop m w)))
    go zero z e = absurd (omega arith)
    go (suc j) z e =
        let v = take m w in
        let r = drop m w in
        let whole : v ++ r ≡ w = take-append-drop m w in
        let fits : m ≤ length w = omega (arith, mul-le-mul_left m z) in
        let size-v : length v ≡ m = length-take-le m w fits in
        let size-r : length r ≡ length w - m = length-drop m w in
        let all : take (length w - m) r ≡ r = take_all (length w - m) r (omega arith) in
        let times : length r ≡ j * length v = rw size-v (omega arith) in
        ap is_le
        (ap (cmp (v ++ power j v)) (sym whole)
        ∙ cmp_under v (power j v) r
        ∙ power_cmp j v r times
        ∙ ap₂ cmp (ap (λ n. take n (v ++ r)) size-r ∙ ap (take (length w - m)) whole) (sym all))

-- ---- the answer of the comparison

abbrev pub shifted : List ℕ → ℕ → Ordering
shifted w m = cmp (take (length w - m) w) (take (length w - m) (drop m w))

at_most_told : (o : Ordering) → at_most (order_of o) ≡ is_le o
at_most_told Ordering.lt = refl
at_most_told Ordering.eq = refl
at_most_told Ordering.gt = refl

pub shifted_at_most : (w : List ℕ) (m : ℕ) → 0 < length w → m * (length w / m) ≡ length w
    → {a : Answer} → a ≡ order_of (shifted w m) → at_most a ≡ le (power (length w / m) (take m w)) w
shifted_at_most w m p h e = ap at_most e ∙ at_most_told (shifted w m) ∙ sym (power_test w m p h)
