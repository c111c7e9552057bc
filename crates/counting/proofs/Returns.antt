-- All rotations of a row x are above the prenecklace v exactly if x, read against v from one of its ends, comes back to that end. It is one end only.
use mathlib.Core.Bool.{Bool, false, true, true≢false}
use mathlib.Core.List.{List, Memᴰ, [], append_assoc, append-nil, ◌++◌, ◌∷◌}
use mathlib.Core.Logic.{inl, inr, ◌⊎◌}
use mathlib.Core.Path.{ap, refl, subst, sym, ◌∙◌, ◌≡◌}
use Prim.Native.Nat.{ℕ, ◌<◌, ◌≤◌}
use native.Mathlib.Omega.{arith}
use lib.ListN.{drop, length, length-append, take}
use Rattle.counting.proofs.Above.{Later, Under, alive_above, dies, track_end, trim, ≪-more, ≪→≺}
use Rattle.counting.proofs.Prenecklaces.{Prenecklace}
use Rattle.counting.proofs.Reading.{Alive, Both, alive_before, alive_size, apart, ends→, joined, lag, lag_start, one_end, track_append, →ends, ends, track}
use Rattle.counting.proofs.Sums.{delta, delta_differ, delta_same, total_zero}
use Rattle.counting.specs.InnerSums.{flag, total}
use Rattle.words.proofs.AtMost.{≺-≼_trans}
use Rattle.words.proofs.Below.{le_or, ≺_asym, ≺_irrefl, ≺-size, ◌≺◌}
use Rattle.words.proofs.Cut.{cut}
use Rattle.words.proofs.LeastRotation.{least_low}
use Rattle.words.proofs.OrderTests.{lt→, →lt}
use Rattle.words.proofs.RotationAgain.{rotation_self}
use Rattle.words.proofs.Rotations.{rotation-length, rotation_parts, rotation_seam}
use Rattle.words.specs.Order.{lt}
use Rattle.words.specs.Rotation.{IsRotation, least_index, least_rotation, rotation}

-- each rotation of x, by its parts, is above v
abbrev pub AllAbove : List ℕ → List ℕ → Type 0
AllAbove v x = (a c : List ℕ) → x ≡ a ++ c → v ≺ (c ++ a)

-- so is the least rotation, and the other way round
pub least_above : (v x : List ℕ) → AllAbove v x → v ≺ least_rotation x
unfolding least_rotation rotation
least_above v x h = h (take (least_index x) x) (drop (least_index x) x) (rotation_parts (least_index x) x)

-- the two parts of a row, the other way round, are one of its rotations
parts_rotation : (x a c : List ℕ) → 0 < length x → x ≡ a ++ c → IsRotation x (c ++ a)
parts_rotation x a [] p e = subst (IsRotation x) (e ∙ append-nil a) (rotation_self x p)
parts_rotation x a (b ∷ y) p e = record { by = length a; inside = omega (arith, ap length e ∙ length-append a (b ∷ y)); is = sym (ap (rotation (length a)) e ∙ rotation_seam a (b ∷ y)) }

pub above_least : (v x : List ℕ) → v ≺ least_rotation x → AllAbove v x
unfolding least_rotation
above_least v x h a c e =
    let some : 0 < length x = omega (arith, ≺-size h, rotation-length (least_index x) x) in
    ≺-≼_trans h (least_low x some (parts_rotation x a c some e))

module _ (v : List ℕ) (self : Prenecklace v) (x : List ℕ) (long : length x ≡ length v) where
  -- from an end, x leads to where it leads from the whole, if it leads anywhere
  meets : (p r : List ℕ) → v ≡ p ++ r → Alive (track v r x) → track v r x ≡ track v v x
  meets p r e a = go (lag v self x r v (lag_start v p r e) a)
    where
      go : Both v r x (track v r x) (track v v x) → track v r x ≡ track v v x
      go (apart q l) = absurd (omega (arith, alive_size (track v r x) a, simp length-append at (ap length q), simp length-append at (ap length e)))
      go (joined q) = q

  -- ---- it comes back: all rotations are above v

  module _ (a : Alive (track v v x)) (back : track v (track v v x) x ≡ track v v x) where
    twice : Alive (track v v (x ++ x))
    twice e = a (sym back ∙ sym (track_append v v x x) ∙ e)

    returns_above : AllAbove v x
    returns_above b c e = alive_above v (c ++ b) same_size (go (lag v self (c ++ b) s v (lag_start v f.0 s f.1) live))
      where
        s : List ℕ
        s = track v v b

        f : (q : List ℕ) × (v ≡ q ++ track v v b)
        f = track_end v b v [] refl

        same_size : length (c ++ b) ≡ length v
        same_size = omega (arith, long, ap length e ∙ length-append b c, length-append c b)

        round : x ++ x ≡ b ++ ((c ++ b) ++ c)
        round = rw e (simp append_assoc)

        live : Alive (track v s (c ++ b))
        live = alive_before v s (c ++ b) c (λ q. twice (ap (track v v) round ∙ track_append v v b ((c ++ b) ++ c) ∙ q))

        go : Both v s (c ++ b) (track v s (c ++ b)) (track v v (c ++ b)) → Alive (track v v (c ++ b))
        go (apart q l) = absurd (omega (arith, same_size, alive_size _ live, ap length q ∙ length-append (c ++ b) (track v s (c ++ b)), ap length f.1 ∙ length-append f.0 s))
        go (joined q) = λ i. live (q ∙ i)

  -- ---- all rotations are above v: it comes back

  module _ (h : AllAbove v x) where
    some : Alive v
    some e = absurd (omega (arith, ≺-size (h [] x refl), length-append x [], long, ap length e))

    -- no tail of x x begins with v, or is below it
    not_under : (y t : List ℕ) → length y ≡ length v → v ≺ y → Under v (y ++ t) v → ⊥
    not_under y t l k (inl q) = ≺_asym k (≪→≺ (trim y t l q))
    not_under y t l k (inr q) =
        let c = cut y t v q.0 q.1 (omega arith) in
        go c.r c.left
      where
        go : (r : List ℕ) → v ≡ y ++ r → ⊥
        go [] e = ≺_irrefl (subst (λ s. v ≺ s) (sym (e ∙ append-nil y)) k)
        go (d ∷ r) e = omega (arith, ap length e ∙ length-append y (d ∷ r))

    under_more : {w r : List ℕ} (u : List ℕ) → Under v w r → Under v (w ++ u) r
    under_more u (inl q) = inl (≪-more u q)
    under_more {w} {r} u (inr q) = inr (q.0 ++ u, ap (λ s. s ++ u) q.1 ∙ append_assoc r q.0 u)

    no_later : Later v (x ++ x) → ⊥
    no_later l = go (le_or (length l.a) (length x))
      where
        size : (b c : List ℕ) → x ≡ b ++ c → length (c ++ b) ≡ length v
        size b c e = omega (arith, long, ap length e ∙ length-append b c, length-append c b)

        go : (length l.a ≤ length x) ⊎ (length x < length l.a) → ⊥
        go (inl q) =
            let k = cut l.a l.t x x (sym l.is) q in
            let u : l.t ≡ (k.r ++ l.a) ++ k.r = k.right ∙ ap (λ s. k.r ++ s) k.left ∙ sym (append_assoc k.r l.a k.r) in
            not_under (k.r ++ l.a) k.r (size l.a k.r k.left) (h l.a k.r k.left) (subst (λ s. Under v s v) u l.low)
        go (inr q) =
            let k = cut x x l.a l.t l.is (omega arith) in
            let u : Under v ((l.t ++ k.r) ++ []) v = rw append-nil (under_more k.r l.low) in
            not_under (l.t ++ k.r) [] (size k.r l.t k.right) (h k.r l.t k.right) u

    live_twice : Alive (track v v (x ++ x))
    live_twice e = go (dies v some (x ++ x) v some e)
      where
        go : (Under v (x ++ x) v) ⊎ Later v (x ++ x) → ⊥
        go (inl u) = not_under x x long (subst (λ s. v ≺ s) (append-nil x) (h [] x refl)) u
        go (inr l) = no_later l

    above_alive : Alive (track v v x)
    above_alive = alive_before v v x x live_twice

    above_returns : track v (track v v x) x ≡ track v v x
    above_returns =
        let f = track_end v x v [] refl in
        meets f.0 (track v v x) f.1 (λ e. live_twice (track_append v v x x ∙ e))

  -- ---- as a sum over the ends

  pub returns_sum : total (λ r. delta (track v r x) r) (ends v) ≡ flag (lt v (least_rotation x))
  returns_sum = go (lt v (least_rotation x)) refl
    where
      other : (r : List ℕ) → Memᴰ r (ends v) → (r ≡ track v v x → ⊥) → delta (track v r x) r ≡ 0
      other r m d =
          let n = ends→ v r m in
          delta_differ (track v r x) r (λ e. d (sym e ∙ meets n.before r n.whole (λ i. n.alive (sym e ∙ i))))

      go : (b : Bool) → lt v (least_rotation x) ≡ b → total (λ r. delta (track v r x) r) (ends v) ≡ flag b
      go true e =
          let h = above_least v x (lt→ v (least_rotation x) e) in
          let f = track_end v x v [] refl in
          one_end (λ r. delta (track v r x) r) v (track v v x) (→ends f.0 f.1 (above_alive h)) (rw (above_returns h) (delta_same (track v v x))) other
      go false e = total_zero (λ r. delta (track v r x) r) (ends v) (λ r m. delta_differ (track v r x) r (bad r m))
        where
          bad : (r : List ℕ) → Memᴰ r (ends v) → track v r x ≡ r → ⊥
          bad r m q =
              let n = ends→ v r m in
              let i : r ≡ track v v x = sym q ∙ meets n.before r n.whole (λ j. n.alive (sym q ∙ j)) in
              let a : Alive (track v v x) = λ j. n.alive (i ∙ j) in
              let b : track v (track v v x) x ≡ track v v x = subst (λ s. track v s x ≡ s) i q in
              true≢false (sym (→lt v (least_rotation x) (least_above v x (returns_above a b))) ∙ e)
