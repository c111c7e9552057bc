-- A rotation against another row, by its two parts: its tail and the front of that row, its head and the rest.
use mathlib.Core.Bool.{false}
use mathlib.Core.List.{List, ◌++◌}
use mathlib.Core.Path.{ap, ap₂, sym, ◌∙◌, ◌≡◌}
use Prim.Native.Nat.{ℕ, ◌-◌, ◌≤◌}
use native.Mathlib.Omega.{arith}
use lib.Dec.{eqb}
use lib.ListN.{drop, length, length-drop, take, take-append-drop}
use lib.Seq.{drop_at, take_at, take_all}
use borrow.Author.Tests.{eq-eqb, eqb-true}
use Rattle.words.proofs.Booleans.{never, same_test}
use Rattle.words.proofs.Difference.{no_difference}
use Rattle.words.proofs.OrderTests.{same→, →same}
use Rattle.words.specs.Difference.{first_difference}
use Rattle.words.specs.Order.{same}
use Rattle.words.specs.Rotation.{rotation}

module _ (w v : List ℕ) (j t : ℕ) (h : j ≤ length w) (l : length v ≡ length w) (z : t ≡ length w - j) where
  tail : take (length w - j) (drop j w) ≡ drop j w
  tail = take_all (length w - j) (drop j w) (omega (arith, length-drop j w))

  rest : take (length v - t) (drop t v) ≡ drop t v
  rest = take_all (length v - t) (drop t v) (omega (arith, length-drop t v))

  size : length (drop j w) ≡ t
  size = omega (arith, length-drop j w)

  front_same : rotation j w ≡ v → drop j w ≡ take t v
  unfolding rotation
  front_same e = sym (ap (take t) (sym e) ∙ take_at (drop j w) (take j w) t size)

  rest_same : rotation j w ≡ v → take j w ≡ drop t v
  unfolding rotation
  rest_same e = sym (ap (drop t) (sym e) ∙ drop_at (drop j w) (take j w) t size)

  both_same : drop j w ≡ take t v → take j w ≡ drop t v → rotation j w ≡ v
  unfolding rotation
  both_same e f = ap₂ (λ x y. x ++ y) e f ∙ take-append-drop t v

  -- the fronts differ at place p
  pub front_differs : (p : ℕ) → p ≡ first_difference (take (length w - j) (drop j w)) (take t v) →
      (p ≡ 0 → ⊥) → false ≡ same (rotation j w) v
  front_differs p d f =
      sym (never (same (rotation j w) v)
      (λ e. f (d ∙ (no_difference (take (length w - j) (drop j w)) (take t v)).1
      (tail ∙ front_same (same→ (rotation j w) v e)))))

  -- they do not: what remains decides
  pub rest_decides : (p q : ℕ) → p ≡ first_difference (take (length w - j) (drop j w)) (take t v) → p ≡ 0
      → q ≡ first_difference (take j w) (take (length v - t) (drop t v)) → eqb q 0 ≡ same (rotation j w) v
  rest_decides p q d f g =
      let front = sym tail ∙ (no_difference (take (length w - j) (drop j w)) (take t v)).0 (sym d ∙ f) in
      let behind = no_difference (take j w) (take (length v - t) (drop t v)) in
      same_test (eqb q 0) (same (rotation j w) v)
      (λ e. →same (rotation j w) v (both_same front (behind.0 (sym g ∙ eqb-true q 0 e) ∙ rest)))
      (λ e. eq-eqb q 0 (g ∙ behind.1 (rest_same (same→ (rotation j w) v e) ∙ sym rest)))
