-- A row of a period is a necklace exactly if the period divides its length.
use mathlib.Core.List.{List, [], ◌++◌, ◌∷◌}
use mathlib.Core.Logic.{inl, inr, ◌⊎◌}
use mathlib.Core.Path.{ap, refl, subst, sym, ◌∙◌, ◌≡◌}
use Prim.Native.Nat.{suc, zero, ℕ, ◌%◌, ◌*◌, ◌+◌, ◌/◌, ◌<◌, ◌≤◌}
use native.Mathlib.Nat.{div-add-mod', mul-mod_left}
use native.Mathlib.Omega.{arith}
use lib.ListN.{length, length-append}
use Rattle.words.proofs.AtMost.{not_both, ≼_strip, ◌≼◌}
use Rattle.words.proofs.Below.{le_or}
use Rattle.words.proofs.Cut.{cut}
use Rattle.words.proofs.FirstDifference.{ext_right}
use Rattle.words.proofs.Induction.{strong}
use Rattle.words.proofs.Lyndon.{Lyndon, lyndon_size, suffix_differs}
use Rattle.words.proofs.Power.{power, power_length}
use Rattle.words.proofs.PowerOrder.{Necklace, power_necklace}
use Rattle.words.proofs.Prefixes.{Pre}

-- u s is s z, and |u| divides |s|
pub power_of : (k : ℕ) (u s z : List ℕ) → u ++ s ≡ s ++ z → length s ≡ k * length u → s ≡ power k u
unfolding power
power_of zero u [] z e h = refl
power_of zero u (a ∷ s) z e h = absurd (omega arith)
power_of (suc k) u s z e h =
    let c = cut u s s z e (omega arith) in
    c.left ∙ ap (λ w. u ++ w) (power_of k u c.r z (sym c.left ∙ c.right) (omega (arith, simp length-append at (ap length c.left))))

pub whole_power : {x : List ℕ} {p : ℕ} → Pre x p → length x % p ≡ 0 → Necklace x
unfolding power
whole_power {x} {p} q h = subst Necklace (sym is) (power_necklace q.lyn (length x / p))
  where
    size : length x ≡ (length x / p) * p
    size = omega (arith, div-add-mod' (length x) p)

    long : length q.u + length q.s ≡ length x
    long = omega (arith, simp length-append at (ap length q.front))

    go : (k : ℕ) → length x ≡ k * p → x ≡ power k q.u
    go zero e = absurd (omega (arith, lyndon_size q.lyn, long))
    go (suc k) e = q.front ∙ ap (λ w. q.u ++ w) (power_of k q.u q.s q.z (sym q.front ∙ q.back) (omega (arith, long, q.size, ap (λ t. k * t) q.size)))

    is : x ≡ power (length x / p) q.u
    is = go (length x / p) size

-- u s is s z, and z is not above u: s is a power of u
module _ (u : List ℕ) (l : Lyndon u) (z : List ℕ) (low : z ≼ u) where
  -- s is shorter than u
  short_power : (s r : List ℕ) → u ≡ s ++ r → z ≡ r ++ s → length s < length u → s ≡ []
  short_power [] r e f h = refl
  short_power (a ∷ s) r e f h =
      let d = suffix_differs l (a ∷ s) r e (omega arith) (omega (arith, simp length-append at (ap length e))) in
      absurd (not_both (ext_right d (a ∷ s)) (subst (λ w. w ≼ u) f low))

  pub period_power : (s : List ℕ) → u ++ s ≡ s ++ z → (k : ℕ) × (s ≡ power k u)
  unfolding power
  period_power s e = strong P step (length s) s refl e
    where
      P : ℕ → Type 0
      P n = (s : List ℕ) → length s ≡ n → u ++ s ≡ s ++ z → (k : ℕ) × (s ≡ power k u)

      step : (n : ℕ) → ((m : ℕ) → m < n → P m) → P n
      step n ih s f e = go (le_or (length u) (length s))
        where
          go : (length u ≤ length s) ⊎ (length s < length u) → (k : ℕ) × (s ≡ power k u)
          go (inl h) =
              let c = cut u s s z e h in
              let i = ih (length c.r) (omega (arith, simp length-append at (ap length c.left), lyndon_size l)) c.r refl (sym c.left ∙ c.right) in
              (suc i.0, c.left ∙ ap (λ w. u ++ w) i.1)
          go (inr h) = let c = cut s z u s (sym e) (omega arith) in (0, short_power s c.r c.left c.right h)

pub period-divides : {x : List ℕ} {p : ℕ} → Pre x p → Necklace x → length x % p ≡ 0
period-divides {x} {p} q s =
    let low : q.z ≼ q.u = ≼_strip q.s (subst (λ w. w ≼ (q.s ++ q.u)) q.back (s q.u q.s q.front)) in
    let k = period_power q.u q.lyn q.z low q.s (sym q.front ∙ q.back) in
    let size : length x ≡ suc k.0 * p = omega (arith, simp length-append at (ap length q.front), ap length k.1 ∙ power_length k.0 q.u, q.size, ap (λ t. k.0 * t) q.size) in
    ap (λ t. t % p) size ∙ mul-mod_left (suc k.0) p
