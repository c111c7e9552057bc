-- What may follow a Lyndon word in a necklace.
use mathlib.Core.List.{List, append_assoc, append-nil, ◌++◌, ◌∷◌}
use mathlib.Core.Logic.{inl, inr, ◌⊎◌}
use mathlib.Core.Path.{ap, subst, sym, ◌∙◌, ◌≡◌}
use Prim.Native.Nat.{Ordering, suc, zero, ℕ, ◌<◌}
use native.Mathlib.Omega.{arith}
use lib.ListN.{length, length-append}
use Rattle.words.proofs.AtMost.{equal, lower, not_both, ≼-append, ≼-nil, ≼_strip, ≼_trans, ◌≼◌}
use Rattle.words.proofs.Below.{Means, cmp_means, is_eq, is_gt, is_less, ≺-append, ≺_irrefl, ◌≺◌}
use Rattle.words.proofs.FirstDifference.{More, ext, ext_left, ≺_cases, ◌≪◌}
use Rattle.words.proofs.Lyndon.{Lyndon, join, join_below, lyndon_size, suffix, suffix_differs}
use Rattle.words.proofs.Power.{power}
use Rattle.words.proofs.PowerOrder.{Necklace, lyndon→necklace, power_necklace}
use Rattle.words.proofs.Root.{Root, root}

-- ---- in a necklace, no rotation of what follows a Lyndon word is below it

module _ (g d e : List ℕ) (l : Lyndon g) (some : 0 < length e) (s : Necklace (g ++ (d ++ e))) where
  -- the rotation that begins at e
  round : (g ++ (d ++ e)) ≼ (e ++ (g ++ d))
  round = s (g ++ d) e (sym (append_assoc g d e))

  -- e is no proper beginning of g
  not_begun : More e g → ⊥
  not_begun m =
      let g' : List ℕ = m.c ∷ m.z in
      let cut : (g' ++ (d ++ e)) ≼ (g ++ d) = ≼_strip e (subst (λ w. w ≼ (e ++ (g ++ d))) (ap (λ w. w ++ (d ++ e)) m.is ∙ append_assoc e g' (d ++ e)) round) in
      not_both (ext (suffix_differs l e g' m.is some (omega arith)) d (d ++ e)) cut

  pub rotation_above : g ≼ (e ++ d)
  rotation_above = go (cmp_means g e)
    where
      below : More e g ⊎ (◌≪◌ e g) → ⊥
      below (inl m) = not_begun m
      below (inr h) = not_both (ext h (g ++ d) (d ++ e)) round

      go : {o : Ordering} → Means ◌≺◌ g e o → g ≼ (e ++ d)
      go (is_less h) = ≼_trans (lower h) (≼-append e d)
      go (is_eq p) = rw (← p) (≼-append g d)
      go (is_gt h) = absurd (below (≺_cases h))

-- ---- a Lyndon word and a necklace not below it

-- a Lyndon word that is not above a power of another is not above that one
pub root_above : {g u : List ℕ} → Lyndon g → Lyndon u → (k : ℕ) → g ≼ power k u → g ≼ u
unfolding power
root_above lg lu zero h = absurd (omega (arith, lyndon_size lg, ≼-nil h))
root_above {g} {u} lg lu (suc k) h = go (root_above lg lu k) (cmp_means g u)
  where
    above : (g ≼ power k u → g ≼ u) → More u g ⊎ (◌≪◌ u g) → g ≼ u
    above ih (inl m) =
        let g' : List ℕ = m.c ∷ m.z in
        let cut : g' ≼ power k u = ≼_strip u (subst (λ w. w ≼ (u ++ power k u)) m.is h) in
        ih (≼_trans (lower (suffix lg u g' m.is (lyndon_size lu) (omega arith))) cut)
    above ih (inr d) = absurd (not_both (ext_left d (power k u)) h)

    go : (g ≼ power k u → g ≼ u) → {o : Ordering} → Means ◌≺◌ g u o → g ≼ u
    go ih (is_less q) = lower q
    go ih (is_eq q) = equal q
    go ih (is_gt q) = above ih (≺_cases q)

-- a Lyndon word and a power of a higher one
pub lyndon_power : {g u : List ℕ} → Lyndon g → Lyndon u → g ≺ u → (k : ℕ) → Lyndon (g ++ power k u)
unfolding power
lyndon_power {g} lg lu h zero = rw append-nil lg
lyndon_power {g} {u} lg lu h (suc k) = rw (← append_assoc g u (power k u)) (lyndon_power (join lg lu h) lu (join_below lg lu h) k)

pub join_necklace : {g v : List ℕ} → Lyndon g → 0 < length v → Necklace v → g ≼ v → Necklace (g ++ v)
unfolding power
join_necklace {g} {v} l p s h = subst (λ w. Necklace (g ++ w)) (sym t.is) (go (root_above l t.lyn (suc t.k) (subst (λ w. g ≼ w) t.is h)))
  where
    t : Root v
    t = root v p s

    go : g ≼ t.u → Necklace (g ++ power (suc t.k) t.u)
    go (equal e) = subst (λ w. Necklace (w ++ power (suc t.k) t.u)) (sym e) (power_necklace t.lyn (suc (suc t.k)))
    go (lower q) = lyndon→necklace (lyndon_power l t.lyn q (suc t.k))

-- copies of g, and then a higher Lyndon word
pub power_lyndon : {g h : List ℕ} → Lyndon g → Lyndon h → g ≺ h → (k : ℕ) → Lyndon (power k g ++ h) × (g ≺ (power k g ++ h))
unfolding power
power_lyndon lg lh q zero = (lh, q)
power_lyndon {g} {h} lg lh q (suc k) =
    let i = power_lyndon lg lh q k in
    let e : g ++ (power k g ++ h) ≡ (g ++ power k g) ++ h = sym (append_assoc g (power k g) h) in
    (subst Lyndon e (join lg i.0 i.1), subst (λ w. g ≺ w) e (≺-append g (power k g ++ h) (omega (arith, length-append (power k g) h, lyndon_size lh))))

-- a Lyndon word and a higher necklace of its length
pub lyndon_above : {g v : List ℕ} → Lyndon g → Necklace v → length g ≡ length v → g ≺ v → Lyndon (g ++ v)
unfolding power
lyndon_above {g} {v} l s e h = subst (λ w. Lyndon (g ++ w)) (sym t.is) (go (root_above l t.lyn (suc t.k) (subst (λ w. g ≼ w) t.is (lower h))))
  where
    t : Root v
    t = root v (omega (arith, lyndon_size l)) s

    -- g = u would be as long as u^(k + 1)
    not_root : (k : ℕ) → v ≡ power (suc k) g → ⊥
    not_root zero f = ≺_irrefl (subst (λ w. g ≺ w) (f ∙ append-nil g) h)
    not_root (suc k) f = omega (arith, e, lyndon_size l, ap length f ∙ length-append g (g ++ power k g), length-append g (power k g))

    go : g ≼ t.u → Lyndon (g ++ power (suc t.k) t.u)
    go (equal f) = absurd (not_root t.k (t.is ∙ ap (power (suc t.k)) (sym f)))
    go (lower q) = lyndon_power l t.lyn q (suc t.k)
