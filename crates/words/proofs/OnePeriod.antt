-- The period that one pass finds: what it says of the powers, and that there is one only.
use mathlib.Core.List.{List, append_assoc, append-nil, ◌++◌, ◌∷◌}
use mathlib.Core.Logic.{inl, inr, ◌↔◌, ◌⊎◌}
use mathlib.Core.Path.{ap, refl, subst, sym, ◌∙◌, ◌≡◌}
use Prim.Native.Nat.{suc, zero, ℕ, ◌+◌, ◌<◌, ◌≤◌}
use native.Mathlib.Nat.{eq-or-lt_of_le}
use native.Mathlib.Omega.{arith}
use lib.ListN.{length, length-append}
use Rattle.words.proofs.AtMost.{not_both, ≼-append, ◌≼◌}
use Rattle.words.proofs.Below.{le_or}
use Rattle.words.proofs.Cut.{cut}
use Rattle.words.proofs.Induction.{strong}
use Rattle.words.proofs.Lyndon.{Lyndon, lyndon_size, suffix}
use Rattle.words.proofs.Power.{power, power_snoc}
use Rattle.words.proofs.PowerOrder.{Necklace, power_necklace}
use Rattle.words.proofs.Prefixes.{Pre}
use Rattle.words.proofs.ScanMeaning.{Scanned, has_period, no_necklace, scan_is}
use Rattle.words.specs.InnerScan.{Scan, barred, periodic, scan}
use Rattle.words.proofs.Booleans.{clash}

periodic≢barred : {p : ℕ} → periodic p ≡ barred → ⊥
periodic≢barred e = clash (cc)

-- a begins a power of the Lyndon word u
pub pre_of_power : {u : List ℕ} → Lyndon u → (k : ℕ) (a z : List ℕ) → power k u ≡ a ++ z → length u ≤ length a → Pre a (length u)
unfolding power
pre_of_power {u} l zero a z e h = absurd (omega (arith, simp length-append at (ap length e), lyndon_size l))
pre_of_power {u} l (suc k) a z e h =
    let c = cut u (power k u) a z e h in
    let turned : c.r ++ (z ++ u) ≡ a ++ z = sym (append_assoc c.r z u) ∙ ap (λ w. w ++ u) (sym c.right) ∙ sym (power_snoc k u) ∙ e in
    let t = cut c.r (z ++ u) a z turned (omega (arith, simp length-append at (ap length c.left))) in
    record { u = u; s = c.r; z = t.r; lyn = l; size = refl; front = c.left; back = t.left }

-- and the other way round
pub record Power (u a : List ℕ) : Type 0 where
  pub k : ℕ
  pub z : List ℕ
  pub is : power k u ≡ a ++ z

pub behind_power : (u s z : List ℕ) → 0 < length u → u ++ s ≡ s ++ z → Power u s
unfolding power
behind_power u s z p e = strong P step (length s) s refl e
  where
    P : ℕ → Type 0
    P n = (s : List ℕ) → length s ≡ n → u ++ s ≡ s ++ z → Power u s

    step : (n : ℕ) → ((m : ℕ) → m < n → P m) → P n
    step n ih s f e = go (le_or (length u) (length s))
      where
        go : (length u ≤ length s) ⊎ (length s < length u) → Power u s
        go (inl h) =
            let c = cut u s s z e h in
            let i = ih (length c.r) (omega (arith, simp length-append at (ap length c.left))) c.r refl (sym c.left ∙ c.right) in
            record { k = suc i.k; z = i.z; is = ap (λ w. u ++ w) i.is ∙ sym (append_assoc u c.r i.z) ∙ ap (λ w. w ++ i.z) (sym c.left) }
        go (inr h) = let c = cut s z u s (sym e) (omega arith) in record { k = 1; z = c.r; is = append-nil u ∙ c.left }

pub power_of_pre : {a : List ℕ} {p : ℕ} (q : Pre a p) → Power q.u a
unfolding power
power_of_pre {a} q =
    let t = behind_power q.u q.s q.z (lyndon_size q.lyn) (sym q.front ∙ q.back) in
    record { k = suc t.k; z = t.z; is = ap (λ w. q.u ++ w) t.is ∙ sym (append_assoc q.u q.s t.z) ∙ ap (λ w. w ++ t.z) (sym q.front) }

-- where one pass finds a period, the row begins a necklace
pub pre_begins : {a : List ℕ} {p : ℕ} → Pre a p → (r : List ℕ) × Necklace (a ++ r)
pre_begins q = let t = power_of_pre q in (t.z, subst Necklace t.is (power_necklace q.lyn t.k))

-- what the pass finds, both ways
pub scan-nothing : (b : ℕ) (bs : List ℕ) → (scan (b ∷ bs) ≡ barred) ↔ ((r : List ℕ) → Necklace ((b ∷ bs) ++ r) → ⊥)
scan-nothing b bs = go (scan_is b bs)
  where
    go : {o : Scan} → Scanned (b ∷ bs) o → (o ≡ barred) ↔ ((r : List ℕ) → Necklace ((b ∷ bs) ++ r) → ⊥)
    go (no_necklace f) = (λ e. f, λ g. refl)
    go (has_period q) = (λ e. absurd (periodic≢barred e), λ g. absurd (let t = pre_begins q in g t.0 t.1))

-- ---- there is one period only: a longer Lyndon word at the front would have a border

not_longer : {a : List ℕ} {p q : ℕ} → Pre a p → Pre a q → p < q → ⊥
not_longer s t h =
    let c = cut s.u s.s t.u t.s (sym s.front ∙ t.front) (omega (arith, s.size, t.size)) in
    let again : c.r ++ (t.s ++ s.z) ≡ t.u ++ t.s = sym (append_assoc c.r t.s s.z) ∙ ap (λ w. w ++ s.z) (sym c.right) ∙ sym s.back ∙ t.front in
    let size : length t.u ≡ length s.u + length c.r = ap length c.left ∙ length-append s.u c.r in
    let border = cut c.r (t.s ++ s.z) t.u t.s again (omega (arith, size)) in
    not_both (suffix t.lyn s.u c.r c.left (lyndon_size s.lyn) (omega (arith, size, s.size, t.size))) (subst (λ w. c.r ≼ w) (sym border.left) (≼-append c.r border.r))

pub one_period : {a : List ℕ} {p q : ℕ} → Pre a p → Pre a q → p ≡ q
one_period {a} {p} {q} s t = go (le_or p q)
  where
    equal_or : (p ≡ q) ⊎ (p < q) → p ≡ q
    equal_or (inl e) = e
    equal_or (inr h) = absurd (not_longer s t h)

    go : (p ≤ q) ⊎ (q < p) → p ≡ q
    go (inl h) = equal_or (eq-or-lt_of_le h)
    go (inr h) = absurd (not_longer t s h)
