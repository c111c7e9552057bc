-- Prefixes of the powers of a Lyndon word, one symbol longer.
use mathlib.Core.List.{List, [], append_assoc, append-nil, ◌++◌, ◌∷◌}
use mathlib.Core.Logic.{inl, inr, ◌⊎◌}
use mathlib.Core.Path.{ap, refl, subst, sym, ◌∙◌, ◌≡◌}
use Prim.Native.Nat.{ℕ, ◌-◌, ◌<◌, ◌≤◌}
use native.Mathlib.Omega.{arith}
use lib.ListN.{get_or, length, length-append}
use lib.Seq.{get_or_at}
use Rattle.words.proofs.AtMost.{not_both, ≼_strip, ◌≼◌}
use Rattle.words.proofs.Below.{here, le_or, ≺-append, ≺_under, ◌≺◌}
use Rattle.words.proofs.Cut.{cut}
use Rattle.words.proofs.FirstDifference.{raise_symbol}
use Rattle.words.proofs.Induction.{strong}
use Rattle.words.proofs.Lyndon.{BySuffixes, Lyndon, join, lyndon_of, lyndon_size, suffix}
use Rattle.words.proofs.PowerOrder.{Necklace}
use Rattle.words.specs.InnerScan.{next, ◌▹◌}

-- The first p symbols of a are a Lyndon word u, and a begins u u u ..: behind its first u, it begins as it does at the front.
pub record Pre (a : List ℕ) (p : ℕ) : Type 0 where
  pub u : List ℕ
  pub s : List ℕ
  pub z : List ℕ
  pub lyn : Lyndon u
  pub size : length u ≡ p
  pub front : a ≡ u ++ s
  pub back : a ≡ s ++ z

-- a row of one symbol
pub pre_one : (b : ℕ) → Pre (b ∷ []) 1
pre_one b = record { u = b ∷ []; s = []; z = b ∷ []; lyn = lyndon_of (b ∷ []) (omega arith) one; size = refl; front = refl; back = refl }
  where
    one : BySuffixes (b ∷ [])
    one a x c y e = absurd (omega (arith, simp length-append at (ap length e)))

-- a Lyndon word
pub pre_lyndon : {a : List ℕ} → Lyndon a → Pre a (length a)
pre_lyndon {a} l = record { u = a; s = []; z = a; lyn = l; size = refl; front = sym (append-nil a); back = refl }

-- ---- the symbol that goes on with the period

pub record Next {a : List ℕ} {p : ℕ} (q : Pre a p) : Type 0 where
  pub rest : List ℕ
  pub is : q.z ≡ next p a ∷ rest

pub next_is : {a : List ℕ} {p : ℕ} (q : Pre a p) → Next q
unfolding next
next_is {a} {p} q = go q.z refl
  where
    same : length q.z ≡ p
    same = omega (arith, q.size, simp length-append at (ap length (sym q.front ∙ q.back)))

    place : length q.s ≡ length a - p
    place = omega (arith, q.size, simp length-append at (ap length q.front))

    go : (z : List ℕ) → q.z ≡ z → Next q
    go [] e = absurd (omega (arith, same, ap length e, q.size, lyndon_size q.lyn))
    go (c ∷ z) e =
        let at : get_or a (length a - p) 0 ≡ c = ap (λ r. get_or r (length a - p) 0) (q.back ∙ ap (λ r. q.s ++ r) e) ∙ get_or_at q.s c z 0 (length a - p) place in
        record { rest = z; is = e ∙ ap (λ r. r ∷ z) (sym at) }

-- ---- the period goes on

pub goes_on : {a : List ℕ} {p : ℕ} → Pre a p → Pre (a ▹ next p a) p
goes_on {a} {p} q = record {
  u = q.u;
  s = q.s ▹ c;
  z = n.rest ▹ c;
  lyn = q.lyn;
  size = q.size;
  front = ap (λ r. r ▹ c) q.front ∙ append_assoc q.u q.s (c ∷ []);
  back = ap (λ r. r ▹ c) (q.back ∙ ap (λ r. q.s ++ r) n.is) ∙ simp append_assoc;
}
  where
    c : ℕ
    c = next p a

    n : Next q
    n = next_is q

-- ---- a higher symbol makes a Lyndon word

-- a beginning of a Lyndon word, and then a higher symbol
pub raised : {u : List ℕ} → Lyndon u → (v : List ℕ) (c : ℕ) (z : List ℕ) → u ≡ v ++ (c ∷ z) → (b : ℕ) → c < b → Lyndon (v ▹ b)
raised {u} l v c z e b h = lyndon_of (v ▹ b) (simp length-append (omega arith)) least
  where
    least : BySuffixes (v ▹ b)
    least a x d y f =
        let k = cut (a ∷ x) (d ∷ y) v (b ∷ []) (sym f) (omega (arith, simp length-append at (ap length f))) in
        let whole : u ≡ (a ∷ x) ++ (k.r ++ (c ∷ z)) = e ∙ ap (λ r. r ++ (c ∷ z)) k.left ∙ append_assoc (a ∷ x) k.r (c ∷ z) in
        let low : (v ++ (c ∷ z)) ≺ (k.r ++ (c ∷ z)) = subst (λ r. r ≺ (k.r ++ (c ∷ z))) e (suffix l (a ∷ x) (k.r ++ (c ∷ z)) whole (omega arith) (simp length-append (omega arith))) in
        rw k.right (raise_symbol v (c ∷ z) k.r z c low (omega (arith, simp length-append at (ap length k.left))) b h (b ∷ []) [])

-- behind a Lyndon word u: a beginning of u u u .., and then a higher symbol, is a Lyndon word above u
module _ (u : List ℕ) (l : Lyndon u) (b : ℕ) where
  abbrev Above : List ℕ → Type 0
  Above s = Lyndon (s ▹ b) × (u ≺ (s ▹ b))

  -- it is shorter than u
  above_short : (s : List ℕ) (c : ℕ) (z r : List ℕ) → u ≡ s ++ r → (c ∷ z) ≡ r ++ s → length s < length u → c < b → Above s
  above_short s c z [] e f h k = absurd (omega (arith, simp length-append at (ap length e)))
  above_short s c z (d ∷ r) e f h k =
      let same : c ≡ d = cc in
      let m : d < b = omega arith in
      (raised l s d r e b m, subst (λ w. w ≺ (s ▹ b)) (sym e) (≺_under s (here m)))

  above : (s z : List ℕ) (c : ℕ) → u ++ s ≡ s ++ (c ∷ z) → c < b → Above s
  above s z c e k = strong P step (length s) s refl e
    where
      P : ℕ → Type 0
      P n = (s : List ℕ) → length s ≡ n → u ++ s ≡ s ++ (c ∷ z) → Above s

      step : (n : ℕ) → ((m : ℕ) → m < n → P m) → P n
      step n ih s f e = go (le_or (length u) (length s))
        where
          go : (length u ≤ length s) ⊎ (length s < length u) → Above s
          go (inl h) =
              let t = cut u s s (c ∷ z) e h in
              let i = ih (length t.r) (omega (arith, simp length-append at (ap length t.left), lyndon_size l)) t.r refl (sym t.left ∙ t.right) in
              let same : u ++ (t.r ▹ b) ≡ s ▹ b = sym (append_assoc u t.r (b ∷ [])) ∙ ap (λ w. w ▹ b) (sym t.left) in
              (subst Lyndon same (join l i.0 i.1), subst (λ w. u ≺ w) same (≺-append u (t.r ▹ b) (simp length-append (omega arith))))
          go (inr h) = let t = cut s (c ∷ z) u s (sym e) (omega arith) in above_short s c z t.r t.left t.right h k

pub leaves : {a : List ℕ} {p : ℕ} → Pre a p → (b : ℕ) → next p a < b → Lyndon (a ▹ b)
leaves {a} {p} q b h = subst Lyndon same (join q.lyn i.0 i.1)
  where
    n : Next q
    n = next_is q

    i : Above q.u q.lyn b q.s
    i = above q.u q.lyn b q.s n.rest (next p a) (sym q.front ∙ q.back ∙ ap (λ r. q.s ++ r) n.is) h

    same : q.u ++ (q.s ▹ b) ≡ a ▹ b
    same = sym (append_assoc q.u q.s (b ∷ [])) ∙ ap (λ r. r ▹ b) (sym q.front)

-- ---- a lower symbol begins no necklace

pub falls : {a : List ℕ} {p : ℕ} → Pre a p → (b : ℕ) → b < next p a → (r : List ℕ) → Necklace (a ++ (b ∷ r)) → ⊥
falls {a} {p} q b h r s = not_both (here h) (≼_strip q.s (subst (λ w. w ≼ (q.s ++ (b ∷ (r ++ q.u)))) whole round))
  where
    n : Next q
    n = next_is q

    front : a ++ (b ∷ r) ≡ q.u ++ (q.s ++ (b ∷ r))
    front = ap (λ w. w ++ (b ∷ r)) q.front ∙ append_assoc q.u q.s (b ∷ r)

    round : (a ++ (b ∷ r)) ≼ (q.s ++ (b ∷ (r ++ q.u)))
    round = rw append_assoc at (s q.u (q.s ++ (b ∷ r)) front)

    whole : a ++ (b ∷ r) ≡ q.s ++ (next p a ∷ (n.rest ++ (b ∷ r)))
    whole = ap (λ w. w ++ (b ∷ r)) (q.back ∙ ap (λ w. q.s ++ w) n.is) ∙ append_assoc q.s (next p a ∷ n.rest) (b ∷ r)
