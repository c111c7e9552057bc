-- The four answers, by the two tests.
use mathlib.Core.Bool.{Bool, false, true, true≢false}
use mathlib.Core.Logic.{inl, inr, ◌↔◌, ◌⊎◌}
use mathlib.Core.Path.{refl, sym, ◌≡◌}
use lib.IntN.{ℤ}
use Rattle.coated.specs.Fitting.{Way, both, different, fit_by, over, turning}
use Rattle.words.proofs.Booleans.{clash}

-- "different" exactly where both fail
pub different_iff : (x y : Bool) (s t : ℤ) → ((fit_by x y s t).way ≡ different → ⊥) ↔ ((x ≡ true) ⊎ (y ≡ true))
different_iff false false s t = (λ f. absurd (f refl), λ e q. neither_true e)
  where
    neither_true : (false ≡ true) ⊎ (false ≡ true) → ⊥
    neither_true (inl e) = true≢false (sym e)
    neither_true (inr e) = true≢false (sym e)
different_iff true false s t = (λ f. inl refl, λ e q. clash (cc))
different_iff false true s t = (λ f. inr refl, λ e q. clash (cc))
different_iff true true s t = (λ f. inl refl, λ e q. clash (cc))

pub is_different : (w : Way) → ((w ≡ different → ⊥) → ⊥) → w ≡ different
is_different different f = refl
is_different turning f = absurd (f (λ e. clash (cc)))
is_different over f = absurd (f (λ e. clash (cc)))
is_different both f = absurd (f (λ e. clash (cc)))

-- two ways that are no third
neither : (u v w : Way) → (w ≡ u → ⊥) → (w ≡ v → ⊥) → {A : Type 0} → (w ≡ u) ⊎ (w ≡ v) → A
neither u v w f g (inl e) = absurd (f e)
neither u v w f g (inr e) = absurd (g e)

pub turning_iff : (x y : Bool) (s t : ℤ) → (((fit_by x y s t).way ≡ turning) ⊎ ((fit_by x y s t).way ≡ both)) ↔ (x ≡ true)
turning_iff false false s t =
    (neither turning both different (λ e. clash (cc)) (λ e. clash (cc)), λ e. absurd (true≢false (sym e)))
turning_iff false true s t =
    (neither turning both over (λ e. clash (cc)) (λ e. clash (cc)), λ e. absurd (true≢false (sym e)))
turning_iff true false s t = (λ e. refl, λ e. inl refl)
turning_iff true true s t = (λ e. refl, λ e. inr refl)

pub over_iff : (x y : Bool) (s t : ℤ) → (((fit_by x y s t).way ≡ over) ⊎ ((fit_by x y s t).way ≡ both)) ↔ (y ≡ true)
over_iff false false s t =
    (neither over both different (λ e. clash (cc)) (λ e. clash (cc)), λ e. absurd (true≢false (sym e)))
over_iff true false s t =
    (neither over both turning (λ e. clash (cc)) (λ e. clash (cc)), λ e. absurd (true≢false (sym e)))
over_iff false true s t = (λ e. refl, λ e. inl refl)
over_iff true true s t = (λ e. refl, λ e. inr refl)

-- the way is told by the tests alone
pub way_by : (x y : Bool) (s t u v : ℤ) → (fit_by x y s t).way ≡ (fit_by x y u v).way
way_by false false s t u v = refl
way_by false true s t u v = refl
way_by true false s t u v = refl
way_by true true s t u v = refl
