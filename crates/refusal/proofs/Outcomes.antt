-- A verdict by what it decides, and the numbers that are told.
use mathlib.Core.Path.{ap, refl, ◌∙◌, ◌≡◌}
use Rattle.std.proofs.lemmas.Result.{err_from_is_err_and}
use Rattle.std.specs.Prelude.{Err, IsErrAnd, Ok, Result}
use Rattle.refusal.specs.Outcomes.{GivenNumbers, RefusedNumbers, decide}
use Rattle.refusal.specs.Verdicts.{Verdict, accepted}
use Rattle.refusal.specs.declared.Refusal.{Refusal}
use Rattle.words.proofs.Booleans.{clash}

module _ {A : Type 0} where
  pub given_so : (v : Verdict) (a b : A) → decide v a ≡ Ok b → v ≡ accepted
  given_so accepted a b e = refl
  given_so (Verdict.refused r) a b e = clash (cc)

  pub refused_so : (v : Verdict) (a : A) (r : Refusal) → decide v a ≡ Err r → v ≡ Verdict.refused r
  refused_so accepted a r e = clash (cc)
  refused_so (Verdict.refused q) a r e = cc

  -- what is given matters only where the verdict accepts
  pub decide_on : (v : Verdict) {a b : A} → (v ≡ accepted → a ≡ b) → decide v a ≡ decide v b
  decide_on accepted h = ap Ok (h refl)
  decide_on (Verdict.refused r) h = refl

pub refused_numbers : RefusedNumbers
refused_numbers A zero a r = (refl, refl, refl)

pub given_numbers : GivenNumbers
given_numbers A zero a = (refl, refl, refl)

-- what the exit of a `?` returns: the refusal handed on
pub handed_on : {T : Type 0} {r : Refusal} (x : Result T Refusal) → IsErrAnd x (λ e. e ≡ r) → x ≡ Err r
handed_on x h = let p = err_from_is_err_and x h in p.1 ∙ ap Err p.2
