-- After any list of puts, a fetch gives the walk put last.
use mathlib.Core.Bool.{Bool, cond, false, true, ◌&&◌}
use mathlib.Core.List.{List, [], ◌∷◌}
use mathlib.Core.Path.{ap, refl, subst, sym, ◌∙◌, ◌≡◌}
use Prim.Native.Nat.{suc, zero, ℕ}
use lib.Dec.{eqb, leb}
use lib.ListN.{get_or, replicate}
use borrow.Author.Tests.{eqb-false, eqb-true, leb-true}
use Rattle.refusal.specs.Outcomes.{value_in}
use Rattle.refusal.specs.Verdicts.{Verdict, accepted}
use Rattle.refusal.specs.declared.Refusal.{Refusal}
use Rattle.refusal.specs.declared.Refusal.TheVariants.{Name, NothingPut}
use Rattle.std.specs.Prelude.{Err, None, Ok, Result}
use Rattle.walk.proofs.Demand.{answers_agree}
use Rattle.walk.specs.Fit.{fit}
use Rattle.walk.specs.Moves.{rules}
use Rattle.walk.specs.Step.{walk_answers, walk_placed}
use Rattle.walk.specs.declared.Walk.{Walk}
use Rattle.words.proofs.Booleans.{clash}
use Rattle.binder.proofs.UnderName.{above, fetched-standing, fetched_walk, put_passes, standing, still_eight, under_other, under_same}
use Rattle.binder.specs.Claims.{Eight, FetchesLast}
use Rattle.binder.specs.Names.{fetch_of, fresh_binder, highest_name, put_binder, put_of, put_verdict, under}
use Rattle.binder.specs.Puts.{Put, after_puts, fetch_due, fetched, is_accepted, last_of, put_under}
use Rattle.binder.specs.declared.Binder.{Binder}

all_alike : {A : Type 0} (n i : ℕ) (x : A) → get_or (replicate n x) i x ≡ x
all_alike zero i x = refl
all_alike (suc n) zero x = refl
all_alike (suc n) (suc i) x = all_alike n i x

pub fresh_eight : Eight fresh_binder
unfolding fresh_binder
fresh_eight = refl

module _ (name : ℕ) (named : leb name highest_name ≡ true) where
  -- one put
  last_of_one :
      (b : Binder) → Eight b → (p : Put) (t : Bool) → eqb p.name name ≡ t → (v : Verdict) → (later : List Walk)
      → last_of (fetched (put_binder v b p.name p.walk) name) later ≡ last_of (fetched b name) (cond (t && is_accepted v) (p.walk ∷ later) later)
  last_of_one b e p true h accepted later =
      let s : p.name ≡ name = eqb-true p.name name h in
      ap (λ o. last_of o later) (fetched-standing _ name named ∙ ap standing (ap (under (put_binder accepted b p.name p.walk)) (sym s) ∙ under_same b p.name p.walk e (rw s (leb-true name highest_name named))))
  last_of_one b e p true h (Verdict.refused r) later = refl
  last_of_one b e p false h v later =
      ap (λ o. last_of o later) (fetched-standing _ name named ∙ ap standing (under_other b p.name p.walk v name (λ q. eqb-false p.name name h (sym q))) ∙ sym (fetched-standing b name named))

  pub last_of_all : (b : Binder) → Eight b → (puts : List Put) → fetched (after_puts b puts) name ≡ last_of (fetched b name) (put_under name puts)
  unfolding after_puts put_under
  last_of_all b e [] = refl
  last_of_all b e (p ∷ later) =
      let v = put_verdict p.name p.walk in
      last_of_all (put_of b p.name p.walk) (still_eight b p.name p.walk v e) later
      ∙ last_of_one b e p (eqb p.name name) refl v (put_under name later)

-- a fresh binder has nothing under any name
pub fresh_under : (name : ℕ) → under fresh_binder name ≡ None
unfolding fresh_binder under
fresh_under name = all_alike (suc highest_name) name None

fresh_fetched : (name : ℕ) → leb name highest_name ≡ true → fetched fresh_binder name ≡ Err NothingPut
fresh_fetched name h = fetched-standing fresh_binder name h ∙ ap standing (fresh_under name)

-- every walk put is fit
last_fit :
    (name : ℕ) (puts : List Put) (o : Result Walk Refusal) → ((w : Walk) → o ≡ Ok w → fit rules w ≡ true)
    → (w : Walk) → last_of o (put_under name puts) ≡ Ok w → fit rules w ≡ true
unfolding put_under
last_fit name [] o f = f
last_fit name (p ∷ later) o f = go (eqb p.name name) (put_verdict p.name p.walk) refl (last_fit name later)
  where
    Fits : Result Walk Refusal → List Walk → Type 0
    Fits o l = (w : Walk) → last_of o l ≡ Ok w → fit rules w ≡ true

    go : (t : Bool) (v : Verdict) → put_verdict p.name p.walk ≡ v → ((o : Result Walk Refusal) → Fits o [] → Fits o (put_under name later))
        → Fits o (cond (t && is_accepted v) (p.walk ∷ put_under name later) (put_under name later))
    go true accepted e ih = ih (Ok p.walk) (λ w q. subst (λ x. fit rules x ≡ true) (ap (value_in w) q) (put_passes p.name p.walk e).1)
    go true (Verdict.refused r) e ih = ih o f
    go false v e ih = ih o f

pub fetches_last : FetchesLast
fetches_last puts name = record {
  last = last;
  fits = fits (leb name highest_name);
  alike = λ w e steps. ap (λ x. walk_placed rules x steps) (walk w e);
  booked = λ w e long steps.
      ap (λ x. walk_answers rules x steps) (walk w e) ∙ answers_agree rules w (record { test = fits (leb name highest_name) w e; long = long }) steps;
}
  where
    fits : (t : Bool) (w : Walk) → cond t (last_of (Err NothingPut) (put_under name puts)) (Err Name) ≡ Ok w → fit rules w ≡ true
    fits true w e = last_fit name puts (Err NothingPut) (λ w e. clash (cc)) w e
    fits false w e = clash (cc)

    go : (t : Bool) → leb name highest_name ≡ t → fetched (after_puts fresh_binder puts) name ≡ cond t (last_of (Err NothingPut) (put_under name puts)) (Err Name)
    go true h = last_of_all name h fresh_binder fresh_eight puts ∙ ap (λ o. last_of o (put_under name puts)) (fresh_fetched name h)
    go false h = above (after_puts fresh_binder puts) name h

    last : fetched (after_puts fresh_binder puts) name ≡ fetch_due name puts
    last = go (leb name highest_name) refl

    walk : (w : Walk) → fetch_due name puts ≡ Ok w → fetch_of (after_puts fresh_binder puts) name ≡ w
    walk w e = fetched_walk (after_puts fresh_binder puts) name w (last ∙ e)
