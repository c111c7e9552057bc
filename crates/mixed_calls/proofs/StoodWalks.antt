-- Whatever is called, the walk that stands and all walks put were brought about by steps from an opening.
use mathlib.Core.Bool.{Bool, false, true}
use mathlib.Core.List.{List, [], ◌++◌, ◌∷◌}
use mathlib.Core.Path.{ap, refl, subst, sym, ◌∙◌, ◌≡◌}
use Prim.Native.Nat.{ℕ}
use lib.Dec.{eqb}
use borrow.Author.Tests.{eqb-false, eqb-true}
use Rattle.binder.proofs.LastPut.{fresh_eight, fresh_under}
use Rattle.binder.proofs.UnderName.{fetch_passes, put_passes, still_eight, under_other, under_same}
use Rattle.binder.specs.Claims.{Eight}
use Rattle.binder.specs.Names.{fetch_of, fetch_verdict, fetch_walk, fresh_binder, put_binder, put_of, put_verdict, under}
use Rattle.binder.specs.declared.Binder.{Binder}
use Rattle.density.specs.Density.{density}
use Rattle.density.specs.Necklaces.{is_kind, is_necklace_of, of_kind}
use Rattle.density.specs.Rows.{is_padded}
use Rattle.offers.specs.Offers.{look_of, take_of, take_verdict, taken_by}
use Rattle.offers.specs.declared.Offer.{Offer}
use Rattle.std.specs.Prelude.{Some}
use Rattle.words.proofs.Booleans.{clash}
use Rattle.refusal.specs.Verdicts.{Verdict, accepted, are_stations, refused}
use Rattle.walk.proofs.StepLists.{handed-append}
use Rattle.walk.specs.Claims.{opened}
use Rattle.walk.specs.Fit.{fit, fit_at, fit_sizes}
use Rattle.walk.specs.Moves.{move_at, rules}
use Rattle.walk.specs.Opening.{open_verdict, open_walk, refused_walk}
use Rattle.walk.specs.Step.{enough, handed, run, step_of}
use Rattle.walk.specs.declared.Walk.{Walk}
use Rattle.words.specs.Order.{cmp, le, lt, same}
use Rattle.words.specs.Rotation.{is_necklace, rotation}
use Rattle.words.specs.Symbols.{all_up_to, first_where, first_wrong}
use Rattle.words.specs.Tests.{all_below, first_from}
use Rattle.mixed_calls.specs.Calls.{Call, Held, after_calls, at_first, calling, fetches, looks, opens, puts, steps, takes}
use Rattle.mixed_calls.specs.Claims.{Stood}

-- ---- walks

-- that of a refused opening: the walk of (1, 0) from 0, after its ring and none
pub refused_stood : Stood (refused_walk rules)
unfolding open_verdict are_stations is_kind first_wrong first_where first_from handed step_of fit fit_at fit_sizes is_padded
    all_up_to run enough move_at is_necklace_of is_necklace rotation all_below cmp le lt same density of_kind
refused_stood = record {
  from = record { n = 1; d = 0; kind = 1; limit = 0 ∷ []; passed = refl };
  steps = 0 ∷ 0 ∷ [];
  same = refl;
}

pub opened_stood :
    (n d kind : ℕ) (limit : List ℕ) → Stood (open_walk (open_verdict n d kind limit) rules n d kind limit)
unfolding handed
opened_stood n d kind limit = go (open_verdict n d kind limit) refl
  where
    go : (v : Verdict) → open_verdict n d kind limit ≡ v
        → Stood (open_walk (open_verdict n d kind limit) rules n d kind limit)
    go accepted e =
        record { from = record { n = n; d = d; kind = kind; limit = limit; passed = e }; steps = []; same = refl }
    go (refused r) e = subst (λ v. Stood (open_walk v rules n d kind limit)) (sym e) refused_stood

pub step_stood : (w : Walk) (a : ℕ) → Stood w → Stood (step_of rules w a).walk
unfolding handed
step_stood w a s = record {
  from = s.from;
  steps = s.steps ++ (a ∷ []);
  same = handed-append rules (opened s.from) s.steps (a ∷ []) ∙ ap (λ v. (step_of rules v a).walk) s.same;
}

-- a take has made a step, or none
pub take_stood : (w : Walk) (o : Offer) → Stood w → Stood (take_of w o).walk
unfolding take_of
take_stood w o s = go (take_verdict w o)
  where
    go : (v : Verdict) → Stood (taken_by v w o).walk
    go accepted = step_stood w o.allowance s
    go (refused r) = s

-- ---- binders

-- each walk put is one of them
pub record Filled (b : Binder) : Type 0 where
  pub eight : Eight b
  pub stood : (name : ℕ) (v : Walk) → under b name ≡ Some v → Stood v

pub fresh_filled : Filled fresh_binder
fresh_filled = record { eight = fresh_eight; stood = λ name v e. let z = sym (fresh_under name) ∙ e in clash (cc) }

pub put_filled : (b : Binder) (name : ℕ) (w : Walk) → Filled b → Stood w → Filled (put_of b name w)
put_filled b name w f s = record {
  eight = still_eight b name w (put_verdict name w) f.eight;
  stood = go (put_verdict name w) refl;
}
  where
    go : (v : Verdict) → put_verdict name w ≡ v
        → (other : ℕ) (x : Walk) → under (put_binder v b name w) other ≡ Some x → Stood x
    go (refused r) e other x p = f.stood other x p
    go accepted e other x p = pick (eqb other name) refl
      where
        pick : (t : Bool) → eqb other name ≡ t → Stood x
        pick true h =
            let u : under (put_binder accepted b name w) other ≡ Some w =
            ap (under (put_binder accepted b name w)) (eqb-true other name h)
            ∙ under_same b name w f.eight (put_passes name w e).0 in
            let i : w ≡ x = cc in
            subst Stood i s
        pick false h = f.stood other x (sym (under_other b name w accepted other (eqb-false other name h)) ∙ p)

pub fetch_stood : (b : Binder) (name : ℕ) → Filled b → Stood (fetch_of b name)
fetch_stood b name f = go (fetch_verdict b name) refl
  where
    go : (v : Verdict) → fetch_verdict b name ≡ v → Stood (fetch_walk v b name)
    go accepted e = f.stood name _ (fetch_passes b name e)
    go (refused r) e = refused_stood

-- ---- calls

pub record Kept (h : Held) : Type 0 where
  pub stands : Stood h.walk
  pub filled : Filled h.binder

kept_call : (h : Held) (c : Call) → Kept h → Kept (calling h c)
unfolding look_of
kept_call h (opens n d kind limit) k = record { stands = opened_stood n d kind limit; filled = k.filled }
kept_call h (steps a) k = record { stands = step_stood h.walk a k.stands; filled = k.filled }
kept_call h (puts name) k =
    record { stands = k.stands; filled = put_filled h.binder name h.walk k.filled k.stands }
kept_call h (fetches name) k = record { stands = fetch_stood h.binder name k.filled; filled = k.filled }
kept_call h (looks a) k = k
kept_call h (takes o) k = record { stands = take_stood h.walk o k.stands; filled = k.filled }

kept_calls : (h : Held) (calls : List Call) → Kept h → Kept (after_calls h calls)
unfolding after_calls
kept_calls h [] k = k
kept_calls h (c ∷ more) k = kept_calls (calling h c) more (kept_call h c k)

pub all_stood : (calls : List Call) → Stood (after_calls at_first calls).walk
all_stood calls = (kept_calls at_first calls (record { stands = refused_stood; filled = fresh_filled })).stands
