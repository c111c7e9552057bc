-- What is accepted, what stands under a name after a put, and what a fetch gives.
use mathlib.Core.Bool.{false, true}
use mathlib.Core.List.{List, [], ◌∷◌}
use mathlib.Core.Path.{ap, refl, ◌∙◌, ◌≡◌}
use Prim.Native.Nat.{suc, zero, ℕ, ◌<◌, ◌≤◌}
use native.Mathlib.Omega.{arith}
use lib.Dec.{leb}
use lib.ListN.{get_or, length, length-set}
use lib.Seq.{get_or-set_other, get_or-set_same}
use borrow.Author.Tests.{le-leb, leb-true, lt-leb}
use Rattle.refusal.proofs.Conditions.{need→}
use Rattle.refusal.specs.Outcomes.{decide, value_in}
use Rattle.refusal.specs.Verdicts.{Verdict, accepted, need, refused}
use Rattle.refusal.specs.declared.Refusal.{Refusal}
use Rattle.refusal.specs.declared.Refusal.TheVariants.{Name, NothingPut, Unfit}
use Rattle.walk.specs.Fit.{fit}
use Rattle.walk.specs.Moves.{rules}
use Rattle.walk.specs.Opening.{refused_walk}
use Rattle.std.specs.Option.{is_some, ok_or, unwrap_or}
use Rattle.std.specs.Prelude.{Err, None, Ok, Option, Result, Some}
use Rattle.walk.specs.declared.Walk.{Walk}
use Rattle.words.proofs.Booleans.{clash}
use Rattle.binder.specs.Claims.{Eight, PutReplaces}
use Rattle.binder.specs.InnerAnswers.{refused_fetch, refused_put}
use Rattle.binder.specs.Names.{fetch_of, fetch_verdict, fetch_walk, highest_name, put_binder, put_of, put_verdict, under}
use Rattle.binder.specs.Puts.{fetched}
use Rattle.binder.specs.declared.Binder.{Binder}
use Rattle.binder.specs.declared.Fetched.{Fetched}
use Rattle.binder.specs.declared.Filed.{Filed}

-- ---- putting

pub put_passes : (name : ℕ) (w : Walk) → put_verdict name w ≡ accepted → (name ≤ highest_name) × (fit rules w ≡ true)
unfolding put_verdict
put_passes name w e =
    let p = need→ (leb name highest_name) Name (need (fit rules w) Unfit accepted) e in
    (leb-true name highest_name p.0, (need→ (fit rules w) Unfit accepted p.1).0)

pub put_above : (name : ℕ) (w : Walk) → highest_name < name → put_verdict name w ≡ refused Name
unfolding put_verdict
put_above name w h = rw (lt-leb name highest_name h)

pub put_unfit : (name : ℕ) (w : Walk) → name ≤ highest_name → fit rules w ≡ false → put_verdict name w ≡ refused Unfit
unfolding put_verdict
put_unfit name w h f = rw (le-leb name highest_name h, f)

pub put_accepted : (name : ℕ) (w : Walk) → name ≤ highest_name → fit rules w ≡ true → put_verdict name w ≡ accepted
unfolding put_verdict
put_accepted name w h f = rw (le-leb name highest_name h, f)

-- what each refused return of a put has to be
pub put_refused : (b : Binder) (name : ℕ) (w : Walk) {r : Refusal} → put_verdict name w ≡ refused r → {f : Filed} → f ≡ refused_put b r
    → (f.answer ≡ decide (put_verdict name w) tt) × (f.binder ≡ put_of b name w)
put_refused b name w v e = rw (v, e) (refl, refl)

module _ (b : Binder) (name : ℕ) (w : Walk) where
  pub still_eight : (v : Verdict) → Eight b → Eight (put_binder v b name w)
  still_eight accepted e = length-set b.bookmarks name (Some w) ∙ e
  still_eight (refused r) e = e

  pub under_same : Eight b → name ≤ highest_name → under (put_binder accepted b name w) name ≡ Some w
  unfolding under
  under_same e h = get_or-set_same b.bookmarks name (Some w) None (omega (arith, e))

  pub under_other : (v : Verdict) (other : ℕ) → (other ≡ name → ⊥) → under (put_binder v b name w) other ≡ under b other
  unfolding under
  under_other accepted other d = get_or-set_other b.bookmarks name other (Some w) None d
  under_other (refused r) other d = refl

pub put_replaces : PutReplaces
put_replaces b name w e a = (
  ap (λ v. under (put_binder v b name w) name) a ∙ under_same b name w e (put_passes name w a).0,
  under_other b name w (put_verdict name w),
)

-- ---- fetching

some_there : (o : Option Walk) → is_some o ≡ true → (w : Walk) → o ≡ Some (unwrap_or o w)
some_there None e w = clash (cc)
some_there (Some v) e w = refl

pub fetch_passes : (b : Binder) (name : ℕ) → fetch_verdict b name ≡ accepted → under b name ≡ Some (fetch_walk accepted b name)
unfolding fetch_verdict
fetch_passes b name e =
    let n = need→ (leb name highest_name) Name (need (is_some (under b name)) NothingPut accepted) e in
    some_there (under b name) (need→ (is_some (under b name)) NothingPut accepted n.1).0 (refused_walk rules)

pub fetch_above : (b : Binder) (name : ℕ) → highest_name < name → fetch_verdict b name ≡ refused Name
unfolding fetch_verdict
fetch_above b name h = rw (lt-leb name highest_name h)

-- what is read under a name, whatever lies beyond the names
any_beyond : {A : Type 0} (l : List A) (i : ℕ) (x y : A) → i < length l → get_or l i x ≡ get_or l i y
any_beyond [] i x y h = absurd (omega arith)
any_beyond (z ∷ l) zero x y h = refl
any_beyond (z ∷ l) (suc i) x y h = any_beyond l i x y (omega arith)

module _ (b : Binder) (name : ℕ) (h : name ≤ highest_name) where
  pub under_read : Eight b → (x : Option Walk) → get_or b.bookmarks name x ≡ under b name
  unfolding under
  under_read eight x = any_beyond b.bookmarks name x None (omega (arith, eight))

  pub fetch_some : (w : Walk) → under b name ≡ Some w → (fetch_verdict b name ≡ accepted) × (fetch_of b name ≡ w)
  unfolding fetch_verdict
  fetch_some w e = rw (le-leb name highest_name h, e) (refl, ap (λ o. unwrap_or o (refused_walk rules)) e)

  pub fetch_none : under b name ≡ None → fetch_verdict b name ≡ refused NothingPut
  unfolding fetch_verdict
  fetch_none e = rw (le-leb name highest_name h, e)

-- what each refused return of a fetch has to be
pub fetch_refused : (b : Binder) (name : ℕ) {r : Refusal} → fetch_verdict b name ≡ refused r → {f : Fetched} → f ≡ refused_fetch r
    → (f.answer ≡ decide (fetch_verdict b name) tt) × (f.walk ≡ fetch_of b name)
fetch_refused b name v e = rw (v, e) (refl, refl)

-- what a fetch makes of what stands there
abbrev pub standing : Option Walk → Result Walk Refusal
standing o = ok_or o NothingPut

pub fetched-standing : (b : Binder) (name : ℕ) → leb name highest_name ≡ true → fetched b name ≡ standing (under b name)
unfolding fetch_verdict
fetched-standing b name h = rw h (go (under b name) refl)
  where
    go : (o : Option Walk) → under b name ≡ o → let v = need (is_some o) NothingPut accepted in decide v (fetch_walk v b name) ≡ standing o
    go None e = refl
    go (Some w) e = rw e

pub above : (b : Binder) (name : ℕ) → leb name highest_name ≡ false → fetched b name ≡ Err Name
unfolding fetch_verdict
above b name h = rw h

pub fetched_walk : (b : Binder) (name : ℕ) (w : Walk) → fetched b name ≡ Ok w → fetch_of b name ≡ w
fetched_walk b name w = go (fetch_verdict b name)
  where
    go : (v : Verdict) → decide v (fetch_walk v b name) ≡ Ok w → fetch_walk v b name ≡ w
    go accepted e = ap (value_in w) e
    go (refused r) e = clash (cc)
