-- The parts of a step put together: a move, moves one after the other, and what answers the step.
use mathlib.Core.List.{List}
use mathlib.Core.Path.{ap, refl, subst, sym, ◌∙◌, ◌≡◌}
use Prim.Native.Nat.{suc, zero, ℕ, ◌-◌, ◌<◌, ◌≤◌}
use native.Mathlib.Nat.{le_refl}
use native.Mathlib.Omega.{arith}
use Rattle.refusal.specs.declared.Refusal.{Refusal}
use Rattle.refusal.specs.declared.Refusal.TheVariants.{Ended as HasEnded, Spent}
use Rattle.std.specs.Prelude.{Err, None, Option, Result, Some}
use Rattle.walk.proofs.Fuel.{enough_some}
use Rattle.walk.proofs.MovesKeep.{keeping}
use Rattle.walk.proofs.MoveByMove.{Kept, kept_free, kept_trial, onward, onward_move}
use Rattle.walk.proofs.Simulation.{run_ended}
use Rattle.walk.specs.InnerCourse.{Good, Resumes, landed, rest, resumed, size}
use Rattle.walk.specs.Moves.{answer, free, move_at, moved, rules, trial}
use Rattle.walk.specs.Step.{after, enough, stepped}
use Rattle.walk.specs.declared.Answer.{Answer}
use Rattle.walk.specs.declared.Reached.{Reached}
use Rattle.walk.specs.declared.Standing.{Standing}
use Rattle.walk.specs.declared.Standing.TheVariants.{Ended, Given}
use Rattle.walk.specs.declared.Walk.{Walk}
use Rattle.words.proofs.Booleans.{clash}

-- the step of w, with k trials left, comes to v with l left; both have the same sizes and kind
pub record Comes (w : Walk) (k : ℕ) (v : Walk) (l : ℕ) : Type 0 where
  pub same : (a : ℕ) → k ≤ a → rest a k w ≡ rest a l v
  pub fewer : l ≤ k
  pub good : Good rules v
  pub smaller : size v ≤ size w
  pub alike : (r : Reached) → landed w r ≡ landed v r

pub comes_here : (w : Walk) (k : ℕ) → Good rules w → Comes w k w k
comes_here w k g = record { same = λ a h. refl; fewer = le_refl k; good = g; smaller = le_refl (size w); alike = λ r. refl }

-- ---- one move more

module _ {w : Walk} {k : ℕ} {v : Walk} {l : ℕ} (c : Comes w k v l) where
  moving : (a : ℕ) → k ≤ a → rest a k w ≡ after (move_at rules v.at v) l (a - l) v (onward rules)
  moving a h = c.same a h ∙ onward_move rules l (a - l) v c.good

  pub then_free : (row : List ℕ) (at : Standing) → free (moved v row at) ≡ move_at rules v.at v → Comes w k (moved v row at) l
  then_free row at e =
      let f = kept_free rules (subst (Kept rules v) (sym e) (keeping rules v c.good)) in
      record {
        same = λ a h. moving a h ∙ ap (λ m. after m l (a - l) v (onward rules)) (sym e);
        fewer = c.fewer;
        good = f.0;
        smaller = omega (arith, f.1, c.smaller);
        alike = c.alike;
      }

  pub then_trial : (row : List ℕ) (at : Standing) → 0 < l → trial (moved v row at) ≡ move_at rules v.at v → Comes w k (moved v row at) (l - 1)
  then_trial row at some e =
      let f = kept_trial rules (subst (Kept rules v) (sym e) (keeping rules v c.good)) in
      record {
        same = λ a h. moving a h ∙ ap (λ m. after m l (a - l) v (onward rules)) (sym e) ∙ go l some a (omega (arith, c.fewer));
        fewer = omega (arith, c.fewer);
        good = f.0;
        smaller = omega (arith, f.1, c.smaller);
        alike = c.alike;
      }
    where
      go : (j : ℕ) → 0 < j → (a : ℕ) → j ≤ a → after (trial (moved v row at)) j (a - j) v (onward rules) ≡ rest a (j - 1) (moved v row at)
      go zero s a h = absurd (omega arith)
      go (suc j) s a h = let m : suc (a - suc j) ≡ a - j = omega arith in let n : suc j - 1 ≡ j = omega arith in rw (m, n)

  -- ---- what answers the step

  says : (x : Result Answer Refusal) (r : Reached) → r.left ≡ l → r.said ≡ Some x → ((a : ℕ) → k ≤ a → rest a k w ≡ stepped (landed w r) x (a - l)) → Resumes w k r
  says x r e f q = record {
    same = λ a h. q a h ∙ rw (f, e) refl;
    fewer = rw e c.fewer;
    good = λ z. clash (cc);
    given = λ z. clash (cc);
    smaller = λ z. clash (cc);
  }

  pub then_answer : (x : Result Answer Refusal) (r : Reached) → r.left ≡ l → r.said ≡ Some x → answer x (landed v r) ≡ move_at rules v.at v → Resumes w k r
  then_answer x r e f q = says x r e f (λ a h. moving a h ∙ ap (λ m. after m l (a - l) v (onward rules)) (sym q) ∙ ap (λ u. stepped u x (a - l)) (sym (c.alike r)))

  -- a trial is due with none left
  pub then_spent : (u : Walk) (r : Reached) → l ≡ 0 → trial u ≡ move_at rules v.at v → landed v r ≡ v → r.left ≡ l → r.said ≡ Some (Err Spent) → Resumes w k r
  then_spent u r z q i e f =
      says (Err Spent) r e f
      (λ a h. moving a h ∙ ap (λ m. after m l (a - l) v (onward rules)) (sym q) ∙ go l z a ∙ ap (λ y. stepped y (Err Spent) (a - l)) (sym (c.alike r ∙ i)))
    where
      go : (j : ℕ) → j ≡ 0 → (a : ℕ) → after (trial u) j (a - j) v (onward rules) ≡ stepped v (Err Spent) (a - j)
      go zero s a = refl
      go (suc j) s a = absurd (omega arith)

  -- a ring of another kind is found
  pub then_struck : (r : Reached) → r.left ≡ l → r.said ≡ None → r.at ≡ Given → free (landed v r) ≡ move_at rules v.at v → Resumes w k r
  then_struck r e f at q =
      let m = kept_free rules (subst (Kept rules v) (sym q) (keeping rules v c.good)) in
      record {
        same = λ a h. moving a h ∙ ap (λ m. after m l (a - l) v (onward rules)) (sym q) ∙ ap (λ y. rest a l y) (sym (c.alike r)) ∙ rw (f, e);
        fewer = rw e c.fewer;
        good = λ z. rw (c.alike r) m.0;
        given = λ z. at;
        smaller = λ z. rw (c.alike r) (omega (arith, m.1, c.smaller));
      }

  -- ---- a part that follows

  pub then_part : (r : Reached) → Resumes v l r → Resumes w k r
  then_part r q = record {
    same = λ a h. c.same a h ∙ q.same a (omega (arith, c.fewer)) ∙ go r.said a;
    fewer = omega (arith, c.fewer, q.fewer);
    good = λ z. rw (c.alike r) (q.good z);
    given = q.given;
    smaller = λ z. rw (c.alike r) (omega (arith, q.smaller z, c.smaller));
  }
    where
      go : (s : Option (Result Answer Refusal)) (a : ℕ) → resumed s a r.left (landed v r) ≡ resumed s a r.left (landed w r)
      go s a = ap (λ y. resumed s a r.left y) (sym (c.alike r))

-- ---- a walk that has ended

pub ended_resumes : (w : Walk) (k : ℕ) (r : Reached) → w.at ≡ Ended → landed w r ≡ w → r.left ≡ k → r.said ≡ Some (Err HasEnded) → Resumes w k r
ended_resumes w k r e i l f = record {
  same = λ a h. run_ended rules w (enough w.n) k (a - k) (enough_some w.n) e ∙ ap (λ v. stepped v (Err HasEnded) (a - k)) (sym i) ∙ rw (f, l);
  fewer = rw l (le_refl k);
  good = λ z. clash (cc);
  given = λ z. clash (cc);
  smaller = λ z. clash (cc);
}
