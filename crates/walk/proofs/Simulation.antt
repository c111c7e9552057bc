-- If each move keeps what a walk stands for, a run answers as the book does. Nothing here knows of rows or drawers.
use mathlib.Core.List.{List, [], ◌∷◌}
use mathlib.Core.Path.{ap, refl, sym, ◌∙◌, ◌≡◌}
use Prim.Native.Nat.{suc, zero, ℕ, ◌+◌, ◌-◌, ◌<◌, ◌≤◌}
use native.Mathlib.Omega.{arith}
use lib.ListN.{length}
use Rattle.listing.proofs.Strikes.{raised}
use Rattle.listing.specs.Listing.{Line, Listing, Said, entry, raise, ring, says, told}
use Rattle.refusal.specs.declared.Refusal.{Refusal}
use Rattle.refusal.specs.declared.Refusal.TheVariants.{Ended as HasEnded, Spent}
use Rattle.std.specs.Prelude.{Err, Ok, Result}
use Rattle.walk.specs.Moves.{Move, Rules, answer, free, move_at, trial}
use Rattle.walk.specs.Step.{after, answer_numbers, answered, run, said_by, stepped, told_by}
use Rattle.walk.specs.declared.Answer.{Answer}
use Rattle.walk.specs.declared.Answer.TheVariants.{None, Ring}
use Rattle.walk.specs.declared.Standing.TheVariants.{Ended}
use Rattle.walk.specs.declared.Stepped.{Stepped}
use Rattle.walk.specs.declared.Walk.{Walk}

-- an answer in the book's terms
abbrev pub said_as : Result Answer Refusal → Walk → Said
said_as a w = (told_by (answer_numbers a w 0 0)).said

pub told_as : (a : Result Answer Refusal) (w : Walk) (p t : ℕ) → told_by (answer_numbers a w p t) ≡ told (said_as a w) t
told_as (Ok Ring) w p t = refl
told_as (Ok None) w p t = refl
told_as (Err r) w p t = refl

-- a row that is not empty is a ring
pub said_row : (row : List ℕ) → 0 < length row → said_by 0 row ≡ says (ring row)
said_row [] h = absurd (omega arith)
said_row (x ∷ row) h = refl

-- an ended walk: 20, no change
pub run_ended : (R : Rules) (w : Walk) (f k t : ℕ) → 0 < f → w.at ≡ Ended → run R f k t w ≡ stepped w (Err HasEnded) t
unfolding run move_at
run_ended R w zero k t h e = absurd (omega arith)
run_ended R w (suc f) k t h e = ap (λ s. after (move_at R s w) k t w (run R f)) e

module _ (R : Rules) (Good Fit : Walk → Type 0) (stands : Walk → Listing) (size : Walk → ℕ) where
  -- what is asked of a move from w
  pub data Keeps (w : Walk) : Move → Type 0 where
    keeps_free : {v : Walk} → Good v → stands w ≡ stands v → size v < size w → Keeps w (free v)
    keeps_trial : {v : Walk} → Good v → Fit w → stands w ≡ raise 1 (stands v) → size v < size w → Keeps w (trial v)
    keeps_answer : {a : Result Answer Refusal} {v : Walk} {l : Line} → Fit (answered a v) → said_as a (answered a v) ≡ says l → stands w ≡ entry l 0 (stands (answered a v)) → Keeps w (answer a v)

  -- what k trials more make of a walk that owes o of them to s, after t
  pub data Ran (k t : ℕ) (s : Line) (o : ℕ) (rest : Listing) (r : Stepped) : Type 0 where
    spent : k < o → r.answer ≡ Err Spent → r.trials ≡ t + k → Fit r.walk → stands r.walk ≡ entry s (o - k) rest → Ran k t s o rest r
    given : o ≤ k → said_as r.answer r.walk ≡ says s → r.trials ≡ t + o → Fit r.walk → stands r.walk ≡ rest → Ran k t s o rest r

  -- one trial earlier
  one_more : {k t : ℕ} {s : Line} {b o : ℕ} {rest : Listing} {r : Stepped} → o ≡ suc b → Ran k (suc t) s b rest r → Ran (suc k) t s o rest r
  one_more {k} {b = b} {o} {rest} e (spent l a n f g) =
      let m : o - suc k ≡ b - k = omega arith in
      spent (omega arith) a (omega arith) f (rw m g)
  one_more e (given l a n f g) = given (omega arith) a (omega arith) f g

  -- what a run of at most f moves is owed
  abbrev Listed-run : ℕ → Type 0
  Listed-run f = (k t : ℕ) (w : Walk) (s : Line) (o : ℕ) (rest : Listing) → size w < f → Good w → stands w ≡ entry s o rest → Ran k t s o rest (run R f k t w)

  pub run_as_listed : ((w : Walk) → Good w → Keeps w (move_at R w.at w)) → (f : ℕ) → Listed-run f
  unfolding run
  run_as_listed keeps zero k t w s o rest h g e = absurd (omega arith)
  run_as_listed keeps (suc f) k t w s o rest h g e = go k (keeps w g) (run_as_listed keeps f)
    where
      go : (k : ℕ) {m : Move} → Keeps w m → Listed-run f → Ran k t s o rest (after m k t w (run R f))
      go k (keeps_free {v = v} gv q l) ih = ih k t v s o rest (omega arith) gv (sym q ∙ e)
      go zero (keeps_trial {v = v} gv fw q l) ih =
          let p = raised (stands v) (sym q ∙ e) in
          let m : o - 0 ≡ o = omega arith in
          spent (omega (arith, p.more)) refl (omega arith) fw (rw m e)
      go (suc k) (keeps_trial {v = v} gv fw q l) ih =
          let p = raised (stands v) (sym q ∙ e) in
          one_more p.more (ih k (suc t) v s p.before rest (omega arith) gv p.is)
      go k (keeps_answer {a = a} {v = v} {l = l} fv p q) ih =
          let z : 0 ≡ o = cc in
          let m : l ≡ s = cc in
          given (omega arith) (p ∙ ap says m) (omega arith) fv (cc)

  -- the number of moves allowed doesn't show, if it is enough
  pub run_same : ((w : Walk) → Good w → Keeps w (move_at R w.at w)) → (f g k t : ℕ) (w : Walk) → size w < f → size w < g → Good w → run R f k t w ≡ run R g k t w
  unfolding run
  run_same keeps zero g k t w h l good = absurd (omega arith)
  run_same keeps (suc f) zero k t w h l good = absurd (omega arith)
  run_same keeps (suc f) (suc g) k t w h l good = go k (keeps w good) (run_same keeps f g)
    where
      go : (k : ℕ) {m : Move} → Keeps w m → ((k t : ℕ) (v : Walk) → size v < f → size v < g → Good v → run R f k t v ≡ run R g k t v)
          → after m k t w (run R f) ≡ after m k t w (run R g)
      go k (keeps_free {v = v} gv q z) ih = ih k t v (omega arith) (omega arith) gv
      go zero (keeps_trial gv fw q z) ih = refl
      go (suc k) (keeps_trial {v = v} gv fw q z) ih = ih k (suc t) v (omega arith) (omega arith) gv
      go k (keeps_answer fv p q) ih = refl
