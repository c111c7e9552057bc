-- `walk::Walk::ascend` meets its contract: each turn of the loop is a trial on the way of the step.
use mathlib.Core.Bool.{Bool, false, true}
use mathlib.Core.List.{List, [], ◌++◌, ◌∷◌}
use mathlib.Core.Path.{ap, refl, sym, ◌∙◌, ◌≡◌}
use Prim.Native.Nat.{ℕ, ◌+◌, ◌-◌, ◌<◌, ◌≤◌}
use native.Mathlib.Nat.{pos_of_ne-zero}
use native.Mathlib.Omega.{arith}
use lib.ListN.{get_or, length, set, take}
use lib.Seq.{set-set}
use Rattle.density.specs.Necklaces.{begins}
use Rattle.prefix.specs.InnerCarried.{Knows}
use Rattle.prefix.specs.declared.carried.Known.{Known}
use Rattle.walk.proofs.MoveCases.{bit, good_long, good_symbols, good_up, up_due, up_tried_lem}
use Rattle.walk.proofs.Resuming.{Comes, then_spent, then_trial}
use Rattle.walk.proofs.Tried.{asked, tried_front, tried_last, tried_length}
use Rattle.refusal.specs.Verdicts.{most_stations}
use Rattle.walk.specs.Moves.{moved}
use Rattle.walk.specs.declared.Standing.TheVariants.{Up}
use Rattle.walk.specs.declared.Walk.{Walk}
use Rattle.words.proofs.Alphabet.{within_set, within_take}
use Rattle.words.specs.Symbols.{Within}
use Rattle.walk.proofs.Walk.ascend.Invariants.{Inv}
use Rattle.walk.proofs.Walk.ascend.Goals as goal
use Rattle.walk.proofs.Walk.ascend.Goals.{Joined-not-ask_with_one, else-not-ask_with_one, then-not-ask_with_one}

module _ {w : Walk} {allowed : ℕ} {row : List ℕ} {p left : ℕ} {known : Known} (v : Inv w allowed row p left known) where
  place : (2 ≤ p) × (p ≤ w.n + 1) × (begins w.n w.d (take (p - 1) row) ≡ true)
  place = good_up v.comes.good p refl

  long : length row ≡ most_stations
  long = good_long v.comes.good

  few : w.n ≤ most_stations
  few = v.comes.good.sound.most

  module _ (h : p ≤ w.n) where
    fits_in : p ≤ length row
    fits_in = omega (arith, long, few)

    positive : 0 < p
    positive = omega (arith, place.0)

    -- what was asked
    answer_is : (r b : Bool) → r ≡ begins w.n w.d (take p (set row (p - 1) 1)) → r ≡ b → begins w.n w.d (take (p - 1) row ++ (1 ∷ [])) ≡ b
    answer_is r b e f = ap (begins w.n w.d) (sym (asked row p 1 positive fits_in)) ∙ sym e ∙ f

    -- the trial, by its answer
    tried : (b : Bool) → 0 < left → begins w.n w.d (take (p - 1) row ++ (1 ∷ [])) ≡ b → Comes w allowed (moved w (set row (p - 1) (bit b)) (Up (p + 1))) (left - 1)
    tried b l e = then_trial v.comes (set row (p - 1) (bit b)) (Up (p + 1)) l (up_tried_lem w row p positive h b e)

    -- what the question asks for
    asks_up :
        let a = take p (set row (p - 1) 1) in
        (1 < length a) × (length a ≤ w.n) × (get_or a (length a - 1) 0 ≡ 1) × Knows (take (length a - 1) a) known × (begins w.n w.d (take (length a - 1) a) ≡ true)
    asks_up =
        let size : length (take p (set row (p - 1) 1)) ≡ p = tried_length row p 1 fits_in in (
          omega (arith, size, place.0),
          omega (arith, size),
          tried_last row p 1 positive fits_in,
          rw (tried_front row p 1 positive fits_in) v.knows,
          rw (tried_front row p 1 positive fits_in) place.2,
        )

-- the row that a trial leaves, and where the step has come
record Turn (w : Walk) (allowed : ℕ) (row : List ℕ) (p left : ℕ) (new : List ℕ) : Type 0 where
  b : Bool
  is : new ≡ set row (p - 1) (bit b)
  comes : Comes w allowed (moved w new (Up (p + 1))) (left - 1)

module _ {w : Walk} {allowed : ℕ} {row : List ℕ} {p left : ℕ} {known : Known} (v : Inv w allowed row p left known) (h : p ≤ w.n) (k : 0 < left) where
  -- a trial with the answer b leaves the row with b at place p
  turn_on : (b : Bool) {r : Bool} {new : List ℕ} → r ≡ begins w.n w.d (take p (set row (p - 1) 1)) → r ≡ b → new ≡ set row (p - 1) (bit b) → Turn w allowed row p left new
  turn_on b q f e = rw e (record { b = b; is = refl; comes = tried v h b k (answer_is v h _ b q f) })

module _ {w : Walk} {allowed : ℕ} {row : List ℕ} {p left : ℕ} {known : Known} (v : Inv w allowed row p left known) (h : p ≤ w.n) {new : List ℕ} (t : Turn w allowed row p left new) where
  turn_length : length (take p new) ≡ p
  turn_length = rw t.is (tried_length row p (bit t.b) (fits_in v h))

  asks_more : (0 < length (take p new)) × (length (take p new) ≤ most_stations) × Within 2 (take p new) × Knows (take (length (take p new) - 1) (take p new)) known
  asks_more = (
    omega (arith, turn_length, positive v h),
    omega (arith, turn_length, few v),
    within_take p new (good_symbols t.comes.good),
    rw (t.is, tried_front row p (bit t.b) (positive v h) (fits_in v h)) v.knows,
  )

  on_turn : (k : Known) → Knows (take p new) k → Inv w allowed new (p + 1) (left - 1) k
  on_turn k e = let back : p + 1 - 1 ≡ p = omega arith in record { comes = t.comes; knows = rw back e }

turn_of : (c : Joined-not-ask_with_one) → Turn c.args.self c.args.allowed c.loop-p.row c.loop-p.p c.loop-p.left c.if-not-ask_with_one.row
turn_of c =
    let k = pos_of_ne-zero c.if-left-eq0.false in
    elim c.if-not-ask_with_one.branch [
      | then-not-ask_with_one w ↦ turn_on c.loop-p.invariant (omega arith) k false c.ask_with_one.ensures w.if-not-ask_with_one.true (w.row-is ∙ set-set c.loop-p.row (c.loop-p.p - 1) 1 0)
      | else-not-ask_with_one w ↦ turn_on c.loop-p.invariant (omega arith) k true c.ask_with_one.ensures w.if-not-ask_with_one.false w.row-is
    ]

pub returns-then-left-eq0 : goal.returns-then-left-eq0
returns-then-left-eq0 c =
    let v = c.loop-p.invariant in
    let h : c.loop-p.p ≤ c.args.self.n = omega arith in
    then_spent v.comes _ _ c.if-left-eq0.true (up_due c.args.self c.loop-p.row c.loop-p.p (positive v h) h) refl refl refl

pub ask_with_one-requires : goal.ask_with_one-requires
ask_with_one-requires c =
    let v = c.loop-p.invariant in
    let q = asks_up v (omega arith) in
    (few v, v.comes.good.sound.dense, q.0, q.1, within_take c.loop-p.p (set c.loop-p.row (c.loop-p.p - 1) 1) (within_set c.loop-p.row (c.loop-p.p - 1) 1 (good_symbols v.comes.good) (omega arith)), q.2, q.3, q.4)

pub longer-known-requires : goal.longer-known-requires
longer-known-requires c =
    let turn = turn_of (goal.at.longer-known-requires c).Joined-not-ask_with_one in
    asks_more c.loop-p.invariant (omega arith) turn

pub loop-p-preserved : goal.loop-p-preserved
loop-p-preserved c =
    let turn = turn_of (goal.at.loop-p-preserved c).Joined-not-ask_with_one in
    on_turn c.loop-p.invariant (omega arith) turn c.longer-known.result
    c.longer-known.ensures
