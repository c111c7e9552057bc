-- `walk::Walk::descend` meets its contract: each turn of the loop is a free move or a trial on the way of the step.
use mathlib.Core.Bool.{Bool, false, true}
use mathlib.Core.List.{List, [], ◌++◌, ◌∷◌}
use mathlib.Core.Path.{ap, refl, subst, sym, ◌∙◌, ◌≡◌}
use Prim.Native.Nat.{ℕ, ◌+◌, ◌-◌, ◌<◌, ◌≤◌}
use native.Mathlib.Nat.{pos_of_ne-zero}
use native.Mathlib.Omega.{arith}
use lib.ListN.{get_or, length, set, take}
use lib.Seq.{length-take-le, take-take}
use Rattle.density.specs.Necklaces.{begins}
use Rattle.prefix.proofs.CarriedLaws.{knows_fewer}
use Rattle.prefix.specs.InnerCarried.{Knows, KnowsPrefixes}
use Rattle.prefix.specs.declared.carried.Known.{Known}
use Rattle.walk.proofs.MoveCases.{down_due, down_free, down_no, down_yes, good_down, good_long, good_symbols}
use Rattle.walk.proofs.Resuming.{Comes, then_free, then_part, then_spent, then_trial}
use Rattle.walk.proofs.Tried.{asked, put_back, tried_front, tried_length}
use Rattle.refusal.specs.Verdicts.{most_stations}
use Rattle.walk.specs.Moves.{moved}
use Rattle.walk.specs.declared.Standing.TheVariants.{Down, Up}
use Rattle.walk.specs.declared.Walk.{Walk}
use Rattle.words.proofs.Alphabet.{within_set, within_take}
use Rattle.words.specs.Symbols.{Within}
use Rattle.walk.proofs.Walk.descend.Invariants.{Inv}
use Rattle.walk.proofs.Walk.descend.Goals as goal
use Rattle.walk.proofs.Walk.descend.Goals.{Joined-row-q-ne0, Then-ask, else-row-q-ne0, then-row-q-ne0+else-left-eq0+else-ask}

-- the row that a turn leaves, and where the step has come
record Turn (w : Walk) (allowed : ℕ) (row : List ℕ) (p : ℕ) (new : List ℕ) (left : ℕ) : Type 0 where
  is : new ≡ row
  comes : Comes w allowed (moved w new (Down (p - 1))) left

module _ {w : Walk} {allowed : ℕ} {prefixes row : List ℕ} {p left : ℕ} {known : Known} (v : Inv w allowed prefixes row p left known) where
  symbols : Within 2 row
  symbols = good_symbols v.comes.good

  long : length row ≡ most_stations
  long = good_long v.comes.good

  few : w.n ≤ most_stations
  few = v.comes.good.sound.most

  inside : p ≤ w.n
  inside = good_down v.comes.good p refl

  fits_in : p ≤ length row
  fits_in = omega (arith, long, few, inside)

  module _ (h : 0 < p) where
    one : (get_or row (p - 1) 0 ≡ 0 → ⊥) → get_or row (p - 1) 0 ≡ 1
    one e = omega (arith, symbols (p - 1) (omega (arith, h, fits_in)), pos_of_ne-zero e)

    tried_symbols : Within 2 (set row (p - 1) 0)
    tried_symbols = within_set row (p - 1) 0 symbols (omega arith)

    -- what was asked
    answer_is : (r b : Bool) → r ≡ begins w.n w.d (take p (set row (p - 1) 0)) → r ≡ b → begins w.n w.d (take (p - 1) row ++ (0 ∷ [])) ≡ b
    answer_is r b e f = ap (begins w.n w.d) (sym (asked row p 0 h fits_in)) ∙ sym e ∙ f

    asks_longer : let a = take p (set row (p - 1) 0) in (0 < length a) × (length a ≤ most_stations) × Within 2 a × Knows (take (length a - 1) a) known
    asks_longer =
        let size : length (take p (set row (p - 1) 0)) ≡ p = tried_length row p 0 fits_in in
        (omega (arith, size), omega (arith, size, fits_in, long), within_take p (set row (p - 1) 0) tried_symbols, rw (tried_front row p 0 h fits_in) v.knows)

    on_yes : (e : get_or row (p - 1) 0 ≡ 0 → ⊥) → 0 < left → begins w.n w.d (take (p - 1) row ++ (0 ∷ [])) ≡ true → Comes w allowed (moved w (set row (p - 1) 0) (Up (p + 1))) (left - 1)
    on_yes e l f = then_trial v.comes (set row (p - 1) 0) (Up (p + 1)) l (down_yes w row p h (one e) f)

    on_no : (e : get_or row (p - 1) 0 ≡ 0 → ⊥) → 0 < left → begins w.n w.d (take (p - 1) row ++ (0 ∷ [])) ≡ false → Turn w allowed row p (set (set row (p - 1) 0) (p - 1) 1) (left - 1)
    on_no e l f = rw (put_back row (p - 1) (one e)) (record { is = refl; comes = then_trial v.comes row (Down (p - 1)) l (down_no w row p h (one e) f) })

    on_free : get_or row (p - 1) 0 ≡ 0 → Turn w allowed row p row left
    on_free e = record { is = refl; comes = then_free v.comes row (Down (p - 1)) (down_free w row p h e) }

    -- the next turn
    module _ {new : List ℕ} {left' : ℕ} (t : Turn w allowed row p new left') where
      front_length : length (take (p - 1) new) ≡ p - 1
      front_length = length-take-le (p - 1) new (omega (arith, ap length t.is, fits_in))

      asks_shorter : (length (take (p - 1) new) ≤ most_stations) × Within 2 (take (p - 1) new) × Knows (take (p - 1) new) known × KnowsPrefixes (take (p - 1) new) prefixes
      asks_shorter = (omega (arith, front_length, fits_in, long), within_take (p - 1) new (good_symbols t.comes.good), rw t.is v.knows, rw t.is v.table)

      shorter : take (length (take (p - 1) new) - 1) (take (p - 1) new) ≡ take (p - 1 - 1) new
      shorter = rw front_length (take-take (p - 1 - 1) (p - 1) new (omega arith))

      on_turn : (k : Known) → Knows (take (length (take (p - 1) new) - 1) (take (p - 1) new)) k → Inv w allowed prefixes new (p - 1) left' k
      on_turn k e = record {
        comes = t.comes;
        table = subst (λ a. KnowsPrefixes a prefixes) shorter (knows_fewer (take (p - 1) new) prefixes (length (take (p - 1) new) - 1) (omega arith) asks_shorter.3);
        knows = subst (λ a. Knows a k) shorter e;
      }

-- the place of the symbol with index p - 1
place_back : (p : ℕ) → 0 < p → p - 1 + 1 ≡ p
place_back p h = omega arith

-- no: the row is as it was
turn : (c : Joined-row-q-ne0) → Turn c.args.self c.args.allowed c.loop-q.row c.loop-q.q c.if-row-q-ne0.row c.if-row-q-ne0.left
turn c =
    let v = c.loop-q.invariant in
    let h : 0 < c.loop-q.q = omega arith in
    elim c.if-row-q-ne0.branch [
      | then-row-q-ne0+else-left-eq0+else-ask w ↦
          let asked = rw (place_back c.loop-q.q h) at w.ask.ensures in
          rw (w.row-is, w.left-is) (on_no v h w.if-row-q-ne0.true (pos_of_ne-zero w.if-left-eq0.false) (answer_is v h _ false asked w.if-ask.false))
      | else-row-q-ne0 w ↦ rw (w.row-is, w.left-is) (on_free v h w.if-row-q-ne0.false)
    ]

-- yes: the walk goes up
came : (c : Then-ask) → Comes c.args.self c.args.allowed (moved c.args.self (set c.loop-q.row (c.loop-q.q - 1) 0) (Up (c.loop-q.q - 1 + 1 + 1))) (c.loop-q.left - 1)
came c =
    let v = c.loop-q.invariant in
    let h : 0 < c.loop-q.q = omega arith in
    let back = place_back c.loop-q.q h in
    let asked = rw back at c.ask.ensures in
    rw back (on_yes v h c.if-row-q-ne0.true (pos_of_ne-zero c.if-left-eq0.false) (answer_is v h _ true asked c.if-ask.true))

pub returns-then-left-eq0 : goal.returns-then-left-eq0
returns-then-left-eq0 c =
    let v = c.loop-q.invariant in
    let h : 0 < c.loop-q.q = omega arith in
    rw (place_back c.loop-q.q h) (then_spent v.comes _ _ c.if-left-eq0.true (down_due c.args.self c.loop-q.row c.loop-q.q h (one v h c.if-row-q-ne0.true)) refl refl refl)

pub longer-tried-requires : goal.longer-tried-requires
longer-tried-requires c =
    let h : 0 < c.loop-q.q = omega arith in
    rw (place_back c.loop-q.q h) (asks_longer c.loop-q.invariant h)

pub ask-requires : goal.ask-requires
ask-requires c =
    let v = c.loop-q.invariant in
    let h : 0 < c.loop-q.q = omega arith in
    (v.comes.good.sound.some, few v, v.comes.good.sound.dense, omega (arith, inside v), tried_symbols v h, c.longer-tried.ensures)

pub ascend-requires : goal.ascend-requires
ascend-requires c =
    let p = c.loop-q.q - 1 + 1 in
    let back : p + 1 - 1 ≡ p = omega arith in
    (refl, (came (goal.at.ascend-requires c).Then-ask).good, rw back c.longer-tried.ensures)

pub returns-then-ask : goal.returns-then-ask
returns-then-ask c = then_part (came (goal.at.returns-then-ask c).Then-ask) _ c.ascend.ensures

pub shorter-known-requires : goal.shorter-known-requires
shorter-known-requires c =
    asks_shorter c.loop-q.invariant (omega arith) (turn (goal.at.shorter-known-requires c).Joined-row-q-ne0)

pub loop-q-preserved : goal.loop-q-preserved
loop-q-preserved c =
    let t = turn (goal.at.loop-q-preserved c).Joined-row-q-ne0 in
    on_turn c.loop-q.invariant (omega arith) t c.shorter-known.result c.shorter-known.ensures
