-- `lyndon_below::bound::highest_below` meets its contract.
use mathlib.Core.Path.{ap, sym, ◌∙◌, ◌≡◌}
use mathlib.Core.List.{List}
use native.Mathlib.Numerals.{add-one}
use Rattle.density.proofs.Binary.{binary_at}
use Rattle.words.specs.InnerScan.{scan, ◌▹◌}
use Prim.Native.Nat.{suc, ℕ, ◌+◌, ◌-◌, ◌<◌, ◌≤◌}
use native.Mathlib.Omega.{arith}
use lib.ListN.{length, set, take}
use Rattle.counting.specs.InnerBound.{passes}
use Rattle.lyndon_below.proofs.BoundSteps.{Search, found, next_one, next_zero, search_start, symbol_at, tried}
use borrow.Author.Rules.{rules}
use Rattle.lyndon_below.proofs.bound.highest_below.Goals as goal
use Rattle.lyndon_below.proofs.bound.highest_below.Goals.{else-x-eq1-via-else-x-eq1, else-x-eq1-via-then-x-eq1+else-begins_necklace}

-- the place before p
before : {v row : List ℕ} {p : ℕ} → Search v row p → 0 < p → Search v row (suc (p - 1))
before {v} {row} {p} s h = let e : suc (p - 1) ≡ p = omega arith in rw e s

module _ (v row : List ℕ) (p : ℕ) (s : Search v row p) (some : 0 < p) (few : length v ≤ 64) where
  part : take (p - 1 + 1) (set row (p - 1) 0) ≡ take (p - 1) v ▹ 0
  part = rw (add-one (p - 1)) (tried v row (p - 1) few (before s some))

pub loop-p-init : goal.loop-p-init
loop-p-init c =
    search_start c.args.v.now c.requires.0 c.padded-row.result (search rules) c.padded-row.ensures

pub returns-then-begins_necklace : goal.returns-then-begins_necklace
returns-then-begins_necklace c =
    let v = c.args.v.now in
    let r = before c.loop-p.invariant (omega arith) in
    found v c.loop-p.row (c.loop-p.p - 1) c.requires.0 r
    (sym (symbol_at v c.loop-p.row (c.loop-p.p - 1) c.requires.0 r) ∙ c.if-x-eq1.true)
    (ap (λ t. passes (scan t)) (sym (part v c.loop-p.row c.loop-p.p c.loop-p.invariant (omega arith) c.requires.0)) ∙ sym c.begins_necklace.ensures ∙ c.if-begins_necklace.true)

pub loop-p-preserved : goal.loop-p-preserved
loop-p-preserved c =
    let v = c.args.v.now in
    let r = before c.loop-p.invariant (omega arith) in
    let x = symbol_at v c.loop-p.row (c.loop-p.p - 1) c.requires.0 r in
    elim c.else-x-eq1.branch [
      | else-x-eq1-via-then-x-eq1+else-begins_necklace w ↦ next_one _ _ _ c.requires.0 r (sym x ∙ w.if-x-eq1.true)
          (ap (λ t. passes (scan t)) (sym (part v c.loop-p.row c.loop-p.p c.loop-p.invariant (omega arith) c.requires.0)) ∙ sym w.begins_necklace.ensures ∙ w.if-begins_necklace.false)
      | else-x-eq1-via-else-x-eq1 w ↦ next_zero _ _ _ c.requires.0 r
          (omega (arith, x, binary_at c.requires.1 (c.loop-p.p - 1), w.if-x-eq1.false))
    ]
