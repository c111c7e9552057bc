-- `extension::goes_on` meets its contract. The invariant: the comparison of g with the largest necklace is that of what is left of the two from place k,
-- and the error is what is left of k e behind its floor.
use mathlib.Core.Path.{sym, ◌∙◌, ◌≡◌}
use Prim.Native.Nat.{suc, ℕ, ◌<◌, ◌*◌, ◌+◌, ◌-◌, ◌/◌, ◌≤◌}
use native.Mathlib.Numerals.{add-one}
use native.Mathlib.Omega.{arith}
use Rattle.density.proofs.ErrorTerm.{Error, fit_end, fit_higher, fit_long, fit_lower, fit_same, stays, steps}
use Rattle.density.proofs.FirstOne.{product_else, product_not}
use Rattle.extension.proofs.Fits.{fits_few, fits_many, fits_some, product_fits}
use Rattle.extension.proofs.goes_on.Goals as goal
use Rattle.extension.proofs.goes_on.Goals.{else-m-error, then-m-error}

-- the symbol that the error term gives, and the error term behind it
symbol_one : (m e k error : ℕ) {s next : ℕ} → Error m e k error → e ≤ m → m ≤ error + e → s ≡ 1 → next ≡ error + e - m → (s ≡ suc k * e / m - k * e / m) × Error m e (suc k) next
symbol_one m e k error q p h f g = let t = steps m e k error q p h in rw (f, g) (sym t.0, t.1)

symbol_zero : (m e k error : ℕ) {s next : ℕ} → Error m e k error → error + e < m → s ≡ 0 → next ≡ error + e → (s ≡ suc k * e / m - k * e / m) × Error m e (suc k) next
symbol_zero m e k error q h f g = let t = stays m e k error q h in rw (f, g) (sym t.0, t.1)

pub returns-then-d-h : goal.returns-then-d-h
returns-then-d-h c =
    let args = c.args in
    sym (fits_many args.d args.m args.g.now (omega arith))

pub returns-then-m-e : goal.returns-then-m-e
returns-then-m-e c =
    let args = c.args in
    sym (fits_few args.d args.m args.g.now (omega arith))

pub returns-then-m-z : goal.returns-then-m-z
returns-then-m-z c =
    let args = c.args in
    sym (product_fits args.g.now args.m args.d args.h args.z c.requires.4 (omega arith) c.requires.1 (omega arith) (omega arith) c.if-m-z.true)

pub returns-then-first-m : goal.returns-then-first-m
returns-then-first-m c =
    let args = c.args in
    sym ((fits_some args.d args.m args.h args.g.now c.requires.1 (omega arith) (omega arith) (omega arith)) ∙ product_not args.g.now args.m (args.d - args.h) args.z c.requires.4 (omega arith) (omega arith) (omega arith) (rw add-one at c.if-first-m.true))

pub loop-k-init : goal.loop-k-init
loop-k-init c =
    let args = c.args in
    let t = product_else args.g.now args.m (args.d - args.h) args.z c.requires.4 (omega arith) (omega arith) (omega arith) (omega (arith, c.requires.5 args.z (omega arith))) c.if-m-z.false (rw add-one at c.if-first-m.false) in
    let some = fits_some args.d args.m args.h args.g.now c.requires.1 (omega arith) (omega arith) (omega arith) in
    rw add-one record { error = t.0; same = some ∙ t.1 }

pub returns-then-m-k : goal.returns-then-m-k
returns-then-m-k c =
    let args = c.args in
    sym (c.loop-k.invariant.same ∙ fit_long args.g.now args.m (args.d - args.h) c.loop-k.k (omega arith) (omega arith))

pub returns-then-g-k : goal.returns-then-g-k
returns-then-g-k c =
    let args = c.args in
    let e = args.d - args.h in
    let q = c.loop-k.invariant.error in
    let s : (c.if-m-error.s ≡ suc c.loop-k.k * e / args.m - c.loop-k.k * e / args.m) × Error args.m e (suc c.loop-k.k) c.if-m-error.error =
    elim c.if-m-error.branch [
      | then-m-error w ↦ symbol_one args.m e c.loop-k.k c.loop-k.error q (omega arith) w.if-m-error.true w.s-is w.error-is
      | else-m-error w ↦ symbol_zero args.m e c.loop-k.k c.loop-k.error q w.if-m-error.false w.s-is w.error-is
    ] in
    sym (c.loop-k.invariant.same ∙ fit_lower args.g.now args.m e c.loop-k.k (omega arith) (omega arith) (rw (← s.0) c.if-g-k.true))

pub returns-then-s-g : goal.returns-then-s-g
returns-then-s-g c =
    let args = c.args in
    let e = args.d - args.h in
    let q = c.loop-k.invariant.error in
    let s : (c.if-m-error.s ≡ suc c.loop-k.k * e / args.m - c.loop-k.k * e / args.m) × Error args.m e (suc c.loop-k.k) c.if-m-error.error =
    elim c.if-m-error.branch [
      | then-m-error w ↦ symbol_one args.m e c.loop-k.k c.loop-k.error q (omega arith) w.if-m-error.true w.s-is w.error-is
      | else-m-error w ↦ symbol_zero args.m e c.loop-k.k c.loop-k.error q w.if-m-error.false w.s-is w.error-is
    ] in
    sym (c.loop-k.invariant.same ∙ fit_higher args.g.now args.m e c.loop-k.k (omega arith) (omega arith) (rw (← s.0) c.if-s-g.true))

pub loop-k-preserved : goal.loop-k-preserved
loop-k-preserved c =
    let args = c.args in
    let e = args.d - args.h in
    let q = c.loop-k.invariant.error in
    let s : (c.if-m-error.s ≡ suc c.loop-k.k * e / args.m - c.loop-k.k * e / args.m) × Error args.m e (suc c.loop-k.k) c.if-m-error.error =
    elim c.if-m-error.branch [
      | then-m-error w ↦ symbol_one args.m e c.loop-k.k c.loop-k.error q (omega arith) w.if-m-error.true w.s-is w.error-is
      | else-m-error w ↦ symbol_zero args.m e c.loop-k.k c.loop-k.error q w.if-m-error.false w.s-is w.error-is
    ] in
    rw add-one record {
      error = s.1;
      same = c.loop-k.invariant.same ∙ fit_same args.g.now args.m e c.loop-k.k (omega arith) (omega arith) (rw (← s.0) (omega arith));
    }

pub returns : goal.returns
returns c =
    let args = c.args in
    sym (c.loop-k.invariant.same ∙ fit_end args.g.now args.m (args.d - args.h) c.loop-k.k (omega arith))
