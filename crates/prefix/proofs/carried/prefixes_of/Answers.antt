-- `prefix::carried::prefixes_of` meets its contract. The invariant: p is the period of the first i symbols, the entries before i are those of their prefixes,
-- and the others are still 0.
use mathlib.Core.List.{List, [], ◌++◌, ◌∷◌}
use mathlib.Core.Logic.{inl, inr, ◌⊎◌}
use mathlib.Core.Path.{ap, refl, subst, sym, ◌∙◌, ◌≡◌}
use Prim.Native.Nat.{suc, ℕ, ◌+◌, ◌-◌, ◌<◌, ◌≤◌}
use native.Mathlib.Numerals.{add-one}
use native.Mathlib.Omega.{arith}
use lib.ListN.{get_or, length, length-set, set, take}
use lib.Seq.{get_or-set_other, get_or-set_same, length-take-le, take-suc}
use Rattle.prefix.specs.InnerCarried.{KnowsPrefixes}
use Rattle.words.proofs.Below.{le_or}
use Rattle.words.proofs.ScanMore.{barred_on, more_higher, more_lower, more_same, scan_one}
use Rattle.words.proofs.ScanSteps.{next_at}
use Rattle.words.proofs.Zeros.{zero_at}
use Rattle.words.specs.InnerScan.{coded, next, scan}
use Rattle.words.specs.Symbols.{zeros}
use Rattle.refusal.specs.Verdicts.{most_stations}
use Rattle.prefix.proofs.carried.prefixes_of.Invariants.{Inv}
use Rattle.prefix.proofs.carried.prefixes_of.Goals as goal
use Rattle.prefix.proofs.carried.prefixes_of.Goals.{else-a-i+else-a-i-2, then-a-i}

first_scan : (a : List ℕ) → 1 ≤ length a → coded 1 ≡ scan (take 1 a)
first_scan [] h = absurd (omega arith)
first_scan (b ∷ a) h = sym (scan_one b)

inv_first : (a : List ℕ) → Inv a (zeros most_stations) 1 0 1
inv_first a = record {
  behind = omega arith;
  long = refl;
  period = refl;
  scans = first_scan a;
  each = λ m h k l. absurd (omega arith);
  rest = λ m h. zero_at most_stations m;
  within = λ m. omega (arith, zero_at most_stations m);
}

module _ {a found : List ℕ} {i j p : ℕ} (v : Inv a found i j p) (h : i < length a) (few : length a ≤ most_stations) where
  inside : i < length found
  inside = omega (arith, v.long)

  here : get_or (set found i p) i 0 ≡ p
  here = get_or-set_same found i p 0 inside

  other : (m : ℕ) → (m ≡ i → ⊥) → get_or (set found i p) m 0 ≡ get_or found m 0
  other m k = get_or-set_other found i m p 0 k

  data Place (m : ℕ) : Type 0 where
    before : m < i → Place m
    at : m ≡ i → Place m
    behind_it : i < m → Place m

  place : (m : ℕ) → Place m
  place m = go (le_or i m) (le_or m i)
    where
      go : (i ≤ m) ⊎ (m < i) → (m ≤ i) ⊎ (i < m) → Place m
      go (inr k) l = before k
      go (inl k) (inl l) = at (omega arith)
      go (inl k) (inr l) = behind_it l

  wrote_each : (m : ℕ) → 0 < m → m < i + 1 → m < length a → coded (get_or (set found i p) m 0) ≡ scan (take m a)
  wrote_each m k l n = go (place m)
    where
      go : Place m → coded (get_or (set found i p) m 0) ≡ scan (take m a)
      go (before q) = rw (other m (λ e. omega arith)) (v.each m k q n)
      go (at e) = rw (e, here) (v.scans (omega arith))
      go (behind_it q) = absurd (omega arith)

  wrote_rest : (m : ℕ) → i + 1 ≤ m → get_or (set found i p) m 0 ≡ 0
  wrote_rest m k = other m (λ e. omega arith) ∙ v.rest m (omega arith)

  wrote_within : (m : ℕ) → get_or (set found i p) m 0 ≤ m
  wrote_within m = go (place m)
    where
      go : Place m → get_or (set found i p) m 0 ≤ m
      go (before q) = rw (other m (λ e. omega arith)) (v.within m)
      go (at e) = rw (e, here) (omega (arith, v.period))
      go (behind_it q) = rw (other m (λ e. omega arith)) (v.within m)

  size : length (take i a) ≡ i
  size = length-take-le i a (omega arith)

  compared : next p (take i a) ≡ get_or a j 0
  compared =
      let e : i - p ≡ j = omega (arith, v.period, v.behind) in
      next_at a p i h (omega (arith, v.period)) (omega (arith, v.period, v.behind)) ∙ ap (λ k. get_or a k 0) e

  abbrev Longer : ℕ → Type 0
  Longer q = coded q ≡ scan (take (i + 1) a)

  longer : (q : ℕ) → coded q ≡ scan (take i a ++ (get_or a i 0 ∷ [])) → Longer q
  longer q e = rw (add-one, take-suc a i 0 h) e

  some : 0 < length (take i a)
  some = omega (arith, size, v.behind)

  positive : 0 < p
  positive = omega (arith, v.period, v.behind)

  on_lower : get_or a i 0 < get_or a j 0 → KnowsPrefixes a (set found i p)
  on_lower q = record { each = all; within = wrote_within }
    where
      none : Longer 0
      none = longer 0 (more_lower (take i a) p (get_or a i 0) some (v.scans (omega arith)) positive (rw compared q))

      all : (m : ℕ) → 0 < m → m < length a → coded (get_or (set found i p) m 0) ≡ scan (take m a)
      all m k l = go (le_or (i + 1) m)
        where
          go : (i + 1 ≤ m) ⊎ (m < i + 1) → coded (get_or (set found i p) m 0) ≡ scan (take m a)
          go (inl n) =
              let e : m - (i + 1) + (i + 1) ≡ m = omega arith in
              rw (wrote_rest m n) (subst (λ t. coded 0 ≡ scan (take t a)) e (barred_on a (i + 1) (m - (i + 1)) (omega arith) (omega arith) none))
          go (inr n) = wrote_each m k n l

  on_same : get_or a i 0 ≡ get_or a j 0 → Inv a (set found i p) (i + 1) (j + 1) p
  on_same q = record {
    behind = omega (arith, v.behind);
    long = length-set found i p ∙ v.long;
    period = omega (arith, v.period);
    scans = λ l. longer p (more_same (take i a) p (get_or a i 0) some (v.scans (omega arith)) positive (q ∙ sym compared));
    each = wrote_each;
    rest = wrote_rest;
    within = wrote_within;
  }

  more : suc (length (take i a)) ≡ i + 1
  more = omega (arith, size)

  on_higher : get_or a j 0 < get_or a i 0 → Inv a (set found i p) (i + 1) 0 (i + 1)
  on_higher q = record {
    behind = omega arith;
    long = length-set found i p ∙ v.long;
    period = omega arith;
    scans = λ l. subst Longer more (longer (suc (length (take i a))) (more_higher (take i a) p (get_or a i 0) some (v.scans (omega arith)) positive (rw compared q)));
    each = wrote_each;
    rest = wrote_rest;
    within = wrote_within;
  }

pub loop-i-init : goal.loop-i-init
loop-i-init c = inv_first c.args.a.now

pub returns-then-a-i-2 : goal.returns-then-a-i-2
returns-then-a-i-2 c =
    on_lower c.loop-i.invariant (omega arith) c.requires c.if-a-i-2.true

pub loop-i-preserved : goal.loop-i-preserved
loop-i-preserved c =
    elim c.if-a-i.branch [
      | then-a-i w ↦ rw (w.j-is, w.p-is) (on_same c.loop-i.invariant (omega arith) c.requires w.if-a-i.true)
      | else-a-i+else-a-i-2 w ↦ rw (w.j-is, w.p-is) (on_higher c.loop-i.invariant (omega arith) c.requires (omega arith))
    ]
