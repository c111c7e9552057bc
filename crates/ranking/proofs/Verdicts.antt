-- Kinds that are counted, and what is known where a rank or a ring at a seat is accepted.
use mathlib.Core.Bool.{Bool, and-false, true}
use mathlib.Core.List.{List}
use mathlib.Core.Path.{ap, refl, sym, ◌∙◌, ◌≡◌}
use Prim.Native.Nat.{ℕ, ◌<◌, ◌≤◌}
use native.Mathlib.Omega.{arith}
use lib.Dec.{leb}
use lib.ListN.{length}
use Rattle.std.specs.Prelude.{Err, Ok, Result}
use borrow.Author.Tests.{le-leb, lt-leb}
use Rattle.density.proofs.Binary.{Binary}
use Rattle.density.proofs.DrawerVerdicts.{InRange, drawer→, needs_then, row→}
use Rattle.density.specs.Drawers.{drawer_needs, drawer_verdict, open_verdict, row_needs}
use Rattle.density.specs.Necklaces.{is_kind}
use Rattle.lyndon_below.specs.InnerTables.{Given}
use Rattle.density.specs.Ranks.{necklace_at, ring_count}
use Rattle.ranking.specs.Answers.{is_counted, rank_verdict, unrank_verdict}
use Rattle.ranking.specs.InnerRanks.{Counted, Seats}
use Rattle.refusal.proofs.Conditions.{one_to_tells}
use Rattle.refusal.proofs.Outcomes.{given_so, refused_so}
use Rattle.refusal.proofs.Stations.{one_to→, →one_to}
use Rattle.refusal.specs.Conditions.{NotOneTo}
use Rattle.refusal.specs.Outcomes.{decide, filled}
use Rattle.refusal.specs.Verdicts.{Verdict, accepted, one_to, refused}
use Rattle.refusal.specs.declared.Refusal.{Refusal}
use Rattle.refusal.specs.declared.Refusal.TheVariants.{Buffer, Seat}
use Rattle.words.proofs.Booleans.{never}
use Rattle.words.specs.Buffers.{fronted}

pub counted_kinds : (kind : ℕ) → is_counted kind ≡ true → (1 ≤ kind) × (kind ≤ 2)
unfolding is_counted
counted_kinds kind e = one_to→ 2 kind e

-- kind 1 is one: the edit total_of_kind_1 cites it
pub counted_one : is_counted 1 ≡ true
unfolding is_counted
counted_one = refl

-- kinds 1 and 2 themselves, and 0 for all others
pub kept_kind : (kind : ℕ) → kind ≤ 2 → is_kind kind ≡ is_counted kind
unfolding is_kind is_counted
kept_kind kind h = rw (le-leb kind 2 h, le-leb kind 3 (omega arith))

pub no_kind : (kind : ℕ) → 2 < kind → is_kind 0 ≡ is_counted kind
unfolding is_kind is_counted
no_kind kind h = rw (lt-leb kind 2 h, and-false (leb 1 kind))

-- a rank that is given
pub record Ranked (n d kind : ℕ) (row : List ℕ) : Type 0 where
  pub verdict : rank_verdict n d kind row ≡ accepted
  pub given : Given row d
  pub long : length row ≡ n
  pub counted : is_counted kind ≡ true

pub row_given : {n d : ℕ} {taken : Bool} {row : List ℕ} → InRange n d taken → length row ≡ n → Binary row → Given row d
row_given i long binary = record { some = omega (arith, long, i.sized.some); few = omega (arith, long, i.sized.most); binary = binary; dense = omega (arith, long, i.dense) }

ranked : (n d kind : ℕ) (row : List ℕ) → rank_verdict n d kind row ≡ accepted → Ranked n d kind row
unfolding rank_verdict
ranked n d kind row e =
    let i = drawer→ n d (is_counted kind) (row_needs n row) e in
    let r = row→ n row i.1 in
    record { verdict = e; given = row_given i.0 r.0 r.1; long = r.0; counted = i.0.kinds }

-- a drawer, and a kind that is counted
abbrev pub drawn : ℕ → ℕ → ℕ → Verdict
drawn n d kind = drawer_needs n d (is_counted kind) accepted

pub counted_of : (n d kind : ℕ) → drawn n d kind ≡ accepted → Counted n d kind
counted_of n d kind e =
    let i = (drawer→ n d (is_counted kind) accepted e).0 in
    record { some = i.sized.some; few = i.sized.most; dense = i.dense; counted = i.kinds }

-- ---- what is checked is another kind, which is a kind exactly if this one is counted

module _ (n d kind other : ℕ) (e : is_kind other ≡ is_counted kind) where
  as_opening : (row : List ℕ) → open_verdict n d other row ≡ rank_verdict n d kind row
  unfolding open_verdict rank_verdict
  as_opening row = ap (λ t. drawer_needs n d t (row_needs n row)) e

  as_drawer : drawer_verdict n d other ≡ drawn n d kind
  unfolding drawer_verdict
  as_drawer = ap (λ t. drawer_needs n d t accepted) e

  module _ (row : List ℕ) {o : Result Unit Refusal} (q : o ≡ decide (open_verdict n d other row) tt) where
    pub rank_refused : {r : Refusal} → o ≡ Err r → rank_verdict n d kind row ≡ refused r
    rank_refused {r} w = sym (as_opening row) ∙ refused_so _ tt r (sym q ∙ w)

    pub rank_accepted : {u : Unit {0}} → o ≡ Ok u → Ranked n d kind row
    rank_accepted {u} w = ranked n d kind row (sym (as_opening row) ∙ given_so _ tt u (sym q ∙ w))

  module _ {o : Result Unit Refusal} (q : o ≡ decide (drawer_verdict n d other) tt) where
    pub drawer_refused : {r : Refusal} → o ≡ Err r → drawn n d kind ≡ refused r
    drawer_refused {r} w = sym as_drawer ∙ refused_so _ tt r (sym q ∙ w)

    pub drawer_accepted : {u : Unit {0}} → o ≡ Ok u → drawn n d kind ≡ accepted
    drawer_accepted {u} w = sym as_drawer ∙ given_so _ tt u (sym q ∙ w)

-- ---- the ring at a seat

module _ (n d kind seat room : ℕ) where
  pub unrank_refused : (r : Refusal) → drawn n d kind ≡ refused r → unrank_verdict n d kind seat room ≡ refused r
  unfolding unrank_verdict
  unrank_refused r e = rw (needs_then n d (is_counted kind), e)

  module _ (e : drawn n d kind ≡ accepted) where
    pub no_room : room < n → unrank_verdict n d kind seat room ≡ refused Buffer
    unfolding unrank_verdict
    no_room h = rw (needs_then n d (is_counted kind), e, lt-leb n room h)

    pub no_seat : n ≤ room → NotOneTo (ring_count n d kind) seat → unrank_verdict n d kind seat room ≡ refused Seat
    unfolding unrank_verdict
    no_seat h out = rw (needs_then n d (is_counted kind), e, le-leb n room h, never (one_to (ring_count n d kind) seat) (λ q. (one_to_tells (ring_count n d kind) seat).1 q out))

    pub seated : n ≤ room → 1 ≤ seat → seat ≤ ring_count n d kind → (unrank_verdict n d kind seat room ≡ accepted) × Seats n d kind seat
    unfolding unrank_verdict
    seated h a b =
        let i = counted_of n d kind e in (
          rw (needs_then n d (is_counted kind), e, le-leb n room h, →one_to a b),
          record { some = i.some; few = i.few; dense = i.dense; counted = i.counted; low = a; high = b },
        )

-- ---- what is handed back

module _ (n d kind seat : ℕ) (out : List ℕ) where
  abbrev verdict : Verdict
  verdict = unrank_verdict n d kind seat (length out)

  abbrev pub Handed : Result Unit Refusal → List ℕ → Type 0
  Handed o after = record { answer : o ≡ decide verdict tt; buffer : after ≡ filled verdict (necklace_at n d kind seat) out }

  pub kept : {o : Result Unit Refusal} (r : Refusal) → o ≡ Err r → verdict ≡ refused r → Handed o out
  kept r h e = rw e record { answer = h; buffer = refl }

  pub written : (row after : List ℕ) → verdict ≡ accepted → row ≡ necklace_at n d kind seat → after ≡ fronted row out
      → Handed (Ok tt) after
  written row after e q p = rw e record { answer = refl; buffer = p ∙ ap (λ t. fronted t out) q }
