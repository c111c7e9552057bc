-- The verdicts on a drawer, and on a drawer and a limit.
use mathlib.Core.Bool.{Bool, false, true}
use mathlib.Core.List.{List}
use mathlib.Core.Path.{refl, ◌≡◌}
use Prim.Native.Nat.{ℕ, ◌≤◌}
use lib.Dec.{eqb, leb}
use lib.ListN.{length}
use borrow.Author.Tests.{eqb-true, leb-true}
use Rattle.density.proofs.Binary.{Binary, no_wrong}
use Rattle.density.specs.Drawers.{NoKind, drawer_conditions, drawer_needs, drawer_verdict, open_verdict, row_conditions, row_needs}
use Rattle.density.specs.Necklaces.{is_kind}
use Rattle.refusal.proofs.Conditions.{Chain, Tells, at_most_tells, equal_tells, need→, one_to_tells, passed, stations_tell, test}
use Rattle.refusal.proofs.Stations.{Sized, stations→}
use Rattle.refusal.specs.Conditions.{Conditions}
use Rattle.refusal.specs.Verdicts.{Verdict, accepted, are_stations, need, refused}
use Rattle.refusal.specs.declared.Refusal.TheVariants.{Holes, Kind, Stations}
use Rattle.words.proofs.Claims.{other_tells}
use Rattle.words.specs.Symbols.{first_wrong}

-- ---- as chains of conditions

pub kind_tells : (kind : ℕ) → Tells (is_kind kind) (NoKind kind)
unfolding is_kind
kind_tells kind = one_to_tells 3 kind

-- 1, 2 and 5, and what follows them
pub drawer_chain : (n d : ℕ) {taken : Bool} {NotTaken : Type 0} → Tells taken NotTaken → {rest : Conditions} {v : Verdict} → Chain rest v → Chain (drawer_conditions n d NotTaken rest) (drawer_needs n d taken v)
drawer_chain n d t more = test _ (stations_tell n) (λ a. test _ (at_most_tells d n) (λ b. test _ t (λ c. more)))

-- 4 and 3
pub row_chain : (n : ℕ) (row : List ℕ) → Chain (row_conditions n row) (row_needs n row)
row_chain n row = test _ (equal_tells (length row) n) (λ e. test _ (other_tells 2 row) (λ f. passed))

-- ---- first (n, d) and the kind, then the rest

abbrev pub and_then : Verdict → Verdict → Verdict
and_then accepted v = v
and_then (refused r) v = refused r

pub needs_then : (n d : ℕ) (taken : Bool) (v : Verdict) → drawer_needs n d taken v ≡ and_then (drawer_needs n d taken accepted) v
needs_then n d taken v = go (are_stations n) (leb d n) taken
  where
    go : (a b c : Bool) → need a Stations (need b Holes (need c Kind v)) ≡ and_then (need a Stations (need b Holes (need c Kind accepted))) v
    go false b c = refl
    go true false c = refl
    go true true false = refl
    go true true true = refl

pub drawer_then : (n d kind : ℕ) (v : Verdict) → drawer_needs n d (is_kind kind) v ≡ and_then (drawer_verdict n d kind) v
unfolding drawer_verdict
drawer_then n d kind v = needs_then n d (is_kind kind) v

-- ---- what was tested where all is accepted

pub record InRange (n d : ℕ) (taken : Bool) : Type 0 where
  pub sized : Sized n
  pub dense : d ≤ n
  pub kinds : taken ≡ true

-- of a drawer, and what follows
pub drawer→ : (n d : ℕ) (taken : Bool) (rest : Verdict) → drawer_needs n d taken rest ≡ accepted → InRange n d taken × (rest ≡ accepted)
drawer→ n d taken rest e =
    let a = need→ (are_stations n) _ _ e in
    let b = need→ (leb d n) _ _ a.1 in
    let c = need→ taken _ _ b.1 in
    (record { sized = stations→ n a.0; dense = leb-true d n b.0; kinds = c.0 }, c.1)

-- of a row
pub row→ : (n : ℕ) (row : List ℕ) → row_needs n row ≡ accepted → (length row ≡ n) × Binary row
row→ n row e =
    let l = need→ (eqb (length row) n) _ _ e in
    let f = need→ (eqb (first_wrong 2 row) 0) _ _ l.1 in
    (eqb-true (length row) n l.0, no_wrong row (eqb-true (first_wrong 2 row) 0 f.0))

-- of an opening
pub record Passed (n d kind : ℕ) (limit : List ℕ) : Type 0 where
  pub drawer : InRange n d (is_kind kind)
  pub long : length limit ≡ n
  pub binary : Binary limit

pub accepted→ : (n d kind : ℕ) (limit : List ℕ) → open_verdict n d kind limit ≡ accepted → Passed n d kind limit
unfolding open_verdict
accepted→ n d kind limit e =
    let a = drawer→ n d (is_kind kind) (row_needs n limit) e in
    let b = row→ n limit a.1 in
    record { drawer = a.0; long = b.0; binary = b.1 }
