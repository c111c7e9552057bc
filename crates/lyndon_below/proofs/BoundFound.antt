-- The bound, where there is one, begins a necklace; of the rows, those that have no rotation up to it are above it.
use mathlib.Core.Bool.{Bool}
use mathlib.Core.List.{List}
use mathlib.Core.Path.{ap, refl, subst, sym, ◌∙◌, ◌≡◌}
use Prim.Native.Nat.{suc, ℕ, ◌-◌, ◌/◌, ◌<◌, ◌≤◌}
use native.Mathlib.Omega.{arith}
use lib.ListN.{length, take}
use Rattle.counting.proofs.Ceilings.{above_few}
use Rattle.counting.proofs.Recursion.{factor_fits}
use Rattle.counting.proofs.RowsBelow.{Bounds, bounded, count_to, highest_is, m_pos, no_bound, rows_below_lem, v_binary, v_long}
use Rattle.counting.specs.InnerRoots.{rows_above, rows_below}
use Rattle.counting.specs.InnerBound.{Bound, at, highest_up_to, none}
use Rattle.density.specs.Choose.{choose}
use Rattle.density.proofs.Binary.{Binary}
use Rattle.pascal.proofs.LookUp.{in_table, looked_up}
use Rattle.pascal.specs.Answers.{ways_verdict}
use Rattle.pascal.specs.Pascal.{entry_of, last_row, triangle}
use Rattle.refusal.specs.Outcomes.{decide}
use Rattle.refusal.specs.declared.Refusal.{Refusal}
use Rattle.std.specs.Prelude.{Ok, Result}
use Rattle.rows_above.specs.InnerTables.{Opening}
use Rattle.lyndon_below.specs.InnerParts.{Part}
use Rattle.words.proofs.Power.{power}
use Rattle.words.specs.Order.{le}

pub bound_opening : (t : Bool) (v : List ℕ) → 0 < length v → length v ≤ last_row → Binary v → (u : List ℕ) → at u ≡ highest_up_to t v → (length u ≡ length v) × Opening u
bound_opening t v p f b u e = go (highest_is t v p b) e
  where
    go : {h : Bound} → Bounds t v h → at u ≡ h → (length u ≡ length v) × Opening u
    go (no_bound n) e = let z : ◌≡◌ {A = ℕ} 0 1 = cc in absurd (omega arith)
    go (bounded {u = x} l c s n) e =
        let same : x ≡ u = cc in
        let long : length u ≡ length v = ap length (sym same) ∙ l in
        (long, record { some = omega arith; few = omega arith; binary = subst Binary same c; pre = rw same at s })

module _ (w : List ℕ) (m e : ℕ) (s : Part w m e) where
  pub some : 0 < m
  some = m_pos (length w) w m e s.some s.divides refl s.binary

  pub m_fits : m ≤ length w
  m_fits = factor_fits m (length w / m) (length w) s.some s.divides

  pub first_size : length (take m w) ≡ m
  first_size = v_long (length w) w m e s.some s.divides refl s.binary

  pub first_binary : Binary (take m w)
  first_binary = v_binary (length w) w m e s.some s.divides refl s.binary

  below : rows_below (length w) w m e ≡ count_to (highest_up_to (le (power (length w / m) (take m w)) w) (take m w)) m e
  below = rows_below_lem (length w) w m e s.some s.divides refl s.binary

  -- the ways that the table has
  pub ways_found : (t : List ℕ) {r : Result ℕ Refusal} → t ≡ triangle (suc last_row)
      → r ≡ decide (ways_verdict m e) (entry_of t m e) → r ≡ Ok (choose m e)
  ways_found t p q =
      q
      ∙ ap (λ x. decide (ways_verdict m e) (entry_of x m e)) p
      ∙ looked_up m e
      ∙ ap (λ v. decide v (choose m e)) (in_table m e (omega (arith, m_fits, s.few)) s.dense)

  -- the bound found
  module _ (t : Bool) (u : List ℕ) (is : at u ≡ highest_up_to t (take m w)) where
    pub opening : (length u ≡ m) × Opening u
    opening = let o = bound_opening t (take m w) (omega (arith, first_size, some)) (omega (arith, first_size, m_fits, s.few)) first_binary u is in (o.0 ∙ first_size, o.1)

    pub above_below : rows_above u e ≤ choose m e
    above_below = subst (λ k. rows_above u e ≤ choose k e) opening.0 (above_few u e)

    pub counted : t ≡ le (power (length w / m) (take m w)) w → choose m e - rows_above u e ≡ rows_below (length w) w m e
    counted q = ap (λ h. count_to h m e) (is ∙ ap (λ b. highest_up_to b (take m w)) q) ∙ sym below

  pub counted_none : (t : Bool) → none ≡ highest_up_to t (take m w) → t ≡ le (power (length w / m) (take m w)) w → 0 ≡ rows_below (length w) w m e
  counted_none t is q = ap (λ h. count_to h m e) (is ∙ ap (λ b. highest_up_to b (take m w)) q) ∙ sym below
