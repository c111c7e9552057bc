-- `walk::Walk::go_on` meets its contract: by where the walk stands.
use mathlib.Core.Logic.{inl, inr, ◌⊎◌}
use mathlib.Core.Path.{refl, subst, sym, ◌∙◌, ◌≡◌}
use Prim.Native.Nat.{ℕ, ◌-◌, ◌≤◌}
use native.Mathlib.Omega.{arith}
use lib.ListN.{length, take}
use lib.Seq.{length-take-le, take-take}
use Rattle.prefix.proofs.CarriedLaws.{knows_fewer}
use Rattle.prefix.specs.InnerCarried.{Knows, KnowsPrefixes}
use Rattle.walk.proofs.MoveCases.{good_down, good_long, good_up}
use Rattle.walk.proofs.Resuming.{ended_resumes}
use Rattle.walk.specs.InnerCourse.{Good, GoodAt, before}
use Rattle.walk.specs.Moves.{rules}
use Rattle.walk.specs.declared.Standing.{Standing}
use Rattle.walk.specs.declared.Standing.TheVariants.{Down, Ended, Up}
use Rattle.refusal.specs.Verdicts.{most_stations}
use Rattle.words.proofs.Booleans.{clash}
use mathlib.Core.List.{List}
use Rattle.prefix.specs.declared.carried.Known.{Known}
use Rattle.walk.specs.declared.Walk.{Walk}
use Rattle.walk.specs.InnerCourse.{Informed}
use Rattle.walk.proofs.Walk.go_on.Goals as goal

module _ {w : Walk} {prefixes : List ℕ} {known : Known} (i : Informed w prefixes known) where
  -- a walk that has not ended is good
  good : (at : Standing) → w.at ≡ at → (at ≡ Ended → ⊥) → Good rules w
  good at e h = record { sound = i.ready.sound; placed = go i.ready.placed }
    where
      go : (w.at ≡ Ended) ⊎ GoodAt w.at w → GoodAt w.at w
      go (inl q) = absurd (h (sym e ∙ q))
      go (inr q) = q

  known_at : (at : Standing) → w.at ≡ at → Knows (take (before at w.n) w.row) known
  known_at at e = subst (λ t. Knows (take (before t w.n) w.row) known) e i.knows

  -- what is known of the symbols before place p
  known_before : (p : ℕ) → p - 1 ≤ w.n → Knows (take (w.n - (w.n - (p - 1))) w.row) known → Knows (take (p - 1) w.row) known
  known_before p h k = let here : w.n - (w.n - (p - 1)) ≡ p - 1 = omega arith in rw here at k

  -- the prefixes of them
  table_at : (p : ℕ) → p ≤ w.n → length w.row ≡ most_stations → w.n ≤ most_stations → KnowsPrefixes (take (p - 1) w.row) prefixes
  table_at p h l few =
      let size : length (take w.n w.row) ≡ w.n = length-take-le w.n w.row (omega arith) in
      subst (λ a. KnowsPrefixes a prefixes) (take-take (p - 1) w.n w.row (omega arith)) (knows_fewer (take w.n w.row) prefixes (p - 1) (omega (arith, size)) i.table)

pub descend-requires : goal.descend-requires
descend-requires c =
    let e = c.in-Down.is in
    let g = good c.requires (Down _) e (λ z. clash (cc)) in (
      e,
      g,
      table_at c.requires _ (good_down g _ e) (good_long g) g.sound.most,
      known_before c.requires _ (omega (arith, good_down g _ e)) (known_at c.requires (Down _) e),
    )

pub ascend-requires : goal.ascend-requires
ascend-requires c =
    let e = c.in-Up.is in
    let g = good c.requires (Up _) e (λ z. clash (cc)) in
    (e, g, known_before c.requires _ (omega (arith, (good_up g _ e).1)) (known_at c.requires (Up _) e))

pub returns-in-Ended : goal.returns-in-Ended
returns-in-Ended c = ended_resumes c.args.self c.args.left _ c.in-Ended.is refl refl refl
