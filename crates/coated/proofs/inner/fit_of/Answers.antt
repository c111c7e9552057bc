-- `coated::inner::fit_of` meets its contract: the nearest turns of the row and of its reverse.
use mathlib.Core.List.{List, reverse}
use mathlib.Core.Path.{ap, sym, ◌∙◌, ◌≡◌}
use Prim.Native.Nat.{ℕ, ◌<◌, ◌≤◌}
use native.Mathlib.Omega.{arith}
use lib.ListN.{length, length-reverse, take}
use lib.Seq.{length-take-le}
use Rattle.bracelet.proofs.Parts.{reversed_part, reversed_room}
use Rattle.coated.proofs.FitAnswers.{Searched, fit_both, fit_different, fit_over, fit_turning}
use Rattle.coated.specs.Answers.{turn_found}
use Rattle.coated.specs.Fitting.{nearest_turn, rotates_to}
use lib.IntN.{ℤ}
use Rattle.std.specs.Prelude.{Option}
use Rattle.refusal.specs.Verdicts.{most_stations}
use Rattle.words.specs.Buffers.{fronted}
use Rattle.coated.proofs.inner.fit_of.Goals as goal

pub slice_bounds-back-end : goal.slice_bounds-back-end
slice_bounds-back-end c =
    reversed_room c.args.row.now _ _
    c.write_reversed.ensures

pub slice_bounds-nearest_turn-end : goal.slice_bounds-nearest_turn-end
slice_bounds-nearest_turn-end c = sym (length-take-le _ _ (reversed_room c.args.row.now _ _ c.write_reversed.ensures))

pub nearest_turn-over-requires : goal.nearest_turn-over-requires
nearest_turn-over-requires c =
    let row = c.args.row.now in
    let l = length-reverse row in
    rw (reversed_part row _ _ c.write_reversed.ensures)
    (omega (arith, l, c.requires), omega (arith, l, c.requires), omega (arith, l, c.requires))

-- what the two searches gave
searched : (row other back rest : List ℕ) (p o : Option ℤ) → 0 < length row → length row ≤ most_stations
    → p ≡ turn_found (rotates_to row other) (nearest_turn row other)
    → back ≡ fronted (reverse row) rest
    → o ≡ turn_found (rotates_to (take (length row) back) other) (nearest_turn (take (length row) back) other)
    → Searched row other p o
searched row other back rest p o s m e b f =
    record {
      some = s;
      most = m;
      plain = e;
      over = f ∙ ap (λ w. turn_found (rotates_to w other) (nearest_turn w other)) (reversed_part row rest back b);
    }

pub returns-in-Some-Some : goal.returns-in-Some-Some
returns-in-Some-Some c = fit_both (searched _ _ _ _ _ _ c.requires.0 c.requires.1 c.nearest_turn-plain.ensures c.write_reversed.ensures c.nearest_turn-over.ensures) _ _
    c.in-Some-Some.is-0 c.in-Some-Some.is-1

pub returns-in-None-None : goal.returns-in-None-None
returns-in-None-None c = fit_different (searched _ _ _ _ _ _ c.requires.0 c.requires.1 c.nearest_turn-plain.ensures c.write_reversed.ensures c.nearest_turn-over.ensures)
    c.in-None-None.is-0 c.in-None-None.is-1

pub returns-in-None-Some : goal.returns-in-None-Some
returns-in-None-Some c = fit_over (searched _ _ _ _ _ _ c.requires.0 c.requires.1 c.nearest_turn-plain.ensures c.write_reversed.ensures c.nearest_turn-over.ensures) _
    c.in-None-Some.is-0 c.in-None-Some.is-1

pub returns-in-Some-None : goal.returns-in-Some-None
returns-in-Some-None c = fit_turning (searched _ _ _ _ _ _ c.requires.0 c.requires.1 c.nearest_turn-plain.ensures c.write_reversed.ensures c.nearest_turn-over.ensures) _
    c.in-Some-None.is-0 c.in-Some-None.is-1
