-- The holes of a list's row: hole k + 1 lies where the first k + 1 pitches end.
use mathlib.Core.List.{List, append_assoc, ◌++◌, ◌∷◌}
use mathlib.Core.Path.{ap, sym, ◌∙◌, ◌≡◌}
use Prim.Native.Nat.{suc, ℕ, ◌-◌, ◌<◌}
use native.Mathlib.Omega.{arith}
use lib.ListN.{drop, get_or, length, length-append, take, take-append-drop}
use lib.Seq.{get_or_at, length-take-le, take_at}
use Rattle.density.specs.Blocks.{blocks}
use Rattle.density.specs.Density.{density}
use Rattle.pitches.proofs.Blocks.{block_next, blocks-append, blocks-length}
use Rattle.pitches.proofs.Positive.{Positive, positive_at, positive_take}
use Rattle.pitches.proofs.RoundTrip.{row_density, row_of_some}
use Rattle.words.specs.Symbols.{sum, zeros}

module _ {pitches : List ℕ} (v : Positive pitches) (k : ℕ) (h : k < length pitches) where
  -- the blocks up to that hole, and those behind it
  cut : blocks pitches ≡ blocks (take (suc k) pitches) ++ blocks (drop (suc k) pitches)
  cut = ap blocks (sym (take-append-drop (suc k) pitches)) ∙ blocks-append (take (suc k) pitches) (drop (suc k) pitches)

  pub hole_at : get_or (blocks pitches) (sum (take (suc k) pitches) - 1) 0 ≡ 1
  hole_at =
      let z : ℕ = get_or pitches k 0 - 1 in
      let b = blocks (take k pitches) in
      let next = block_next pitches k h (positive_at v k h) in
      let is : blocks pitches ≡ (b ++ zeros z) ++ (1 ∷ blocks (drop (suc k) pitches)) = cut ∙ rw next (simp append_assoc) in
      let long : length (b ++ zeros z) ≡ sum (take (suc k) pitches) - 1 = omega (arith, blocks-length (take (suc k) pitches), simp length-append at (ap length next), length-append b (zeros z)) in
      rw is (get_or_at (b ++ zeros z) 1 (blocks (drop (suc k) pitches)) 0 (sum (take (suc k) pitches) - 1) long)

  pub holes_upto : density (take (sum (take (suc k) pitches)) (blocks pitches)) ≡ suc k
  holes_upto =
      let a = take (suc k) pitches in
      let long = length-take-le (suc k) pitches h in
      rw (cut, take_at (blocks a) (blocks (drop (suc k) pitches)) (sum a) (blocks-length a)) (ap density (sym (row_of_some 0 a (omega arith))) ∙ row_density 0 (positive_take (suc k) v) ∙ long)
