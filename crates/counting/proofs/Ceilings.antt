-- What is counted on the way is at most a binomial coefficient: the ceilings for 64-bit numbers.
use mathlib.Core.Bool.{Bool, false, true}
use mathlib.Core.List.{List}
use Prim.Native.Nat.{suc, zero, ℕ, ◌*◌, ◌/◌, ◌<◌, ◌^◌, ◌≤◌}
use native.Mathlib.Nat.{pow-le-pow_right}
use native.Mathlib.Omega.{arith}
use lib.ListN.{length}
use Rattle.counting.proofs.BlockCount.{chains_number, exactly}
use Rattle.counting.proofs.Paths.{paths}
use Rattle.counting.proofs.Reading.{Alive, track}
use Rattle.counting.proofs.RowCounts.{density-count}
use Rattle.counting.proofs.Sums.{delta, total-le}
use Rattle.counting.specs.InnerBlocks.{chains}
use Rattle.density.proofs.RowCounts.{choose_most, choose_under}
use Rattle.density.specs.Choose.{choose}
use Rattle.counting.specs.InnerRoots.{rows_above, rows_below}
use Rattle.counting.specs.InnerSums.{flag, has_density}
use Rattle.density.proofs.Binary.{Binary}
use Rattle.density.specs.Density.{all_rows, density}
use Rattle.words.proofs.Power.{power}
use Rattle.words.specs.Order.{le, lt, same}
use Rattle.words.specs.Rotation.{least_rotation}

times_few : (b : Bool) (s : ℕ) → s ≤ 1 → flag b * s ≤ flag b
times_few true s h = omega arith
times_few false s h = omega arith

flag_few : (b : Bool) → flag b ≤ 1
flag_few true = omega arith
flag_few false = omega arith

delta_few : (a b : List ℕ) → delta a b ≤ 1
unfolding delta
delta_few a b = flag_few (same a b)

-- each entry of the table of sequences of blocks
pub chains_few : (v : List ℕ) → Alive v → Binary v → (f l g : ℕ) → l ≤ f → chains v f l g ≤ choose l g
unfolding paths
chains_few v a b f l g h =
    let few = total-le (λ x. exactly g (density x) * delta (track v v x) v) (λ x. flag (has_density g x)) (all_rows l) (λ x m. times_few (has_density g x) (delta (track v v x) v) (delta_few (track v v x) v)) in
    omega (arith, chains_number v a b f l g h, density-count l g, few)

-- the rows above v
pub above_few : (v : List ℕ) (e : ℕ) → rows_above v e ≤ choose (length v) e
unfolding rows_above
above_few v e =
    let few = total-le (λ x. flag (has_density e x) * flag (lt v (least_rotation x))) (λ x. flag (has_density e x)) (all_rows (length v)) (λ x m. times_few (has_density e x) (flag (lt v (least_rotation x))) (flag_few (lt v (least_rotation x)))) in
    omega (arith, density-count (length v) e, few)

-- the rows at or below w
pub rows_few : (n : ℕ) (w : List ℕ) (m e : ℕ) → rows_below n w m e ≤ choose m e
unfolding rows_below
rows_few n w m e =
    let few = total-le (λ x. flag (has_density e x) * flag (le (power (n / m) (least_rotation x)) w)) (λ x. flag (has_density e x)) (all_rows m) (λ x i. times_few (has_density e x) (flag (le (power (n / m) (least_rotation x)) w)) (flag_few (le (power (n / m) (least_rotation x)) w))) in
    omega (arith, density-count m e, few)

-- so each of up to 64 symbols is a 64-bit number
pub choose-fits : (n d : ℕ) → n ≤ 64 → choose n d < 2 ^ 64
choose-fits zero d h = omega (arith, choose_most 0 d)
choose-fits (suc n) d h =
    let p : 2 ^ suc n ≤ 2 ^ 64 = pow-le-pow_right (omega arith) h in
    omega (arith, choose_under (suc n) d (omega arith), p)
