-- No step makes more moves than it is allowed: at most `choose n d` rows are to come, so at most 2 ^ n.
use mathlib.Core.List.{List}
use mathlib.Core.Path.{◌≡◌}
use Prim.Native.Nat.{suc, zero, ℕ, ◌*◌, ◌+◌, ◌<◌, ◌^◌, ◌≤◌}
use native.Mathlib.Nat.{le_trans, mul-le-mul_right}
use native.Mathlib.Omega.{arith}
use lib.ListN.{length}
use Rattle.density.proofs.RowCounts.{choose_most, few_rings}
use Rattle.density.specs.Choose.{choose}
use Rattle.density.specs.Necklaces.{necklaces_below, necklaces_up_to}
use Rattle.walk.specs.InnerCourse.{Good, GoodAt, moves_at, size, size_at}
use Rattle.walk.specs.Moves.{Rules}
use Rattle.walk.specs.Step.{enough}
use Rattle.walk.specs.ToCome.{rows_at}
use Rattle.walk.specs.declared.Standing.{Standing}
use Rattle.walk.specs.declared.Standing.TheVariants.{Down, Ended, Given, Limit, Up}
use Rattle.walk.specs.declared.Walk.{Walk}

pub rows_few : (s : Standing) (n d : ℕ) (row : List ℕ) → length (rows_at s n d row) ≤ choose n d
unfolding rows_at necklaces_below necklaces_up_to
rows_few Limit n d row = few_rings n d _
rows_few (Down p) n d row = few_rings n d _
rows_few (Up zero) n d row = omega arith
rows_few (Up (suc i)) n d row = few_rings n d _
rows_few Given n d row = few_rings n d _
rows_few Ended n d row = omega arith

moves_few : (w : Walk) (s : Standing) → GoodAt s w → moves_at w.n s ≤ 4 * w.n + 7
moves_few w Limit g = omega arith
moves_few w (Down p) g = omega arith
moves_few w (Up zero) g = absurd g
moves_few w (Up (suc i)) g = omega arith
moves_few w Given g = omega arith
moves_few w Ended g = absurd g

bound : (l m c a : ℕ) → l ≤ m → a < c + c → l * c + a < (m + 2) * c
bound l m c a h k =
    let p : l * c ≤ m * c = mul-le-mul_right c h in
    let q : (m + 2) * c ≡ m * c + (c + c) = omega arith in
    omega arith

pub moves_enough : {R : Rules} {w : Walk} → Good R w → size w < enough w.n
unfolding size size_at enough
moves_enough {w = w} g =
    bound (length (rows_at w.at w.n w.d w.row)) (2 ^ w.n) (2 * w.n + 4) (moves_at w.n w.at)
    (le_trans (rows_few w.at w.n w.d w.row) (choose_most w.n w.d)) (omega (arith, moves_few w w.at g.placed))

pub enough_some : (n : ℕ) → 0 < enough n
unfolding enough
enough_some n =
    let q : (2 ^ n + 2) * (2 * n + 4) ≡ 2 ^ n * (2 * n + 4) + ((2 * n + 4) + (2 * n + 4)) = omega arith in
    omega arith
