-- The turn that a signed number stands for is its remainder.
use mathlib.Core.Bool.{cond}
use mathlib.Core.Path.{ap, sym, ◌∙◌, ◌≡◌}
use Prim.Native.Nat.{suc, zero, ℕ, ◌%◌, ◌*◌, ◌+◌, ◌-◌, ◌/◌, ◌<◌}
use native.Mathlib.Nat.{div-add-mod', mod-eq_of_lt, mod-lt, mod_self}
use native.Mathlib.Omega.{arith}
use lib.IntN.{negsuc, neg_ℤ, pos, ◌*ℤ◌, ◌+ℤ◌}
use borrow.Author.Tests.{lt-ltb}
use Rattle.coated.proofs.SignedTurns.{turn_inside}
use Rattle.coated.specs.Claims.{SignedTurn}
use Rattle.coated.specs.Fitting.{turn_of}

-- a multiple of n below zero, and j above it
above : (k j : ℕ) → negsuc (k + j) +ℤ pos j ≡ negsuc k
above k j =
    let z : suc (k + j) - suc j ≡ k = omega arith in
    ap (λ t. cond t (negsuc (suc (k + j) - suc j)) (pos (j - suc (k + j)))) (lt-ltb j (suc (k + j)) (omega arith))
    ∙ ap negsuc z

below_zero : (n k j p : ℕ) → suc p * n ≡ suc (k + j) → negsuc k ≡ (negsuc p *ℤ pos n) +ℤ pos j
below_zero n k j p e = sym (ap (λ x. neg_ℤ (pos x) +ℤ pos j) e ∙ above k j)

-- the multiple: with a remainder m the next, without one the same
multiple : (n k q m : ℕ) → 0 < n → m < n → q * n + m ≡ suc k → (p : ℕ) × (suc p * n ≡ suc (k + (n - m) % n))
multiple n k zero zero h l e = absurd (omega arith)
multiple n k (suc p) zero h l e =
    let z : (n - 0) % n ≡ 0 = ap (λ x. x % n) (omega arith) ∙ mod_self n in
    (p, omega (arith, z))
multiple n k q (suc m) h l e =
    let z : (n - suc m) % n ≡ n - suc m = mod-eq_of_lt (omega arith) in
    (q, omega (arith, z))

pub signed_turn : SignedTurn
signed_turn n (pos k) h = (turn_inside n (pos k) h, (pos (k / n), ap pos (omega (arith, div-add-mod' k n))))
signed_turn n (negsuc k) h =
    let p = multiple n k (suc k / n) (suc k % n) h (mod-lt (suc k) h) (div-add-mod' (suc k) n) in
    (turn_inside n (negsuc k) h, (negsuc p.0, below_zero n k (turn_of n (negsuc k)) p.0 p.1))
