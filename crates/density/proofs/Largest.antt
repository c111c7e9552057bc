-- The balanced row is the largest necklace of its length and density.
use mathlib.Core.List.{List, [], ◌++◌}
use mathlib.Core.Path.{subst, sym, ◌≡◌}
use Prim.Native.Nat.{ℕ, ◌<◌, ◌≤◌}
use native.Mathlib.Omega.{arith}
use lib.ListN.{drop, length, length-drop, take, take-append-drop}
use Rattle.density.proofs.BalancedRow.{balanced_binary, balanced-length, balanced_necklace, balanced-total}
use Rattle.density.proofs.LowRotation.{Lowered, lowered}
use Rattle.density.proofs.Members.{Begun, Member, largest_is, member_of, member_sum}
use Rattle.density.specs.InnerBalanced.{balanced}
use Rattle.density.specs.Necklaces.{largest_necklace}
use Rattle.words.proofs.AtMost.{≼_trans, ◌≼◌}
use Rattle.words.proofs.Following.{rotation_above}
use Rattle.words.proofs.Lyndon.{Lyndon}
use Rattle.words.proofs.PowerOrder.{Necklace}
use Rattle.words.proofs.Rotations.{necklace→index}
use Rattle.words.specs.Rotation.{rotation}
use Rattle.words.specs.Symbols.{sum}

-- a necklace is at or below the balanced row of its length and sum
pub at_most_balanced : (w : List ℕ) → 0 < length w → Necklace w → w ≼ balanced (length w) (sum w)
at_most_balanced w p s = let t = lowered w p in ≼_trans (necklace→index w s t.i t.inside) t.low

-- a Lyndon word at the front of a necklace is at or below the balanced row of what follows it
pub tail_balanced : {g : List ℕ} → Lyndon g → (r : List ℕ) → 0 < length r → Necklace (g ++ r) → g ≼ balanced (length r) (sum r)
unfolding rotation
tail_balanced {g} l r p s = ≼_trans (rotation_above g (take i r) (drop i r) l (simp length-drop (omega (arith, t.inside))) (subst (λ w. Necklace (g ++ w)) (sym (take-append-drop i r)) s)) t.low
  where
    t : Lowered r
    t = lowered r p

    i : ℕ
    i = t.i

pub balanced_member : (n d : ℕ) → 0 < n → d ≤ n → Member n d (balanced n d)
balanced_member n d p l = member_of (balanced-length n d p n 0) (balanced_binary n d p l n 0) (balanced-total n d p) (balanced_necklace n d p)

pub largest_balanced : (n d : ℕ) → 0 < n → d ≤ n → largest_necklace n d ≡ balanced n d
largest_balanced n d p l = largest_is n d (balanced n d) (balanced_member n d p l) most
  where
    most : (v : List ℕ) → Member n d v → v ≼ balanced n d
    most v m = rw (m.long, member_sum m) at (at_most_balanced v (omega (arith, m.long)) m.least)

-- no length and density is without a necklace
pub begun_empty : (n d : ℕ) → 0 < n → d ≤ n → Begun n d []
begun_empty n d p l = record { rest = balanced n d; member = balanced_member n d p l }
