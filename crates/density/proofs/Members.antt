-- The necklaces of (n, d): membership both ways, strict fall, the largest, and what begins one.
use mathlib.Core.Bool.{and-eq-true_iff, false, true, true≢false}
use mathlib.Core.List.{List, Memᴰ, [], head_d, ◌++◌}
use mathlib.Core.Path.{subst, sym, ◌∙◌, ◌≡◌}
use Prim.Native.Nat.{ℕ}
use lib.Dec.{eqb}
use lib.ListN.{length}
use borrow.Author.Tests.{eq-eqb, eqb-true}
use Rattle.density.proofs.Binary.{Binary, density-sum}
use Rattle.density.proofs.Enumeration.{in_rows, out_rows, rows_falling}
use Rattle.density.specs.Density.{all_rows, density}
use Rattle.density.specs.Necklaces.{begins, is_necklace_of, largest_necklace, necklaces}
use Rattle.words.proofs.AtMost.{≼_antisym, ◌≼◌}
use Rattle.words.proofs.Falling.{head_highest, head_member, keep_falling}
use Rattle.words.proofs.Lists.{any→, is_prefix→, keep→, →any, →is_prefix, →keep}
use Rattle.words.proofs.PowerOrder.{Necklace}
use Rattle.words.proofs.Rotations.{is_necklace→, →is_necklace}
use Rattle.words.specs.Falling.{Falling}
use Rattle.words.specs.Rotation.{is_necklace}
use Rattle.words.specs.Symbols.{sum}
use Rattle.words.specs.Tests.{is_prefix}

-- a necklace of n symbols and density d
pub record Member (n d : ℕ) (w : List ℕ) : Type 0 where
  pub long : length w ≡ n
  pub binary : Binary w
  pub count : density w ≡ d
  pub least : Necklace w

-- by the sum in the density's stead
pub member_of : {n d : ℕ} {w : List ℕ} → length w ≡ n → Binary w → sum w ≡ d → Necklace w → Member n d w
member_of l b c s = record { long = l; binary = b; count = density-sum b ∙ c; least = s }

pub member_sum : {n d : ℕ} {w : List ℕ} → Member n d w → sum w ≡ d
member_sum m = sym (density-sum m.binary) ∙ m.count

pub is_necklace_of→ : (d : ℕ) (w : List ℕ) → is_necklace_of d w ≡ true → (density w ≡ d) × Necklace w
unfolding is_necklace_of
is_necklace_of→ d w e =
    let h = (and-eq-true_iff (eqb (density w) d) (is_necklace w)).0 e in
    (eqb-true _ _ h.0, is_necklace→ w h.1)

pub →is_necklace_of : (d : ℕ) (w : List ℕ) → density w ≡ d → Necklace w → is_necklace_of d w ≡ true
unfolding is_necklace_of
→is_necklace_of d w c s = (and-eq-true_iff (eqb (density w) d) (is_necklace w)).1 (eq-eqb _ _ c, →is_necklace w s)

-- the test, for a row of zeros and ones
pub member_test : {n d : ℕ} {w : List ℕ} → Member n d w → is_necklace_of d w ≡ true
member_test {d = d} {w = w} m = →is_necklace_of d w m.count m.least

pub test_member : {n d : ℕ} {w : List ℕ} → length w ≡ n → Binary w → is_necklace_of d w ≡ true → Member n d w
test_member {d = d} {w = w} l b e = let h = is_necklace_of→ d w e in record { long = l; binary = b; count = h.0; least = h.1 }

pub member→ : (n d : ℕ) (w : List ℕ) → Memᴰ w (necklaces n d) → Member n d w
unfolding necklaces
member→ n d w m =
    let k = keep→ (is_necklace_of d) w (all_rows n) m in
    let o = out_rows n w k.0 in
    let h = is_necklace_of→ d w k.1 in
    record { long = o.0; binary = o.1; count = h.0; least = h.1 }

pub →member : {n d : ℕ} {w : List ℕ} → Member n d w → Memᴰ w (necklaces n d)
unfolding necklaces
→member {n} {d} {w} k = →keep (is_necklace_of d) w (all_rows n) (rw k.long at (in_rows k.binary)) (→is_necklace_of d w k.count k.least)

pub necklaces_falling : (n d : ℕ) → Falling (necklaces n d)
unfolding necklaces
necklaces_falling n d = keep_falling (is_necklace_of d) (rows_falling n)

-- ---- the largest

-- what is a member, and at or above every member, is the largest
pub largest_is : (n d : ℕ) (w : List ℕ) → Member n d w → ((v : List ℕ) → Member n d v → v ≼ w) → largest_necklace n d ≡ w
unfolding largest_necklace
largest_is n d w m most =
    let k = →member m in
    ≼_antisym (most (head_d (necklaces n d) []) (member→ n d (head_d (necklaces n d) []) (head_member k))) (head_highest (necklaces_falling n d) k)

-- ---- what begins one

-- a necklace of (n, d) that begins with p
pub record Begun (n d : ℕ) (p : List ℕ) : Type 0 where
  pub rest : List ℕ
  pub member : Member n d (p ++ rest)

pub begins→ : (n d : ℕ) (p : List ℕ) → begins n d p ≡ true → Begun n d p
unfolding begins
begins→ n d p e =
    let a = any→ (is_prefix p) (necklaces n d) e in
    let s = is_prefix→ p a.0 a.2 in
    record { rest = s.0; member = subst (Member n d) s.1 (member→ n d a.0 a.1) }

pub →begins : {n d : ℕ} {p : List ℕ} → Begun n d p → begins n d p ≡ true
unfolding begins
→begins {n} {d} {p} b = →any (is_prefix p) (→member b.member) (→is_prefix p b.rest)

pub not_begins : (n d : ℕ) (p : List ℕ) → begins n d p ≡ false → Begun n d p → ⊥
not_begins n d p e b = true≢false (sym (→begins b) ∙ e)
