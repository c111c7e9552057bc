-- What begins a necklace of (n, d): one symbol shorter and longer, the whole row.
use mathlib.Core.Bool.{true}
use mathlib.Core.List.{List, [], append_assoc, append-nil, ◌++◌, ◌∷◌}
use mathlib.Core.Logic.{inl, inr, ◌⊎◌}
use mathlib.Core.Path.{ap, refl, subst, sym, ◌∙◌, ◌≡◌}
use Prim.Native.Nat.{suc, zero, ℕ, ◌<◌, ◌≤◌}
use native.Mathlib.Omega.{arith}
use lib.ListN.{length, length-append}
use Rattle.density.proofs.Binary.{Binary, binary_behind, binary_uncons}
use Rattle.density.proofs.Largest.{begun_empty}
use Rattle.density.proofs.Members.{Begun, Member, begins→, →begins}
use Rattle.density.specs.Necklaces.{begins}
use Rattle.words.specs.InnerScan.{◌▹◌}

-- a itself is that necklace
pub begun_whole : {n d : ℕ} {a : List ℕ} → Member n d a → Begun n d a
begun_whole {n} {d} {a} m = record { rest = []; member = subst (Member n d) (sym (append-nil a)) m }

-- one symbol less
pub begun_less : {n d : ℕ} {a : List ℕ} (b : ℕ) → Begun n d (a ▹ b) → Begun n d a
begun_less {n} {d} {a} b k = record { rest = b ∷ k.rest; member = subst (Member n d) (append_assoc a (b ∷ []) k.rest) k.member }

-- one symbol more
pub begun_more : {n d : ℕ} {a : List ℕ} (b : ℕ) (r : List ℕ) (k : Begun n d a) → k.rest ≡ b ∷ r → Begun n d (a ▹ b)
begun_more {n} {d} {a} b r k f = record { rest = r; member = subst (Member n d) (ap (λ w. a ++ w) f ∙ sym (append_assoc a (b ∷ []) r)) k.member }

-- ---- the laws of `begins`

-- nothing is left of a row as long as its beginning
pub nothing_left : (a r : List ℕ) → length (a ++ r) ≡ length a → a ++ r ≡ a
nothing_left a [] h = append-nil a
nothing_left a (c ∷ r) h = absurd (omega (arith, length-append a (c ∷ r)))

-- a whole row begins exactly if it is a necklace of (n, d)
pub begins_member : (n d : ℕ) (a : List ℕ) → length a ≡ n → begins n d a ≡ true → Member n d a
begins_member n d a l e =
    let k = begins→ n d a e in
    subst (Member n d) (nothing_left a k.rest (k.member.long ∙ sym l)) k.member

pub member_begins : {n d : ℕ} {a : List ℕ} → Member n d a → begins n d a ≡ true
member_begins m = →begins (begun_whole m)

-- what begins and is not whole goes on with a 0 or a 1
pub begins_longer : (n d : ℕ) (a : List ℕ) → length a < n → begins n d a ≡ true → (begins n d (a ▹ 0) ≡ true) ⊎ (begins n d (a ▹ 1) ≡ true)
begins_longer n d a h e = go k.rest refl
  where
    k : Begun n d a
    k = begins→ n d a e

    go : (r : List ℕ) → k.rest ≡ r → (begins n d (a ▹ 0) ≡ true) ⊎ (begins n d (a ▹ 1) ≡ true)
    go [] f = absurd (omega (arith, simp length-append at k.member.long, ap length f))
    go (zero ∷ r) f = inl (→begins (begun_more 0 r k f))
    go (suc zero ∷ r) f = inr (→begins (begun_more 1 r k f))
    go (suc (suc x) ∷ r) f = absurd (omega (arith, (binary_uncons (subst Binary f (binary_behind a k.member.binary))).0))

-- an empty prefix begins one
pub begins_empty : (n d : ℕ) → 0 < n → d ≤ n → begins n d [] ≡ true
begins_empty n d p l = →begins (begun_empty n d p l)
