-- The rings of a drawer and kind at or below a row: they fall, the first is the highest, and each later one the highest below the last.
use mathlib.Core.Bool.{Bool, true, ◌&&◌}
use mathlib.Core.List.Memᴰ
use mathlib.Core.List.{List, Memᴰ, append_assoc, ◌++◌, ◌∷◌}
use mathlib.Core.Logic.{inl, inr, ◌⊎◌}
use mathlib.Core.Path.{refl, subst, sym, ◌∙◌, ◌≡◌}
use Prim.Native.Nat.{ℕ}
use Rattle.density.proofs.Members.{necklaces_falling}
use Rattle.density.specs.Necklaces.{necklaces, wanted}
use Rattle.words.proofs.AtMost.{lower, not_both, ≺-≼_trans, ≼_or, ◌≼◌}
use Rattle.words.proofs.Below.{◌≺◌}
use Rattle.words.proofs.Booleans.{and→, →and}
use Rattle.words.proofs.Falling.{falling_front, falls_by, first_highest, keep_falling, nothing_between}
use Rattle.words.proofs.Lists.{keep→, →keep}
use Rattle.words.proofs.OrderTests.{le→, lt→, →le, →lt}
use Rattle.words.specs.Falling.{Falling, Highest}
use Rattle.words.specs.Order.{le, lt}
use Rattle.words.specs.Tests.{keep}

pub wanted_falling : (n d : ℕ) (test : List ℕ → Bool) (limit : List ℕ) → Falling (wanted n d test limit)
wanted_falling n d test limit = keep_falling (λ r. le r limit && test r) (necklaces_falling n d)

-- ---- rings that begin the list of those wanted

module _ (n d : ℕ) (test : List ℕ → Bool) (limit : List ℕ) (rings left : List (List ℕ)) (whole : rings ++ left ≡ wanted n d test limit) where
  abbrev asked : List ℕ → Bool
  asked v = le v limit && test v

  pub rings_falling : Falling rings
  rings_falling = falling_front rings left (rw whole (wanted_falling n d test limit))

  pub first_ring : (r : List ℕ) (more : List (List ℕ)) → rings ≡ r ∷ more → Highest (λ v. le v limit && test v) (necklaces n d) r
  first_ring r more e = first_highest asked (necklaces_falling n d) r (more ++ left) (sym (rw e at whole))

  pub next_ring : (before : List (List ℕ)) (a b : List ℕ) (more : List (List ℕ)) → rings ≡ before ++ (a ∷ b ∷ more) → Highest (λ v. lt v a && test v) (necklaces n d) b
  next_ring before a b more e = record {
    member = in_drawer.0;
    passes = →and (→lt b a (falls_by before a b rest falling)) (and→ (le b limit) _ in_drawer.1).1;
    most = λ v m p. →le v b (most v m p);
  }
    where
      rest : List (List ℕ)
      rest = more ++ left

      all : before ++ (a ∷ b ∷ rest) ≡ keep asked (necklaces n d)
      all = sym (append_assoc before (a ∷ b ∷ more) left) ∙ (rw e at whole)

      falling : Falling (before ++ (a ∷ b ∷ rest))
      falling = rw all (keep_falling asked (necklaces_falling n d))

      inside : (v : List ℕ) → Memᴰ v (a ∷ b ∷ rest) → Memᴰ v (necklaces n d) × (asked v ≡ true)
      inside v m = keep→ asked v (necklaces n d) (subst (Memᴰ v) all (Memᴰ.append_right before m))

      in_drawer : Memᴰ b (necklaces n d) × (asked b ≡ true)
      in_drawer = inside b (Memᴰ.tail (Memᴰ.head refl))

      most : (v : List ℕ) → Memᴰ v (necklaces n d) → (lt v a && test v) ≡ true → v ≼ b
      most v m p =
          let q = and→ (lt v a) (test v) p in
          let below = lt→ v a q.0 in
          let top = le→ a limit (and→ (le a limit) _ (inside a (Memᴰ.head refl)).1).0 in
          let here = subst (Memᴰ v) (sym all) (→keep asked v (necklaces n d) m (→and (→le v limit (lower (≺-≼_trans below top))) q.1)) in
          go below (nothing_between before a b rest falling v here) (≼_or v b)
        where
          go : v ≺ a → (b ≺ v → a ≼ v) → (v ≼ b) ⊎ (b ≺ v) → v ≼ b
          go below near (inl h) = h
          go below near (inr h) = absurd (not_both below (near h))
