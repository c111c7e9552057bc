-- The question about one more 1, which needs no search.
use mathlib.Core.Bool.{true, true≢false}
use mathlib.Core.List.{List, [], ◌∷◌}
use mathlib.Core.Logic.{inl, inr, ◌⊎◌}
use mathlib.Core.Path.{sym, ◌∙◌, ◌≡◌}
use Prim.Native.Nat.{suc, ℕ, ◌+◌, ◌<◌, ◌≤◌}
use native.Mathlib.Nat.{pos_of_ne-zero}
use native.Mathlib.Omega.{arith}
use lib.ListN.{length, length-append}
use Rattle.density.proofs.Begun.{begins_longer}
use Rattle.density.proofs.Binary.{Binary, binary_snoc}
use Rattle.density.proofs.Members.{begins→, →begins}
use Rattle.density.specs.Necklaces.{begins}
use Rattle.extension.proofs.Fits.{fits→, →fits}
use Rattle.extension.proofs.SearchSteps.{extends-none}
use Rattle.extension.proofs.Search.{extends-begins}
use Rattle.extension.specs.InnerSearch.{fits}
use Rattle.words.proofs.Booleans.{same_test}
use Rattle.words.proofs.Lyndon.{Lyndon}
use Rattle.words.proofs.Prefixes.{leaves}
use Rattle.words.proofs.ScanMeaning.{pre_of}
use Rattle.words.proofs.ScanMore.{more_lower}
use Rattle.words.specs.InnerScan.{coded, next, scan, ◌▹◌}

-- ---- one more 1, behind b, which begins a necklace and has period p

module _ (n d : ℕ) (b : List ℕ) (p : ℕ) (h : 0 < length b) (few : d ≤ n) (room : length b < n) (x : Binary b) (e : coded p ≡ scan b) (aye : begins n d b ≡ true) where
  pub some_period : 0 < p
  some_period = pos_of_ne-zero none
    where
      none : p ≡ 0 → ⊥
      none f = true≢false (sym aye ∙ sym (extends-begins n d b (omega arith) few (omega arith) x) ∙ extends-none n d b h (rw f at e))

  -- a 0 falls below the period
  pub up_forced : 0 < next p b → begins n d (b ▹ 1) ≡ true
  up_forced k = go (begins_longer n d b room aye)
    where
      more : length (b ▹ 0) ≡ suc (length b)
      more = length-append b (0 ∷ []) ∙ omega arith

      none : begins n d (b ▹ 0) ≡ true → ⊥
      none f =
          true≢false
          (sym f ∙ sym (extends-begins n d (b ▹ 0) (omega arith) few (omega (arith, more)) (binary_snoc x 0 (omega arith)))
          ∙ extends-none n d (b ▹ 0) (omega (arith, more)) (more_lower b p 0 h e some_period k))

      go : (begins n d (b ▹ 0) ≡ true) ⊎ (begins n d (b ▹ 1) ≡ true) → begins n d (b ▹ 1) ≡ true
      go (inl f) = absurd (none f)
      go (inr f) = f

  -- with a 1 it is a Lyndon word
  pub up_asked : next p b ≡ 0 → (m : ℕ) → suc (length b) + m ≡ n → fits d m (b ▹ 1) ≡ begins n d (b ▹ 1)
  up_asked f m l =
      let lyn : Lyndon (b ▹ 1) = leaves (pre_of b p h some_period e) 1 (omega arith) in
      let long : length (b ▹ 1) + m ≡ n = omega (arith, length-append b (1 ∷ [])) in
      same_test (fits d m (b ▹ 1)) (begins n d (b ▹ 1)) (λ t. →begins (fits→ n d (b ▹ 1) lyn m long (binary_snoc x 1 (omega arith)) t))
      (λ t. →fits n d (b ▹ 1) lyn m long (begins→ n d (b ▹ 1) t))
