-- A row in an array, and zeros behind it: tested by its highest symbols.
use mathlib.Core.Bool.{Bool, false, true, ◌&&◌}
use mathlib.Core.List.{List}
use mathlib.Core.Path.{refl, subst, sym, ◌∙◌, ◌≡◌}
use Prim.Native.Nat.{suc, zero, ℕ, ◌+◌, ◌-◌, ◌<◌, ◌≤◌}
use native.Mathlib.Omega.{arith}
use lib.Dec.{eqb, leb}
use lib.ListN.{drop, take, take-append-drop}
use lib.Seq.{get_or-drop}
use borrow.Author.Tests.{le-leb, leb-true, lt-leb, ne_eqb}
use Rattle.density.proofs.Binary.{Binary, binary_append, binary_test, binary_within, test_binary, within_binary}
use Rattle.density.specs.Rows.{PaddedRow, is_padded}
use Rattle.words.proofs.Alphabet.{within_replicate, within_take}
use Rattle.words.proofs.Booleans.{and→, →and}
use Rattle.words.proofs.HighestSymbol.{up_to→, zeros_clean, →up_to}
use Rattle.words.specs.Symbols.{Within, all_up_to, zeros}

-- 0 is the only number up to 0
pub zero_test : (s : ℕ) → eqb s 0 ≡ leb s 0
zero_test zero = refl
zero_test (suc s) = ne_eqb (suc s) 0 (λ e. omega arith) ∙ sym (lt-leb (suc s) 0 (omega arith))

module _ (n : ℕ) (row : List ℕ) where
  pub padded→ : is_padded n row ≡ true → (all_up_to 1 (take n row) ≡ true) × (all_up_to 0 (drop n row) ≡ true)
  unfolding is_padded
  padded→ e = and→ (all_up_to 1 (take n row)) (all_up_to 0 (drop n row)) e

  pub →padded : all_up_to 1 (take n row) ≡ true → all_up_to 0 (drop n row) ≡ true → is_padded n row ≡ true
  unfolding is_padded
  →padded a b = →and a b

  -- as plain facts, both ways
  pub padded_facts : is_padded n row ≡ true → PaddedRow n row
  padded_facts e =
      let a = padded→ e in
      record {
        symbols = binary_within (test_binary 1 (take n row) (omega arith) a.0);
        after = λ i h.
            let m : n + (i - n) ≡ i = omega arith in
            omega (arith, rw (get_or-drop, m) at (up_to→ 0 (drop n row) a.1 (i - n)));
      }

  pub facts_padded : PaddedRow n row → is_padded n row ≡ true
  facts_padded f =
      →padded (binary_test (within_binary (take n row) f.symbols))
      (→up_to 0 (drop n row) (λ i. rw get_or-drop (omega (arith, f.after (n + i) (omega arith)))))

  -- it holds zeros and ones
  pub padded_symbols : is_padded n row ≡ true → Within 2 row
  padded_symbols e =
      let a = padded→ e in
      binary_within (subst Binary (take-append-drop n row) (binary_append (test_binary 1 (take n row) (omega arith) a.0) (test_binary 0 (drop n row) (omega arith) a.1)))

-- ---- two rows, tested together

-- a row whose symbols are all zeros and ones needs only zeros behind it
ones_padded : (n : ℕ) (row : List ℕ) → all_up_to 1 row ≡ true → is_padded n row ≡ all_up_to 0 (drop n row)
unfolding is_padded
ones_padded n row e = rw (binary_test (within_binary (take n row) (within_take n row (binary_within (test_binary 1 row (omega arith) e)))))

padded_ones : (n : ℕ) (row : List ℕ) → is_padded n row ≡ true → all_up_to 1 row ≡ true
padded_ones n row e = binary_test (within_binary row (padded_symbols n row e))

module _ (n : ℕ) (row other : List ℕ) (r : ℕ) (h : (b : ℕ) → (all_up_to b row && all_up_to b other) ≡ leb r b) where
  pub two_high : 1 < r → (is_padded n row && is_padded n other) ≡ false
  two_high l = go (is_padded n row && is_padded n other) refl
    where
      go : (t : Bool) → (is_padded n row && is_padded n other) ≡ t → t ≡ false
      go true e =
          let a = and→ (is_padded n row) (is_padded n other) e in
          absurd (omega (arith, leb-true r 1 (sym (h 1) ∙ →and (padded_ones n row a.0) (padded_ones n other a.1))))
      go false e = refl

  pub two_low : r ≤ 1 → (s : ℕ) → ((b : ℕ) → (all_up_to b (drop n row) && all_up_to b (drop n other)) ≡ leb s b) → eqb s 0 ≡ (is_padded n row && is_padded n other)
  two_low l s k =
      let a = and→ (all_up_to 1 row) (all_up_to 1 other) (h 1 ∙ le-leb r 1 l) in
      zero_test s ∙ sym (rw (ones_padded n row a.0, ones_padded n other a.1) (k 0))

-- zeros are a row of zeros
pub zeros_padded : (n m : ℕ) → is_padded n (zeros m) ≡ true
zeros_padded n m =
    →padded n (zeros m) (binary_test (within_binary _ (within_take n (zeros m) (within_replicate m 0 (omega arith))))) (zeros_clean n m)
