-- The number at a place, by the parts of the text from there on.
use mathlib.Core.Bool.{Bool, cond, false, true}
use mathlib.Core.List.{List, [], ◌++◌, ◌∷◌}
use mathlib.Core.Path.{ap, refl, subst, sym, ◌∙◌, ◌≡◌}
use Prim.Native.Nat.{ℕ, ◌+◌, ◌<◌}
use lib.ListN.{drop, length}
use lib.Seq.{drop-append_seam, drop-drop}
use Rattle.text.proofs.Claims.{digit_bytes}
use Rattle.text.proofs.Every.{every_map}
use Rattle.text.proofs.Numerals.{read, same_next, same_value, with_space}
use Rattle.text.proofs.Runs.{run_split, Split, split_run}
use Rattle.text.proofs.Spelling.{decimal_digits, decimal_value, numeral_exactly}
use Rattle.text.specs.Decimals.{decimal}
use Rattle.text.specs.Parts.{belongs, is_numeral, numeral_at, run, space, spaced, spaced_at, value_from}
use Rattle.text.specs.declared.Bytes.TheVariants.{Digits}
use Rattle.text.specs.declared.Numeral.{Numeral}
use Rattle.std.specs.Prelude.{Option, Some, None}
use Rattle.words.proofs.Booleans.{clash}
use Rattle.words.proofs.Lists.{is_prefix→, →is_prefix}
use Rattle.words.specs.Tests.{is_prefix}

-- behind a piece that stands at a place
pub drop_on : (s : List ℕ) (at : ℕ) (a b : List ℕ) → drop at s ≡ a ++ b → drop (at + length a) s ≡ b
drop_on s at a b e = sym (drop-drop (length a) at s) ∙ rw e (drop-append_seam a b)

-- a number below 1000 stands at a place, with no digit behind it
pub record NumberAt (s : List ℕ) (at n next : ℕ) : Type 0 where
  pub below : n < 1000
  pub digits : Split Digits (drop at s) (decimal n)
  pub behind : next ≡ at + length (decimal n)

module _ (s : List ℕ) (at n next : ℕ) where
  pub number_read : read n next ≡ numeral_at s at → NumberAt s at n next
  unfolding numeral_at
  number_read = go (is_numeral found) refl
    where
      found : List ℕ
      found = run Digits (drop at s)

      go : (t : Bool) → is_numeral found ≡ t
          → read n next ≡ cond t (read (value_from 0 found) (at + length found)) None → NumberAt s at n next
      go true q e =
          let r = run_split Digits (drop at s) in
          let m = (numeral_exactly found (every_map (λ b. (digit_bytes b).0) found r.every)).0 q in
          let value : n ≡ value_from 0 found = same_value e in
          let same : m.0 ≡ n = sym (decimal_value m.0) ∙ ap (value_from 0) (sym m.2) ∙ sym value in
          let spelled : found ≡ decimal n = m.2 ∙ ap decimal same in
          let place : next ≡ at + length found = same_next e in
          record {
            below = rw same at m.1;
            digits = subst (Split Digits (drop at s)) spelled r;
            behind = place ∙ ap (λ l. at + length l) spelled;
          }
      go false q e = clash (cc)

  pub number_found : NumberAt s at n next → read n next ≡ numeral_at s at
  unfolding numeral_at
  number_found r =
      let numeral = (numeral_exactly (decimal n) (decimal_digits n).0).1 (n, r.below, refl) in
      rw (split_run r.digits, numeral, decimal_value n, r.behind)

-- a number below 1000 and a space stand at a place
pub record SpacedAt (s : List ℕ) (at n next : ℕ) : Type 0 where
  pub below : n < 1000
  pub rest : List ℕ
  pub whole : drop at s ≡ decimal n ++ (space ∷ rest)
  pub behind : next ≡ at + length (decimal n) + 1

abbrev pub spaced_here : (s : List ℕ) (at n : ℕ) (rest : List ℕ) → n < 1000 → drop at s ≡ decimal n ++ (space ∷ rest)
    → SpacedAt s at n (at + length (decimal n) + 1)
spaced_here s at n rest h e = record { below = h; rest = rest; whole = e; behind = refl }

module _ {s : List ℕ} {at n next : ℕ} (r : SpacedAt s at n next) where
  at_space : drop (at + length (decimal n)) s ≡ space ∷ r.rest
  at_space = drop_on s at (decimal n) (space ∷ r.rest) r.whole

  pub spaced-rest : drop next s ≡ r.rest
  spaced-rest = rw r.behind (drop_on s (at + length (decimal n)) (space ∷ []) r.rest at_space)

  number_there : NumberAt s at n (at + length (decimal n))
  unfolding belongs
  number_there =
      record {
        below = r.below;
        digits =
            record {
              rest = space ∷ r.rest;
              whole = r.whole;
              every = every_map (λ b. (digit_bytes b).1) (decimal n) (decimal_digits n).0;
              stops = refl;
            };
        behind = refl;
      }

  pub spaced_found : read n next ≡ spaced_at s at
  spaced_found =
      let end = at + length (decimal n) in
      let a-space : is_prefix (space ∷ []) (drop end s) ≡ true = rw at_space (→is_prefix (space ∷ []) r.rest) in
      rw r.behind (with_space s at n end (number_found s at n end number_there) a-space)

module _ (s : List ℕ) (at n next : ℕ) where
  pub spaced_read : read n next ≡ spaced_at s at → SpacedAt s at n next
  unfolding spaced_at
  spaced_read = go (numeral_at s at) refl
    where
      behind_number : (v p : ℕ) → read v p ≡ numeral_at s at → (t : Bool) → is_prefix (space ∷ []) (drop p s) ≡ t
          → read n next ≡ cond t (read v (p + 1)) None → SpacedAt s at n next
      behind_number v p e true q h =
          let r = number_read s at v p e in
          let more = is_prefix→ (space ∷ []) (drop p s) q in
          let digits = r.digits in
          let value : n ≡ v = same_value h in
          let place : next ≡ p + 1 = same_next h in
          let left = drop_on s at (decimal v) digits.rest digits.whole in
          let rest : digits.rest ≡ space ∷ more.0 = sym left ∙ ap (λ i. drop i s) (sym r.behind) ∙ more.1 in
          rw (value, place)
          (record {
            below = r.below;
            rest = more.0;
            whole = digits.whole ∙ ap (λ l. decimal v ++ l) rest;
            behind = ap (λ i. i + 1) r.behind;
          })
      behind_number v p e false q h = clash (cc)

      go : (x : Option Numeral) → x ≡ numeral_at s at → read n next ≡ spaced s x → SpacedAt s at n next
      go (Some x) e h = behind_number x.value x.next e (is_prefix (space ∷ []) (drop x.next s)) refl h
      go None e h = clash (cc)
