-- A run of bytes, and a word at a place, a byte at a time.
use mathlib.Core.Bool.{Bool, cond, false, false≢true, true, ◌&&◌}
use mathlib.Core.List.{List, [], ◌++◌, ◌∷◌}
use mathlib.Core.Logic.{⊎_elim}
use mathlib.Core.Path.{ap, refl, ◌∙◌, ◌≡◌}
use Prim.Native.Nat.{suc, ℕ, ◌+◌, ◌<◌, ◌≤◌}
use native.Mathlib.Omega.{arith}
use lib.Dec.{eqb}
use lib.ListN.{drop, drop_of_length-le, length, length-drop, take}
use Rattle.std.proofs.lemmas.List.Folds.{length-prefix_len}
use Rattle.std.specs.List.{prefix_len, starts_with, take_while}
use Rattle.text.specs.Ascii.{Every}
use Rattle.text.specs.Parts.{belongs, run}
use Rattle.text.specs.declared.Bytes.{Bytes}
use Rattle.words.proofs.Below.{le_or}
use Rattle.words.specs.Tests.{is_prefix}

-- as many bytes as `take_while` takes
passed : (sort : Bytes) (s : List ℕ) → prefix_len (belongs sort) s ≡ length (run sort s)
unfolding run
passed sort [] = refl
passed sort (b ∷ s) = go (belongs sort b) (passed sort s)
  where
    go : (t : Bool) → prefix_len (belongs sort) s ≡ length (run sort s) → cond t (1 + prefix_len (belongs sort) s) 0 ≡ length (cond t (b ∷ run sort s) [])
    go true e = omega (arith, e)
    go false e = refl

pub run_counted : (sort : Bytes) (s : List ℕ) → length (take_while (belongs sort) s) ≡ length (run sort s)
run_counted sort s = length-prefix_len (belongs sort) s ∙ passed sort s

-- no byte of the sort stands at the front
abbrev pub Stops : Bytes → List ℕ → Type 0
Stops sort [] = Unit {0}
Stops sort (b ∷ s) = belongs sort b ≡ false

-- a text is bytes of the sort, and a rest that begins with none
pub record Split (sort : Bytes) (s front : List ℕ) : Type 0 where
  pub rest : List ℕ
  pub whole : s ≡ front ++ rest
  pub every : Every (λ b. belongs sort b ≡ true) front
  pub stops : Stops sort rest

pub run_split : (sort : Bytes) (s : List ℕ) → Split sort s (run sort s)
unfolding run
run_split sort [] = record { rest = []; whole = refl; every = tt; stops = tt }
run_split sort (b ∷ s) = go (belongs sort b) refl (run_split sort s)
  where
    go : (t : Bool) → belongs sort b ≡ t → Split sort s (run sort s) → Split sort (b ∷ s) (cond t (b ∷ run sort s) [])
    go true e r = record { rest = r.rest; whole = ap (λ l. b ∷ l) r.whole; every = (e, r.every); stops = r.stops }
    go false e r = record { rest = b ∷ s; whole = refl; every = tt; stops = e }

run-front : (sort : Bytes) (front rest : List ℕ) → Every (λ b. belongs sort b ≡ true) front → Stops sort rest
    → run sort (front ++ rest) ≡ front
unfolding run
run-front sort [] [] e h = refl
run-front sort [] (b ∷ rest) e h = rw h
run-front sort (b ∷ front) rest e h = rw (e.0, run-front sort front rest e.1 h)

pub split_run : {sort : Bytes} {s front : List ℕ} → Split sort s front → run sort s ≡ front
split_run {sort} {s} {front} r = rw r.whole (run-front sort front r.rest r.every r.stops)

-- a run is what the text begins with
pub run_take : (sort : Bytes) (s : List ℕ) → run sort s ≡ take (length (run sort s)) s
unfolding run
run_take sort [] = refl
run_take sort (b ∷ s) = go (belongs sort b) (run_take sort s)
  where
    go : (t : Bool) → run sort s ≡ take (length (run sort s)) s → cond t (b ∷ run sort s) [] ≡ take (length (cond t (b ∷ run sort s) [])) (b ∷ s)
    go true h = ap (λ l. b ∷ l) h
    go false h = refl

pub run_length : (sort : Bytes) (s : List ℕ) → length (run sort s) ≤ length s
unfolding run
run_length sort [] = search arith
run_length sort (b ∷ s) = go (belongs sort b) (run_length sort s)
  where
    go : (t : Bool) → length (run sort s) ≤ length s → length (cond t (b ∷ run sort s) []) ≤ suc (length s)
    go true h = omega arith
    go false h = omega arith

-- a run that is not empty lies within the text
pub run_inside : (sort : Bytes) (s : List ℕ) (at n : ℕ) → n ≡ length (run sort (drop at s)) → 0 < n → at + n ≤ length s
run_inside sort s at n e h = omega (arith, rw length-drop at (run_length sort (drop at s)))

-- as `starts_with` answers
pub prefix_starts : (w s : List ℕ) → starts_with eqb s w ≡ is_prefix w s
unfolding is_prefix
prefix_starts [] s = refl
prefix_starts (x ∷ w) [] = refl
prefix_starts (x ∷ w) (y ∷ s) = ap (λ t. eqb x y && t) (prefix_starts w s)

-- a word that stands at a place lies within the text
pub prefix_inside : (b : ℕ) (s : List ℕ) (i : ℕ) → is_prefix (b ∷ []) (drop i s) ≡ true → i < length s
unfolding is_prefix
prefix_inside b s i e = ⊎_elim (λ h. absurd (false≢true (rw (drop_of_length-le s h) at e))) (λ h. h) (le_or (length s) i)
