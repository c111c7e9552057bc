-- A loop that writes the list E to the front of a slice that held O.
use mathlib.Core.List.{List, [], append-nil, append_assoc, ◌++◌}
use mathlib.Core.Path.{ap, sym, ◌∙◌, ◌≡◌}
use Prim.Native.Nat.{suc, ℕ, ◌+◌, ◌-◌, ◌<◌, ◌≤◌}
use native.Mathlib.Numerals.{add-one}
use native.Mathlib.Omega.{arith}
use lib.ListN.{drop, drop_of_length-le, get_or, length, length-append, length-drop, set, take}
use lib.Seq.{append_snoc, drop-cons, drop-drop, drop_at, take_at, length-take-le, set_at, take_all, take-suc}

-- E is written as far as i
abbrev pub Front : List ℕ → List ℕ → ℕ → List ℕ → Type 0
Front E O i o = o ≡ take i E ++ drop i O

pub front_turn : (E O o : List ℕ) (i x : ℕ) → i < length E → i < length O → Front E O i o → x ≡ get_or E i 0 → Front E O (i + 1) (set o i x)
front_turn E O o i x h k e f =
    rw (e, f, drop-cons O i 0, add-one, set_at (take i E) (get_or O i 0) (drop (suc i) O) (get_or E i 0) i (length-take-le i E (omega arith)), take-suc E i 0)
    (sym (append_snoc (take i E) (get_or E i 0) (drop (suc i) O)))

pub front_all : (E O o : List ℕ) (i : ℕ) → i ≡ length E → Front E O i o → o ≡ E ++ drop (length E) O
front_all E O o i h e = e ∙ rw (take_all i E (omega arith), h)

pub front_length : (E O o : List ℕ) (i : ℕ) → i ≤ length E → i ≤ length O → Front E O i o → length o ≡ length O
front_length E O o i h k e = ap length e ∙ rw (length-append, length-take-le i E h, length-drop) (omega arith)

-- a piece at the front, and another behind it, in the rest of the slice, u symbols on
pub front_behind : (a b o p q : List ℕ) (u : ℕ) → u ≡ length a → p ≡ a ++ drop (length a) o → q ≡ b ++ drop (length b) (take (length p - u) (drop u p)) → take u p ++ (q ++ drop (length p - u) (drop u p)) ≡ (a ++ b) ++ drop (length (a ++ b)) o
front_behind a b o p q u l e f =
    let rest : drop u p ≡ drop (length a) o = ap (drop u) e ∙ drop_at a (drop (length a) o) u (sym l) in
    let whole : take (length p - u) (drop u p) ≡ drop u p = take_all (length p - u) (drop u p) (omega (arith, length-drop u p)) in
    let nothing : drop (length p - u) (drop u p) ≡ [] = drop_of_length-le (drop u p) (omega (arith, length-drop u p)) in
    let front : take u p ≡ a = ap (take u) e ∙ take_at a (drop (length a) o) u (sym l) in
    rw (nothing, front, f, whole, rest, append-nil, length-append, drop-drop) (sym (append_assoc a b (drop (length a + length b) o)))
