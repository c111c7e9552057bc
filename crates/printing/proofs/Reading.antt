-- What is read of an input is what its text is printed for.
use mathlib.Core.Bool.{Bool, cond, false, true, ◌&&◌}
use mathlib.Core.List.{List, [], ◌∷◌, map}
use mathlib.Core.Path.{ap, refl, sym, ◌∙◌, ◌≡◌}
use Prim.Native.Nat.{suc, zero, ℕ, ◌+◌, ◌<◌, ◌≤◌}
use native.Mathlib.Omega.{arith}
use lib.Dec.{eqb, leb}
use lib.ListN.{drop, length, length-drop, length-map, take}
use lib.Seq.{length-take-le, take_all, take_at}
use borrow.Author.Tests.{le-leb, leb-false, leb-true}
use Rattle.drawer_input.proofs.Inputs.{over_long}
use Rattle.drawer_input.specs.Input.{Asked, input_of, limit_filled, most_bytes, names, read_drawer, request_for, values_at}
use Rattle.drawer_lines.specs.Lines.{refusal_text}
use Rattle.drawer_input.specs.declared.Request.{Request}
use Rattle.drawer_input.specs.declared.Values.{Values}
use Rattle.printing.specs.Text.{asked_text, input_text, printed}
use Rattle.std.specs.Prelude.{Err, None, Ok, Option, Result, Some}
use Rattle.refusal.specs.declared.Refusal.{Refusal}
use Rattle.refusal.specs.declared.Refusal.TheVariants.{Text}
use Rattle.text.specs.Symbols.{symbol_of}
use Rattle.words.specs.Tests.{is_prefix}
use Rattle.words.proofs.Booleans.{clash}

refused≢given : {P A : Type 0} {r : Refusal} {a : A} → let refused : Result A Refusal = Err r in refused ≡ Ok a → P
refused≢given e = clash (cc)

same_values : {a b : Request} → let one : Result Request Refusal = Ok a in one ≡ Ok b → a ≡ b
same_values e = cc

take_less : (i : ℕ) (l : List ℕ) → length (take i l) ≤ length l
take_less zero l = omega arith
take_less (suc i) [] = omega arith
take_less (suc i) (x ∷ l) = omega (arith, take_less i l)

-- a limit is no longer than the whole input
module _ (s : List ℕ) (a : Asked) where
  from_values : (v : Option Values) → input_of s v ≡ Ok a → length a.limit ≤ length s
  from_values None e = refused≢given e
  from_values (Some v) e = go (eqb (v.start + v.size + 1) (length s)) e
    where
      read : List ℕ
      read = take v.size (drop v.start s)

      limit_of : Result Asked Refusal → List ℕ
      limit_of (Ok i) = i.limit
      limit_of (Err r) = []

      go : (b : Bool) → cond b (Ok (record { stations = v.stations; holes = v.holes; kind = v.kind; limit = map symbol_of read })) (Err (Text 3)) ≡ Ok a → length a.limit ≤ length s
      go true e =
          let q : map symbol_of read ≡ a.limit = ap limit_of e in
          omega (arith, ap length q, length-map read symbol_of, take_less v.size (drop v.start s), length-drop v.start s)
      go false e = refused≢given e

  limit_short : read_drawer s ≡ Ok a → length a.limit ≤ 256
  unfolding read_drawer
  limit_short e = go (leb (length s) most_bytes) refl (is_prefix names s) e
    where
      go : (b : Bool) → leb (length s) most_bytes ≡ b → (c : Bool) → cond (b && c) (input_of s (values_at s (length names))) (Err (Text 1)) ≡ Ok a → length a.limit ≤ 256
      go true h true e = omega (arith, leb-true (length s) most_bytes h, from_values (values_at s (length names)) e)
      go true h false e = refused≢given e
      go false h c e = refused≢given e

module _ (s : List ℕ) where
  -- the text of what was asked, by the limit that was left in a buffer
  pub drawer_asked : (a : Request) (out o t : List ℕ) → t ≡ asked_text a.stations a.holes a.kind (take a.size o) → o ≡ limit_filled (read_drawer s) out → length out ≡ 256 → Ok a ≡ request_for (read_drawer s) 256 → t ≡ printed s
  unfolding printed
  drawer_asked a out o t w0 w l e = w0 ∙ ap (λ t. asked_text a.stations a.holes a.kind (take a.size t)) w ∙ go (read_drawer s) refl e
    where
      go : (i : Result Asked Refusal) → read_drawer s ≡ i → Ok a ≡ request_for i 256 → asked_text a.stations a.holes a.kind (take a.size (limit_filled i out)) ≡ input_text i
      go (Ok i) q e =
          let limit = i.limit in
          let t = le-leb (length limit) 256 (limit_short s i q) in
          let u = same_values (rw t at e) in
          rw (u, l, t, take_at limit (drop (length limit) out) (length limit) refl)
      go (Err r) q e = refused≢given (sym e)

  -- the text of an input that is refused as it is read
  pub refused_asked : (r : Refusal) → Err r ≡ request_for (read_drawer s) 256 → refusal_text r ≡ printed s
  unfolding printed
  refused_asked r e = go (read_drawer s) refl e
    where
      go : (i : Result Asked Refusal) → read_drawer s ≡ i → Err r ≡ request_for i 256 → refusal_text r ≡ input_text i
      go (Ok i) q e =
          let t = le-leb (length i.limit) 256 (limit_short s i q) in
          refused≢given (rw t at e)
      go (Err p) q e = let a : r ≡ p = cc in rw a

  -- a limit fits the 256 bytes that are lent for it
  pub drawer_room : (a : Request) → Ok a ≡ request_for (read_drawer s) 256 → a.size ≤ 256
  drawer_room a e = go (read_drawer s) refl e
    where
      go : (i : Result Asked Refusal) → read_drawer s ≡ i → Ok a ≡ request_for i 256 → a.size ≤ 256
      go (Ok i) q e =
          let h = limit_short s i q in
          let z : a.size ≡ length i.limit = ap (λ v. v.size) (same_values (rw (le-leb (length i.limit) 256 h) at e)) in
          omega arith
      go (Err r) q e = refused≢given (sym e)

-- of an input that is too long, only that counts: more bytes than an input may have are enough of any
pub read_enough : (k : ℕ) (s : List ℕ) → most_bytes < k → printed (take k s) ≡ printed s
unfolding printed
read_enough k s h = go (leb (length s) k) refl
  where
    go : (b : Bool) → leb (length s) k ≡ b → input_text (read_drawer (take k s)) ≡ input_text (read_drawer s)
    go true e = ap (λ t. input_text (read_drawer t)) (take_all k s (leb-true (length s) k e))
    go false e =
        let l = leb-false (length s) k e in
        let t = length-take-le k s (omega arith) in
        rw (over_long (take k s) (omega arith), over_long s (omega arith))
