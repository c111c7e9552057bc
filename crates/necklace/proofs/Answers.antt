-- The verdicts of key and class, test by test, and what each gives.
use mathlib.Core.Bool.{Bool, false, true}
use mathlib.Core.List.{List}
use mathlib.Core.Path.{refl, ◌≡◌}
use Prim.Native.Nat.{ℕ, ◌<◌, ◌≤◌}
use lib.ListN.{length}
use Rattle.std.specs.Prelude.{Err, Ok, Result}
use borrow.Author.Tests.{eq-eqb, le-leb, lt-leb, ne_eqb}
use Rattle.necklace.specs.Class.{class_given, class_verdict}
use Rattle.necklace.specs.Key.{key_given, key_verdict}
use Rattle.necklace.specs.declared.RowClass.{RowClass}
use Rattle.necklace.specs.declared.RowKey.{RowKey}
use Rattle.refusal.specs.Outcomes.{decide, filled}
use Rattle.refusal.specs.Verdicts.{accepted, are_stations, refused}
use Rattle.refusal.specs.declared.Refusal.{Refusal}
use Rattle.refusal.specs.declared.Refusal.TheVariants.{Buffer, Stations, Symbol}
use Rattle.words.specs.Buffers.{fronted}
use Rattle.words.specs.Rotation.{is_lyndon, is_necklace, least_index, least_rotation, period, rotation}
use Rattle.words.specs.Symbols.{first_wrong}

-- ---- key

-- what `key` promises, of an answer and of the buffer's content at the end
abbrev pub KeyKept : List ℕ → List ℕ → Result RowKey Refusal → List ℕ → Type 0
KeyKept row out r buffer = (r ≡ decide (key_verdict row (length out)) (key_given row)) × (buffer ≡ filled (key_verdict row (length out)) (least_rotation row) out)

module _ (row out : List ℕ) where
  key_refused : (r : Refusal) → key_verdict row (length out) ≡ refused r → KeyKept row out (Err r) out
  key_refused r e = rw e (refl, refl)

  pub key_stations : are_stations (length row) ≡ false → KeyKept row out (Err Stations) out
  unfolding key_verdict
  key_stations e = key_refused Stations (rw e)

  module _ (e : are_stations (length row) ≡ true) where
    pub key_symbol : (x : ℕ) → x ≡ first_wrong 2 row → (x ≡ 0 → ⊥) → KeyKept row out (Err (Symbol x)) out
    unfolding key_verdict
    key_symbol x q h = key_refused (Symbol x) (rw (e, ← q, ne_eqb x 0 h))

    module _ (f : first_wrong 2 row ≡ 0) where
      pub key_buffer : length out < length row → KeyKept row out (Err Buffer) out
      unfolding key_verdict
      key_buffer h = key_refused Buffer (rw (e, eq-eqb (first_wrong 2 row) 0 f, lt-leb (length row) (length out) h))

      accepts : length row ≤ length out → key_verdict row (length out) ≡ accepted
      unfolding key_verdict
      accepts h = rw (e, eq-eqb (first_wrong 2 row) 0 f, le-leb (length row) (length out) h)

      pub key_found : length row ≤ length out → (j p : ℕ) (buffer : List ℕ) → j ≡ least_index row → p ≡ period row → buffer ≡ fronted (rotation j row) out → KeyKept row out (Ok (record { rotation = j; period = p })) buffer
      unfolding least_rotation
      key_found h j p buffer a b w = rw (accepts h, ← a, ← b) (refl, w)

-- ---- class

-- what `class` promises of an answer
abbrev pub ClassKept : List ℕ → Result RowClass Refusal → Type 0
ClassKept row r = r ≡ decide (class_verdict row) (class_given row)

module _ (row : List ℕ) where
  pub class_stations : are_stations (length row) ≡ false → ClassKept row (Err Stations)
  unfolding class_verdict
  class_stations e = rw e

  module _ (e : are_stations (length row) ≡ true) where
    pub class_symbol : (x : ℕ) → x ≡ first_wrong 2 row → (x ≡ 0 → ⊥) → ClassKept row (Err (Symbol x))
    unfolding class_verdict
    class_symbol x q h = rw (e, ← q, ne_eqb x 0 h)

    pub class_of : first_wrong 2 row ≡ 0 → (s u : Bool) → s ≡ is_necklace row → u ≡ is_lyndon row → ClassKept row (Ok (record { necklace = s; lyndon = u }))
    unfolding class_verdict
    class_of f s u a b = rw (e, eq-eqb (first_wrong 2 row) 0 f, a, b)
