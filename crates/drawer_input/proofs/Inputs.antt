-- The whole input, by the first test that it fails.
use mathlib.Core.Bool.{false, true}
use mathlib.Core.List.{List, map}
use mathlib.Core.Path.{◌∙◌, ◌≡◌}
use Prim.Native.Nat.{ℕ, ◌+◌, ◌-◌, ◌<◌, ◌≤◌}
use native.Mathlib.Omega.{arith}
use lib.ListN.{drop, length, length-drop, length-map, take}
use lib.Seq.{length-take-le}
use borrow.Author.Tests.{eq-eqb, le-leb, lt-leb, ne_eqb}
use Rattle.text.specs.Symbols.{symbol_of}
use Rattle.drawer_input.specs.declared.Request.{Request}
use Rattle.drawer_input.specs.Input.{Asked, input_of, limit_filled, most_bytes, names, read_drawer, request_for, room_verdict, values_at}
use Rattle.refusal.specs.Outcomes.{filled}
use Rattle.std.specs.Prelude.{Result, Ok, Err, None}
use Rattle.refusal.specs.declared.Refusal.{Refusal}
use Rattle.refusal.specs.declared.Refusal.TheVariants.{Text}
use Rattle.drawer_input.proofs.ValueLines.{line}
use Rattle.words.specs.Buffers.{fronted}
use Rattle.words.specs.Tests.{is_prefix}

pub from_input : (s out : List ℕ) (i : Result Asked Refusal) → read_drawer s ≡ i → (a : Result Request Refusal) (o : List ℕ) → a ≡ request_for i (length out) → o ≡ limit_filled i out → (a ≡ request_for (read_drawer s) (length out)) × (o ≡ limit_filled (read_drawer s) out)
from_input s out i e a o p q = rw e (p, q)

module _ (s : List ℕ) where
  pub over_long : most_bytes < length s → read_drawer s ≡ Err (Text 1)
  unfolding read_drawer
  over_long h = rw (lt-leb (length s) most_bytes h)

  module _ (h : length s ≤ most_bytes) where
    pub misnamed : is_prefix names s ≡ false → read_drawer s ≡ Err (Text 1)
    unfolding read_drawer
    misnamed n = rw (le-leb (length s) most_bytes h, n)

    module _ (n : is_prefix names s ≡ true) where
      named : read_drawer s ≡ input_of s (values_at s (length names))
      unfolding read_drawer
      named = rw (le-leb (length s) most_bytes h, n)

      pub no_values : None ≡ values_at s (length names) → read_drawer s ≡ Err (Text 2)
      no_values e = named ∙ rw (← e)

      module _ (m d k at size : ℕ) (e : line m d k at size ≡ values_at s (length names)) where
        pub too_many : (at + size + 1 ≡ length s → ⊥) → read_drawer s ≡ Err (Text 3)
        too_many q = named ∙ rw (← e, ne_eqb (at + size + 1) (length s) q)

        pub all_read : at + size + 1 ≡ length s → read_drawer s ≡ Ok (record { stations = m; holes = d; kind = k; limit = map symbol_of (take size (drop at s)) })
        all_read q = named ∙ rw (← e, eq-eqb (at + size + 1) (length s) q)

-- the limit's length
pub limit_length : (s : List ℕ) (at size : ℕ) → at + size < length s → length (map symbol_of (take size (drop at s))) ≡ size
limit_length s at size h = length-map (take size (drop at s)) symbol_of ∙ length-take-le size (drop at s) (rw length-drop (omega arith))

-- the limit's symbols at the front of a buffer that has room for them
pub limit_put : (s out o : List ℕ) (at size : ℕ) → at + size < length s → size ≤ length out → o ≡ fronted (map symbol_of (take (at + size - at) (drop at s))) out → let limit = map symbol_of (take size (drop at s)) in o ≡ filled (room_verdict limit (length out)) limit out
limit_put s out o at size h room e =
    let z : at + size - at ≡ size = omega arith in
    let l = limit_length s at size h in
    e ∙ rw (z, l, le-leb size (length out) room, l)
