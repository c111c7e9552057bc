-- What the answers of the turned-over key give, at each return.
use mathlib.Core.Bool.{false, true}
use mathlib.Core.List.{List, reverse, ◌++◌}
use mathlib.Core.Path.{ap, ap₂, refl, sym, ◌∙◌, ◌≡◌}
use Prim.Native.Nat.{ℕ, ◌<◌, ◌≤◌}
use native.Mathlib.Omega.{arith}
use lib.Dec.{eqb, leb}
use lib.ListN.{drop, length, length-append, length-drop, length-reverse, take}
use lib.Seq.{drop_at, take_at}
use borrow.Author.Tests.{leb-true}
use Rattle.necklace.specs.Key.{key_given, key_verdict}
use Rattle.necklace.specs.declared.RowKey.{RowKey}
use Rattle.std.specs.Prelude.{Err, Ok, Result}
use Rattle.refusal.proofs.Conditions.{need→}
use Rattle.refusal.proofs.Outcomes.{given_so, refused_so}
use Rattle.refusal.proofs.Stations.{Sized, stations→}
use Rattle.refusal.specs.Outcomes.{decide, filled}
use Rattle.refusal.specs.Verdicts.{accepted, are_stations, most_stations}
use Rattle.refusal.specs.declared.Refusal.{Refusal}
use Rattle.words.proofs.LeastRotation.{least_necklace}
use Rattle.words.proofs.Rotations.{rotation-length, →is_necklace}
use Rattle.words.proofs.TurnedKey.{key_over, key_plain}
use Rattle.words.specs.Buffers.{fronted}
use Rattle.words.specs.Reversal.{is_bracelet, turned_key}
use Rattle.words.specs.Rotation.{is_necklace, least_index, least_rotation, rotation}
use Rattle.words.specs.Symbols.{first_wrong}

-- what `turned_key` promises, of an answer and of the buffer's content at the end
abbrev pub TurnedKept : List ℕ → List ℕ → Result Unit Refusal → List ℕ → Type 0
TurnedKept row out r buffer = (r ≡ decide (key_verdict row (length out)) tt) × (buffer ≡ filled (key_verdict row (length out)) (turned_key row) out)

-- what a part of a buffer has to be, to be asked whether it is a bracelet
pub record Shelved (part : List ℕ) : Type 0 where
  pub some : 0 < length part
  pub most : length part ≤ most_stations
  pub necklace : is_necklace part ≡ true

-- the key's answer, and the buffer that it left
module _ (row out buffer : List ℕ) (k : Result RowKey Refusal) (e : k ≡ decide (key_verdict row (length out)) (key_given row)) (f : buffer ≡ filled (key_verdict row (length out)) (least_rotation row) out) where
  pub turned_refused : (r : Refusal) → k ≡ Err r → TurnedKept row out (Err r) buffer
  turned_refused r q =
      let v = refused_so (key_verdict row (length out)) (key_given row) r (sym e ∙ q) in
      rw v (refl, rw v at f)

  module _ (found : RowKey) (q : k ≡ Ok found) where
    accepts : key_verdict row (length out) ≡ accepted
    accepts = given_so (key_verdict row (length out)) (key_given row) _ (sym e ∙ q)

    pub found_sized : Sized (length row)
    unfolding key_verdict
    found_sized = stations→ (length row) (need→ (are_stations (length row)) _ _ accepts).0

    found_room : length row ≤ length out
    unfolding key_verdict
    found_room =
        let a = need→ (are_stations (length row)) _ _ accepts in
        let b = need→ (eqb (first_wrong 2 row) 0) _ _ a.1 in
        leb-true (length row) (length out) (need→ (leb (length row) (length out)) _ _ b.1).0

    front : buffer ≡ fronted (least_rotation row) out
    front = rw accepts at f

    size : length (least_rotation row) ≡ length row
    unfolding least_rotation
    size = rotation-length (least_index row) row

    -- the buffer that was left has the room that it had
    pub kept_room : length row ≤ length buffer
    kept_room = omega (arith, found_room, ap length front, length-append (least_rotation row) (drop (length (least_rotation row)) out), length-drop (length (least_rotation row)) out, size)

    pub key_part : take (length row) buffer ≡ least_rotation row
    key_part = ap (take (length row)) front ∙ take_at (least_rotation row) _ (length row) size

    pub key_shelved : Shelved (take (length row) buffer)
    key_shelved =
        let n = found_sized in
        rw key_part (record { some = omega (arith, size, n.some); most = omega (arith, size, n.most); necklace = →is_necklace (least_rotation row) (least_necklace row n.some) })

    -- the key stays
    pub turned_plain : true ≡ is_bracelet (take (length row) buffer) → TurnedKept row out (Ok tt) buffer
    turned_plain t = rw accepts (refl, front ∙ ap (λ w. fronted w out) (sym (key_plain row found_sized.some (ap is_bracelet (sym key_part) ∙ sym t))))

    -- that of the reverse is written over it
    pub turned_over : false ≡ is_bracelet (take (length row) buffer) → (over : List ℕ) → over ≡ reverse row → (i : ℕ) → i ≡ least_index over → (written : List ℕ) → written ≡ fronted (rotation i over) buffer → TurnedKept row out (Ok tt) written
    unfolding least_rotation
    turned_over t over o i h written w =
        let key = least_rotation (reverse row) in
        let long : length key ≡ length row = rotation-length (least_index (reverse row)) (reverse row) ∙ length-reverse row in
        let same : rotation i over ≡ key = ap₂ (λ (n : ℕ) (r : List ℕ). rotation n r) (h ∙ ap least_index o) o in
        let behind : drop (length key) buffer ≡ drop (length key) out = ap₂ drop long front ∙ drop_at (least_rotation row) (drop (length (least_rotation row)) out) (length row) size ∙ ap (λ n. drop n out) (size ∙ sym long) in
        rw accepts (refl, w ∙ ap (λ r. fronted r buffer) same ∙ ap (λ b. key ++ b) behind ∙ ap (λ r. fronted r out) (sym (key_over row found_sized.some (ap is_bracelet (sym key_part) ∙ sym t))))
