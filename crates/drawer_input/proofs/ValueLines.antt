-- A line of values: its numbers, the limit, and what stands behind the limit.
use mathlib.Core.Bool.{Bool, cond, false, not, true, ◌&&◌}
use mathlib.Core.List.{List, [], ◌++◌, ◌∷◌}
use mathlib.Core.Path.{ap, refl, subst, sym, ◌∙◌, ◌≡◌}
use Prim.Native.Nat.{ℕ, ◌+◌, ◌<◌, ◌≤◌}
use native.Mathlib.Omega.{arith}
use lib.Dec.{eqb}
use lib.ListN.{drop, length, length-append, length-drop, take}
use lib.Seq.{take-append_seam}
use borrow.Author.Tests.{eqb-false, ne_eqb, not-true}
use Rattle.text.proofs.Claims.{unspaced_bytes}
use Rattle.text.proofs.Every.{every_map}
use Rattle.text.proofs.Places.{SpacedAt, drop_on, spaced_found, spaced_read}
use Rattle.text.proofs.Runs.{Split, run_split, split_run}
use Rattle.drawer_input.specs.Input.{behind, limit_at, values_at}
use Rattle.text.specs.Ascii.{Every, IsUnspaced}
use Rattle.text.specs.Parts.{belongs, feed, run, spaced_at}
use Rattle.text.specs.declared.Bytes.TheVariants.{Unspaced}
use Rattle.text.specs.declared.Numeral.{Numeral}
use Rattle.text.proofs.Numerals.{read}
use Rattle.std.specs.Prelude.{Option, Some, None}
use Rattle.drawer_input.specs.declared.Values.{Values}
use Rattle.words.specs.Tests.{is_prefix}
use Rattle.words.proofs.Booleans.{and→, clash}
use Rattle.words.proofs.Lists.{is_prefix→, →is_prefix}

-- a line of values that was read
abbrev pub line : ℕ → ℕ → ℕ → ℕ → ℕ → Option Values
line n d kind start size = Some (record { stations = n; holes = d; kind = kind; start = start; size = size })

-- its parts, and 0 for none
abbrev part : (Values → ℕ) → Option Values → ℕ
part f (Some v) = f v
part f None = 0

module _ (s : List ℕ) (n d kind at size : ℕ) (e : size ≡ length (run Unspaced (drop at s))) where
  pub no_limit : size ≡ 0 → None ≡ limit_at s n d kind at
  unfolding limit_at
  no_limit z = rw (← e, z)

  pub no_end : (size ≡ 0 → ⊥) → is_prefix (feed ∷ []) (drop (at + size) s) ≡ false → None ≡ limit_at s n d kind at
  unfolding limit_at
  no_end z h = rw (← e, ne_eqb size 0 z, h)

  pub ended : (size ≡ 0 → ⊥) → is_prefix (feed ∷ []) (drop (at + size) s) ≡ true → line n d kind at size ≡ limit_at s n d kind at
  unfolding limit_at
  ended z h = rw (← e, ne_eqb size 0 z, h)

module _ (s : List ℕ) (at : ℕ) where
  pub no_stations : None ≡ spaced_at s at → None ≡ values_at s at
  unfolding values_at
  no_stations e = rw (← e)

  module _ (n p : ℕ) (e : read n p ≡ spaced_at s at) where
    pub no_holes : None ≡ spaced_at s p → None ≡ values_at s at
    unfolding values_at
    no_holes f = rw (← e, ← f)

    module _ (d q : ℕ) (f : read d q ≡ spaced_at s p) where
      pub no_kind : None ≡ spaced_at s q → None ≡ values_at s at
      unfolding values_at
      no_kind g = rw (← e, ← f, ← g)

      pub to_limit : (kind start : ℕ) → read kind start ≡ spaced_at s q → (r : Option Values) → r ≡ limit_at s n d kind start → r ≡ values_at s at
      unfolding values_at
      to_limit kind start g r h = rw (← e, ← f, ← g) h

-- ---- what stands at a place, by the parts of the text from there on

-- a limit and a line feed
pub record LimitAt (s : List ℕ) (at size : ℕ) : Type 0 where
  pub bytes : List ℕ
  pub more : List ℕ
  pub whole : drop at s ≡ bytes ++ (feed ∷ more)
  pub some : 1 ≤ length bytes
  pub unspaced : Every IsUnspaced bytes
  pub long : size ≡ length bytes

abbrev pub limit_here : (s : List ℕ) (at : ℕ) (bytes more : List ℕ) → 1 ≤ length bytes → Every IsUnspaced bytes
    → drop at s ≡ bytes ++ (feed ∷ more) → LimitAt s at (length bytes)
limit_here s at bytes more h u e =
    record { bytes = bytes; more = more; whole = e; some = h; unspaced = u; long = refl }

module _ {s : List ℕ} {at size : ℕ} (r : LimitAt s at size) where
  limit_split : Split Unspaced (drop at s) r.bytes
  unfolding belongs
  limit_split =
      record {
        rest = feed ∷ r.more;
        whole = r.whole;
        every = every_map (λ b. (unspaced_bytes b).1) r.bytes r.unspaced;
        stops = refl;
      }

  pub limit_bytes : take size (drop at s) ≡ r.bytes
  limit_bytes = ap (λ n. take n (drop at s)) r.long ∙ rw r.whole (take-append_seam r.bytes (feed ∷ r.more))

  limit_found : (n d kind : ℕ) → line n d kind at size ≡ limit_at s n d kind at
  limit_found n d kind =
      let end = ap (λ i. drop (at + i) s) r.long ∙ drop_on s at r.bytes (feed ∷ r.more) r.whole in
      ended s n d kind at size (r.long ∙ ap length (sym (split_run limit_split))) (λ z. omega arith)
      (rw end (→is_prefix (feed ∷ []) r.more))

-- three numbers, each with a space behind it, the limit and a line feed
pub record LineAt (s : List ℕ) (at n d kind start size : ℕ) : Type 0 where
  pub p : ℕ
  pub q : ℕ
  pub first : SpacedAt s at n p
  pub second : SpacedAt s p d q
  pub third : SpacedAt s q kind start
  pub last : LimitAt s start size

pub line_found : {s : List ℕ} {at n d kind start size : ℕ} → LineAt s at n d kind start size
    → line n d kind start size ≡ values_at s at
line_found {s} {at} {n} {d} {kind} {start} {size} r =
    to_limit s at n r.p (spaced_found r.first) d r.q (spaced_found r.second) kind start
    (spaced_found r.third) _ (limit_found r.last n d kind)

-- ---- what was read stands there

module _ (s : List ℕ) (n d k at : ℕ) {m e j a z : ℕ} where
  limit_read : line m e j a z ≡ limit_at s n d k at → (m ≡ n) × (e ≡ d) × (j ≡ k) × (a ≡ at) × LimitAt s at z
  unfolding limit_at
  limit_read = go (not (eqb size 0) && is_prefix (feed ∷ []) (drop (at + size) s)) refl
    where
      bytes : List ℕ
      bytes = run Unspaced (drop at s)

      size : ℕ
      size = length bytes

      go : (t : Bool) → (not (eqb size 0) && is_prefix (feed ∷ []) (drop (at + size) s)) ≡ t
          → line m e j a z ≡ cond t (line n d k at size) None
          → (m ≡ n) × (e ≡ d) × (j ≡ k) × (a ≡ at) × LimitAt s at z
      go true q h =
          let tests = and→ (not (eqb size 0)) (is_prefix (feed ∷ []) (drop (at + size) s)) q in
          let r = run_split Unspaced (drop at s) in
          let more = is_prefix→ (feed ∷ []) (drop (at + size) s) tests.1 in
          let some = eqb-false size 0 (not-true _ tests.0) in
          let end : r.rest ≡ feed ∷ more.0 = sym (drop_on s at bytes r.rest r.whole) ∙ more.1 in
          let unspaced = every_map (λ b. (unspaced_bytes b).0) bytes r.every in
          let there = limit_here s at bytes more.0 (omega arith) unspaced (r.whole ∙ ap (λ l. bytes ++ l) end) in
          let long : size ≡ z = sym (ap (part (λ v. v.size)) h) in
          (ap (part (λ v. v.stations)) h, ap (part (λ v. v.holes)) h, ap (part (λ v. v.kind)) h, ap (part (λ v. v.start)) h, subst (LimitAt s at) long there)
      go false q h = clash (cc)

behind-spaced : {P : Type 0} {m e j a z : ℕ} (s : List ℕ) (at : ℕ) (f : ℕ → ℕ → Option Values)
    → ((v p : ℕ) → SpacedAt s at v p → line m e j a z ≡ f v p → P) → line m e j a z ≡ behind (spaced_at s at) f → P
behind-spaced {P} {m} {e} {j} {a} {z} s at f go = which (spaced_at s at) refl
  where
    which : (x : Option Numeral) → x ≡ spaced_at s at → line m e j a z ≡ behind x f → P
    which (Some x) q h = go x.value x.next (spaced_read s at x.value x.next q) h
    which None q h = clash (cc)

pub line_read : (s : List ℕ) (at : ℕ) {m e j a z : ℕ} → line m e j a z ≡ values_at s at → LineAt s at m e j a z
unfolding values_at
line_read s at =
    behind-spaced s at _
    (λ n p f.
    behind-spaced s p _
    (λ d q g.
    behind-spaced s q (limit_at s n d)
    (λ kind start i l.
    let r = limit_read s n d kind start l in
    rw (r.0, r.1, r.2, r.3) (record { p = p; q = q; first = f; second = g; third = i; last = r.4 }))))

-- the limit lies within the text, with a byte behind it
pub line_inside : (s : List ℕ) (at : ℕ) {m e j a z : ℕ} → line m e j a z ≡ values_at s at → a + z < length s
line_inside s at {m} {e} {j} {a} {z} h =
    let r = (line_read s at h).last in
    omega (arith, length-drop a s, simp length-append at (ap length r.whole))
