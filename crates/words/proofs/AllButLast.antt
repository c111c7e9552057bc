-- A row by all but its last symbol: its period from theirs.
use mathlib.Core.List.{List, [], ◌∷◌}
use mathlib.Core.Path.{ap, refl, sym, ◌∙◌, ◌≡◌}
use Prim.Native.Nat.{suc, ℕ, ◌+◌, ◌-◌, ◌<◌}
use native.Mathlib.Omega.{arith}
use lib.ListN.{get_or, length, take}
use lib.Seq.{get_or-take, length-take-le, take-length, take-suc}
use Rattle.words.proofs.ScanMore.{more_barred, more_higher, more_lower, more_same, scan_one}
use Rattle.words.specs.InnerScan.{coded, next, scan, ◌▹◌}

module _ (a : List ℕ) (h : 0 < length a) where
  abbrev front : List ℕ
  front = take (length a - 1) a

  abbrev last : ℕ
  last = get_or a (length a - 1) 0

  pub front_length : length front ≡ length a - 1
  front_length = length-take-le (length a - 1) a (omega arith)

  pub by_last : front ▹ last ≡ a
  by_last =
      let e : suc (length a - 1) ≡ length a = omega arith in
      sym (take-suc a (length a - 1) 0 (omega arith)) ∙ ap (λ k. take k a) e ∙ take-length a

  -- ---- the period, from that of the front

  pub after_one : length a - 1 ≡ 0 → coded 1 ≡ scan a
  after_one e = go a refl
    where
      go : (w : List ℕ) → a ≡ w → coded 1 ≡ scan a
      go [] f = absurd (omega (arith, ap length f))
      go (b ∷ []) f = sym (ap scan f ∙ scan_one b)
      go (b ∷ (c ∷ w)) f = absurd (omega (arith, ap length f))

  module _ (p : ℕ) (some : 1 < length a) (e : coded p ≡ scan front) where
    long : 0 < length front
    long = omega (arith, front_length)

    pub after_barred : p ≡ 0 → coded 0 ≡ scan a
    after_barred f = more_barred front p last long e f ∙ ap scan by_last

    module _ (k : 0 < p) (l : p < length a) where
      compared : next p front ≡ get_or a (length a - 1 - p) 0
      unfolding next
      compared = rw front_length (get_or-take (length a - 1) a (length a - 1 - p) 0 (omega arith))

      pub after_lower : last < get_or a (length a - 1 - p) 0 → coded 0 ≡ scan a
      after_lower q = more_lower front p last long e k (rw compared q) ∙ ap scan by_last

      pub after_same : last ≡ get_or a (length a - 1 - p) 0 → coded p ≡ scan a
      after_same q = more_same front p last long e k (rw compared q) ∙ ap scan by_last

      pub after_higher : get_or a (length a - 1 - p) 0 < last → coded (length a - 1 + 1) ≡ scan a
      after_higher q =
          let s : length a - 1 + 1 ≡ suc (length front) = omega (arith, front_length) in
          rw s (more_higher front p last long e k (rw compared q) ∙ ap scan by_last)
