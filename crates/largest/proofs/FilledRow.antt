-- An array of 64 symbols that holds a balanced row as far as a place, and one symbol from there on.
use mathlib.Core.List.{List, [], append_assoc, append-nil, ◌++◌, ◌∷◌}
use mathlib.Core.Path.{ap, refl, sym, ◌∙◌, ◌≡◌}
use Prim.Native.Nat.{suc, ℕ, ◌*◌, ◌+◌, ◌-◌, ◌<◌, ◌≤◌}
use native.Mathlib.Nat.{zero-add}
use native.Mathlib.Omega.{arith}
use lib.ListN.{length, length-append, length-replicate, replicate, replicate-append-replicate, set, take}
use lib.Seq.{set_at, take_at}
use Rattle.density.proofs.BalancedRow.{balanced-append, balanced-length}
use Rattle.largest.proofs.FewBlocks.{FewBlock, few_block_row}
use Rattle.largest.proofs.ManyBlocks.{ManyBlock, many_block_row}
use Rattle.largest.proofs.RowSymbols.{balanced-ones, balanced-zeros}
use Rattle.density.specs.InnerBalanced.{balanced, balanced_from}
use Rattle.refusal.specs.Verdicts.{most_stations}

pub record Filled (n d v p : ℕ) (row : List ℕ) : Type 0 where
  pub rest : ℕ
  pub size : p + rest ≡ most_stations
  pub split : row ≡ balanced_from n d 0 p ++ replicate rest v

pub filled_none : (n d v : ℕ) → Filled n d v 0 (replicate most_stations v)
unfolding balanced_from
filled_none n d v = record { rest = most_stations; size = refl; split = refl }

-- a store behind g of the symbols that fill the rest
set-behind : (w : List ℕ) (p g m v x : ℕ) → length w ≡ p → set (w ++ replicate (g + suc m) v) (p + g) x ≡ (w ++ (replicate g v ++ (x ∷ []))) ++ replicate m v
set-behind w p g m v x e =
    rw (← replicate-append-replicate g (suc m) v, ← append_assoc w (replicate g v) (v ∷ replicate m v))
    (set_at (w ++ replicate g v) v (replicate m v) x (p + g) (simp (length-append, length-replicate) (omega arith)) ∙ simp append_assoc)

-- a store in front of g of them
set_before : (w : List ℕ) (p g m v x : ℕ) → length w ≡ p → set (w ++ replicate (suc (g + m)) v) p x ≡ (w ++ (x ∷ replicate g v)) ++ replicate m v
set_before w p g m v x e =
    set_at w v (replicate (g + m) v) x p e ∙ rw (← replicate-append-replicate g m v) (simp append_assoc)

module _ (n d : ℕ) (pos : 0 < n) where
  piece : (p q : ℕ) → balanced_from n d 0 (p + q) ≡ balanced_from n d 0 p ++ balanced_from n d p q
  piece p q = balanced-append n d pos p q 0 ∙ rw zero-add

  pub filled_whole : {v : ℕ} {row : List ℕ} → Filled n d v n row → take n row ≡ balanced n d
  filled_whole w = ap (take n) w.split ∙ take_at (balanced n d) _ n (balanced-length n d pos n 0)

  -- a piece of q symbols more, of which one was stored
  longer : (v p q r m : ℕ) (w row : List ℕ) → p + q ≡ r → r + m ≡ most_stations → w ≡ balanced_from n d p q → row ≡ (balanced_from n d 0 p ++ w) ++ replicate m v → Filled n d v r row
  longer v p q r m w row at e f s = record { rest = m; size = e; split = s ∙ rw (← at, f, piece p q) }

  -- a block of few holes: the 1 behind its zeros
  pub few_filled : (p k g : ℕ) (row : List ℕ) → 0 < d → 2 * d ≤ n → n ≤ most_stations → FewBlock n d p k g → Filled n d 0 p row → Filled n d 0 (suc (p + g)) (set row (p + g) 1)
  unfolding balanced_from
  few_filled p k g row z h l b w =
      let m : ℕ = most_stations - suc (p + g) in
      let all : w.rest ≡ g + suc m = omega (arith, b.room, w.size) in
      longer 0 p (suc g) (suc (p + g)) m (replicate g 0 ++ (1 ∷ [])) _ (omega arith) (omega (arith, b.room)) (few_block_row n d z h p k g 0 (suc g) [] b (omega arith) refl)
      (rw (w.split, all) (set-behind (balanced_from n d 0 p) p g m 0 1 (balanced-length n d pos p 0)))

  -- a block of many holes: the 0 in front of its ones
  pub many_filled : (z p k g : ℕ) (row : List ℕ) → 0 < z → d + z ≡ n → 2 * z ≤ n → n ≤ most_stations → ManyBlock n d z p k g → Filled n d 1 p row → Filled n d 1 (suc (p + g)) (set row p 0)
  unfolding balanced_from
  many_filled z p k g row zp e h l b w =
      let m : ℕ = most_stations - suc (p + g) in
      let all : w.rest ≡ suc (g + m) = omega (arith, b.room, w.size) in
      longer 1 p (suc g) (suc (p + g)) m (0 ∷ replicate g 1) _ (omega arith) (omega (arith, b.room)) (rw (append-nil {A = ℕ} (replicate g 1)) at (many_block_row n d z zp e h p k g 0 (suc g) [] b (omega arith) refl))
      (rw (w.split, all) (set_before (balanced_from n d 0 p) p g m 1 0 (balanced-length n d pos p 0)))

-- rows of no holes and of nothing but holes
take-replicate : (n v : ℕ) → n ≤ most_stations → take n (replicate most_stations v) ≡ replicate n v
take-replicate n v h =
    let all : most_stations ≡ n + (most_stations - n) = omega arith in
    ap (take n) (ap (λ m. replicate m v) all ∙ sym (replicate-append-replicate n (most_stations - n) v))
    ∙ take_at (replicate n v) (replicate (most_stations - n) v) n (length-replicate n v)

pub zeros_row : (n d : ℕ) → 0 < n → n ≤ most_stations → d ≡ 0 → take n (replicate most_stations 0) ≡ balanced n d
zeros_row n d p h e = rw e (take-replicate n 0 h ∙ sym (balanced-zeros n p))

pub ones_row : (n d : ℕ) → 0 < n → n ≤ most_stations → d ≡ n → take n (replicate most_stations 1) ≡ balanced n d
ones_row n d p h e = rw e (take-replicate n 1 h ∙ sym (balanced-ones n p))
