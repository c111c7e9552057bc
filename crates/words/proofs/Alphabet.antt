-- Rows over an alphabet of k symbols: parts of them, rows put together, one symbol stored.
use mathlib.Core.List.{List, [], ◌++◌, ◌∷◌}
use Prim.Native.Nat.{suc, zero, ℕ, ◌<◌}
use native.Mathlib.Omega.{arith}
use lib.ListN.{replicate, set, take}
use Rattle.words.specs.InnerScan.{◌▹◌}
use Rattle.words.specs.Symbols.{Within}

pub within_nil : {k : ℕ} → Within k []
within_nil i l = absurd (omega arith)

pub within_cons : {k x : ℕ} (w : List ℕ) → x < k → Within k w → Within k (x ∷ w)
within_cons w h a zero l = h
within_cons w h a (suc i) l = a i (omega arith)

pub within_tail : {k : ℕ} (x : ℕ) (w : List ℕ) → Within k (x ∷ w) → Within k w
within_tail x w a i l = a (suc i) (omega arith)

pub within_replicate : {k : ℕ} (n x : ℕ) → x < k → Within k (replicate n x)
within_replicate zero x h = within_nil
within_replicate (suc n) x h = within_cons (replicate n x) h (within_replicate n x h)

pub within_append : {k : ℕ} (a b : List ℕ) → Within k a → Within k b → Within k (a ++ b)
within_append [] b f g = g
within_append (c ∷ a) b f g = within_cons (a ++ b) (f 0 (omega arith)) (within_append a b (within_tail c a f) g)

pub within_snoc : {k : ℕ} (a : List ℕ) (b : ℕ) → Within k a → b < k → Within k (a ▹ b)
within_snoc a b f h = within_append a (b ∷ []) f (within_replicate 1 b h)

pub within_take : {k : ℕ} (n : ℕ) (a : List ℕ) → Within k a → Within k (take n a)
within_take zero a f = within_nil
within_take (suc n) [] f = f
within_take (suc n) (b ∷ a) f = within_cons (take n a) (f 0 (omega arith)) (within_take n a (within_tail b a f))

pub within_set : {k : ℕ} (a : List ℕ) (i b : ℕ) → Within k a → b < k → Within k (set a i b)
within_set [] i b f h = f
within_set (c ∷ a) zero b f h = within_cons a h (within_tail c a f)
within_set (c ∷ a) (suc i) b f h = within_cons (set a i b) (f 0 (omega arith)) (within_set a i b (within_tail c a f) h)
